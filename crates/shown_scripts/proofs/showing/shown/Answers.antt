use Rattle.std.proofs.lemmas.Result.{IfOk-weaker}
use Rattle.origin_site.specs.Plain.{plain_site}
use Rattle.store_runs.specs.Steps.{steps_of}
use Rattle.twins.specs.Scripts.{end_in, entries_in}
use Rattle.twins.specs.Settings.{setting}
use Rattle.shown_scripts.specs.Lines.{IsTextOf}
use Rattle.shown_scripts.specs.Shown.{IsShown}
use Rattle.shown_scripts.proofs.showing.shown.Goals as goal

pub returns : goal.returns
returns c =
    let at = setting c.args.list.now (plain_site c.args.site.now) c.args.options in
    let script = c.in_ok-script.script in
    record {
      text = IfOk-weaker c.text_of.result (λ text. IsTextOf script text.items) (λ text. IsShown at (steps_of c.args.lines.now) text.items)
          (λ text lines. record {
            entries = entries_in script;
            end = end_in script;
            given = c.in_ok-script.ensures.given.0;
            lines = lines;
          }) c.text_of.ensures.text;
    }
