use Rattle.std.proofs.Common.{subst}
use Rattle.command_line.specs.declared.shows.Shown.TheVariants.{Script as OneScript}
use Rattle.origin_site.specs.Plain.{plain_site}
use Rattle.replay.specs.BeforeAfter.{from_to}
use Rattle.replay.specs.Readings.{HasScripts, ScriptCounts}
use Rattle.shown_scripts.specs.Shown.{IsShown}
use Rattle.store_runs.specs.Steps.{steps_of}
use Rattle.twins.specs.Settings.{setting}
use Rattle.show_commands.specs.Causes.{CauseOf, IsOf}
use Rattle.show_commands.specs.Shows.{IsTextOfScripts}
use Rattle.show_commands.proofs.ServeLemmas.{one_fine, one_read, shown_count, shown_ends, shown_text}
use Rattle.show_commands.proofs.scripts.write_script.Goals as goal

pub returns-in-Ok : goal.returns-in-Ok
returns-in-Ok g c =
    let list = c.args.list.now in
    let site = plain_site c.args.site.now in
    let options = c.args.options in
    let script = c.args.script.now in
    let left = from_to (g.I.Source.left script) (g.I.Source.left c.read_script.new.script) in
    let faults = from_to (g.I.Source.faults script) (g.I.Source.faults c.read_script.new.script) in
    let read = c.in-Ok.ensures.read in
    let result = c.show.result in
    let told = c.status.result in
    let is = c.status.ensures in
    let fine = one_fine list site options left read.0 in
    record {
      text = shown_text result told is (g.O.Sink.taken c.args.out.now) (g.O.Sink.taken c.show.new.out)
          (IsShown (setting list site options) (steps_of c.deref.result.now))
          (IsTextOfScripts OneScript list site options.start options.batch left)
          (λ text shown. one_read list site options left read.0 c.in-Ok.script read.1 text
          (subst (λ ls. IsShown (setting list site options) (steps_of ls) text) c.deref.ensures.value shown))
          c.show.ensures.text;
      scripts = shown_ends result told is (HasScripts (IsOf OneScript)) tt tt tt;
      script = shown_ends result told is (λ s. CauseOf OneScript s left.before) fine fine tt;
      read = shown_ends result told is (λ s. ScriptCounts s faults) c.in-Ok.ensures.still c.in-Ok.ensures.still c.in-Ok.ensures.still;
      write = shown_count result told is (g.O.Sink.faults c.args.out.now) (g.O.Sink.faults c.show.new.out) c.show.ensures.count;
    }
