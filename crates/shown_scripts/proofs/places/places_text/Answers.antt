use Rattle.std.proofs.Common.{◌++◌, append_assoc, ap, ◌∙◌}
use Rattle.twins.specs.Scripts.{end_in, entries_in}
use Rattle.shown_scripts.specs.Lines.{line_at}
use Rattle.shown_scripts.specs.Differ.{differ_line}
use Rattle.shown_scripts.proofs.places.places_text.Goals as goal

pub returns : goal.returns
returns c =
    let place = c.args.place in
    let one = line_at place (entries_in c.args.one.now) (end_in c.args.one.now) in
    let other = line_at place (entries_in c.args.other.now) (end_in c.args.other.now) in
    let line = differ_line place c.args.first c.args.second in
    record {
      text = c.in_ok-put_at-2.ensures.line
          ∙ ap (λ t. t ++ other) (c.in_ok-put_at.ensures.line
          ∙ ap (λ t. t ++ one) c.in_ok-text.ensures.line)
          ∙ append_assoc line one other;
      first = c.in_ok-put_at.ensures.range;
      second = c.in_ok-put_at-2.ensures.range;
    }
