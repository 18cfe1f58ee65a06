use Rattle.std.proofs.Common.{false, not, get_or, ap, ◌∙◌}
use Rattle.std.specs.Prelude.{◌||◌, ◌==◌}
use Rattle.frame_tree.proofs.SetLemmas.{set-but}
use Rattle.frame_tree.proofs.sets.frames_below.Goals as goal

pub returns : goal.returns
returns c = record {
  set = λ n.
      ap (λ s. not (get_or s n false)) c.put.ensures.put
      ∙ set-but c.args.frame n c.frames_from-below.result c.put.ensures.low
      ∙ ap (λ b. n == c.args.frame || not b) (c.frames_from-below.ensures.set n);
}
