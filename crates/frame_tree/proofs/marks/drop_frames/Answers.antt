-- What is retained is what the set does not have.
use Rattle.std.proofs.Common.{rules, false, not, get_or}
use Rattle.std.proofs.lemmas.Fn.{filter_same}
use Rattle.frame_tree.proofs.marks.drop_frames.Goals as goal

pub returns : goal.returns
returns c = record {
  dropped =
      filter_same _ (λ f. not (get_or c.args.gone.now f.frame false)) _ (λ x b f' k. search rules) _ _ c.retain.ensures.filtered;
}
