-- The top is frame 0.
use Rattle.std.proofs.Common.{List, map, reverse, ap, sym, ◌∙◌}
use Rattle.frame_tree.specs.Plain.{plain_frame}
use Rattle.frame_tree.specs.Tree.{PlainFrame, has_frame}
use Rattle.frame_tree.proofs.ShapeLemmas.{has-reversed}
use Rattle.frame_tree.proofs.TopLemmas.{has_zero}
use Rattle.frame_tree.proofs.tab.Tab.last_frame.Goals as goal

pub last_frame-requires : goal.last_frame-requires
last_frame-requires c = record {
  top =
      let fs : List PlainFrame = map plain_frame c.self.inside.frames.items in
      ap (λ frames. has_frame 0 (map plain_frame frames)) c.as_slice.ensures.value
      ∙ sym (has-reversed 0 fs)
      ∙ has_zero (reverse fs) c.self.invariant.tree;
}
