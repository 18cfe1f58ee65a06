use Rattle.std.proofs.Common.{map, take}
use Rattle.frame_tree.specs.Tree.{is_on_chain}
use Rattle.frame_tree.specs.Plain.{plain_frame}
use Rattle.frame_tree.specs.Sets.{IsSetOf}
use Rattle.frame_tree.proofs.sets.frames_from.Given as goal

abbrev pub invariant-loop-f : goal.invariant-loop-f
invariant-loop-f l = IsSetOf (λ n. is_on_chain l.frame n (map plain_frame (take l.f-index l.frames))) l.from
