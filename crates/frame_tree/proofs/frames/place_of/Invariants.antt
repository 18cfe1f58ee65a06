use Rattle.std.proofs.Common.{◌≡◌, map, drop}
use Rattle.frame_tree.specs.Tree.{has_frame}
use Rattle.frame_tree.specs.Plain.{plain_frame}
use Rattle.frame_tree.proofs.frames.place_of.Given as goal

abbrev pub invariant-loop-place : goal.invariant-loop-place
invariant-loop-place l =
    has_frame l.frame (map plain_frame (drop l.place l.frames)) ≡ has_frame l.frame (map plain_frame l.frames)
