use Rattle.std.proofs.Common.{◌≡◌, map, take}
use Rattle.frame_tree.specs.Kept.{kept_frame}
use Rattle.frame_tree.proofs.frames.copies_of.Given as goal

abbrev pub invariant-loop-f : goal.invariant-loop-f
invariant-loop-f l = map kept_frame l.copies.items ≡ map kept_frame (take l.f-index l.frames)
