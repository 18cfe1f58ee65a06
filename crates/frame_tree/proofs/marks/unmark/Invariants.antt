use Rattle.std.proofs.Common.{◌≡◌, ◌++◌, map, take, drop}
use Rattle.std.specs.Prelude.{None}
use Rattle.frame_tree.specs.Calls.{with_mark}
use Rattle.frame_tree.specs.Kept.{kept_frame, kept_with}
use Rattle.frame_tree.proofs.marks.unmark.Given as goal

abbrev pub invariant-loop-f : goal.invariant-loop-f
invariant-loop-f l =
    map kept_frame (take l.f-index l.f-items) ++ map (kept_with (with_mark None)) (map kept_frame (drop l.f-index l.f-items))
    ≡ map (kept_with (with_mark None)) (map kept_frame l.initial.f-items)
