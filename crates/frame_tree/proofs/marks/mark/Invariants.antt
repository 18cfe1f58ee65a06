use Rattle.std.proofs.Common.{◌≡◌, ◌++◌, map, take, drop, false, get_or}
use Rattle.std.specs.Prelude.{if◌then◌else◌}
use Rattle.frame_tree.specs.Calls.{with_mark}
use Rattle.frame_tree.specs.Kept.{kept_frame, kept_with}
use Rattle.frame_tree.proofs.marks.mark.Given as goal

abbrev pub invariant-loop-f : goal.invariant-loop-f
invariant-loop-f l =
    map kept_frame (take l.f-index l.f-items)
    ++ map (λ k. if get_or l.set k.plain.frame false then kept_with (with_mark l.moment) k else k) (map kept_frame (drop l.f-index l.f-items))
    ≡ map (λ k. if get_or l.set k.plain.frame false then kept_with (with_mark l.moment) k else k) (map kept_frame l.initial.f-items)
