use Rattle.std.proofs.Common.{◌≡◌, ◌++◌, map, take, drop}
use Rattle.std.specs.Prelude.{◌==◌, if◌then◌else◌}
use Rattle.frame_tree.specs.Calls.{flagged}
use Rattle.frame_tree.specs.Kept.{kept_frame, kept_with}
use Rattle.frame_tree.proofs.marks.flag.Given as goal

abbrev pub invariant-loop-f : goal.invariant-loop-f
invariant-loop-f l =
    map kept_frame (take l.f-index l.f-items)
    ++ map (λ k. if k.plain.frame == l.frame then kept_with flagged k else k) (map kept_frame (drop l.f-index l.f-items))
    ≡ map (λ k. if k.plain.frame == l.frame then kept_with flagged k else k) (map kept_frame l.initial.f-items)
