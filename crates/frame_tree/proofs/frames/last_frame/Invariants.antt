-- A frame has the highest number so far.
use Rattle.std.proofs.Common.{◌≡◌, true, not, map, take}
use Rattle.std.specs.Prelude.{nat_lt}
use Rattle.std.specs.List.{list_all}
use Rattle.frame_tree.specs.Tree.{has_frame}
use Rattle.frame_tree.specs.Plain.{plain_frame}
use Rattle.frame_tree.proofs.frames.last_frame.Given as goal

abbrev pub invariant-loop-f : goal.invariant-loop-f
invariant-loop-f l = record {
  there : has_frame l.last (map plain_frame l.frames) ≡ true;
  highest : list_all (λ f. not (nat_lt l.last f.frame)) (take l.f-index l.frames) ≡ true;
}
