use Rattle.std.proofs.Common.{map, reverse, take}
use Rattle.std.specs.Prelude.{option_copied, option_map}
use Rattle.origin_site.specs.Plain.{plain_origin}
use Rattle.frame_tree.specs.Calls.{is_activated}
use Rattle.frame_tree.specs.Plain.{plain_frame}
use Rattle.frame_tree.specs.Sets.{IsSetOf, found}
use Rattle.frame_tree.proofs.sets.activated_by.Given as goal

abbrev pub invariant-loop-f : goal.invariant-loop-f
invariant-loop-f l =
    let test = is_activated l.frame (option_map plain_origin (option_copied l.origin)) (map plain_frame l.frames) in
    IsSetOf (λ n. found test n (reverse (map plain_frame (take l.f-index l.frames)))) l.set
