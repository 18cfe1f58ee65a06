use Rattle.std.proofs.Common.{map, reverse, ap, ◌∙◌}
use Rattle.frame_tree.specs.Calls.{is_activated}
use Rattle.frame_tree.specs.Plain.{plain_frame}
use Rattle.frame_tree.specs.Sets.{found}
use Rattle.frame_tree.proofs.sets.activated_with.Goals as goal

pub returns : goal.returns
returns c =
    let fs = map plain_frame c.args.frames.now in
    record { set = λ n. c.activated_by.ensures.set n ∙ ap (λ o. found (is_activated c.args.frame o fs) n (reverse fs)) c.origin_of.ensures.origin }
