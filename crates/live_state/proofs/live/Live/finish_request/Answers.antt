-- The frames of the tab at the place, or of none.
use Rattle.std.proofs.Common.{ap, refl, rules}
use Rattle.frame_tree.specs.Tree.{has_frame}
use Rattle.frame_tree.specs.Calls.{IsDoneAt}
use Rattle.live_state.specs.FramesInPlace.{requested}
use Rattle.live_state.proofs.FramesInPlaceLemmas.{IsWritten, changes-in, framed, frames-gap, indexed-in, written}
use Rattle.live_state.proofs.live.Live.finish_request.Goals as goal
use Rattle.live_state.proofs.live.Live.finish_request.Goals.{After-self-1}

changed : (c : After-self-1) → IsWritten c.args.at.tab c.args.self.now.tabs c.self.inside.tabs.items c.in-Ok.place c.at_mut.result.now c.finish_request.new.self
changed c = written c.in-Ok.ensures.place (search rules) c.at_mut.ensures.value c.finish_request.ensures.changes.number (ap (λ live. live.tabs) c.self.view_is)

pub invariant_of-self : goal.invariant_of-self
invariant_of-self c =
    indexed-in (changed c) c.finish_request.ensures.changes c.self.inside.sites.numbers c.self.invariant

pub returns-in-Ok-clause-requested : goal.returns-in-Ok-clause-requested
returns-in-Ok-clause-requested c =
    framed (changed c) (λ before after. IsDoneAt c.args.at.frame before after (requested c.args.gives c.args.consumes c.args.at.frame before) c.finish_request.result)
    c.finish_request.ensures.requested

pub returns-in-Ok-clause-changes : goal.returns-in-Ok-clause-changes
returns-in-Ok-clause-changes c = changes-in (changed c) c.finish_request.ensures.changes _ c.self.view_is

pub returns-in-Err-clause-requested : goal.returns-in-Err-clause-requested
returns-in-Err-clause-requested c =
    let none = frames-gap c.self.inside.tabs.items c.in-Err.ensures.place (ap (λ live. live.tabs) c.self.view_is) in
    (ap (has_frame c.args.at.frame) none, refl)
