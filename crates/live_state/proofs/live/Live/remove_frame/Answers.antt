-- The frames of the tab at the place, or of none.
use Rattle.std.proofs.Common.{ap, refl, rules}
use Rattle.frame_tree.specs.Tree.{has_frame}
use Rattle.frame_tree.specs.Calls.{IsDoneAt, without}
use Rattle.live_state.proofs.FramesInPlaceLemmas.{IsWritten, changes-in, framed, frames-gap, indexed-in, written}
use Rattle.live_state.proofs.live.Live.remove_frame.Goals as goal
use Rattle.live_state.proofs.live.Live.remove_frame.Goals.{After-self-1}

changed : (c : After-self-1) → IsWritten c.args.at.tab c.args.self.now.tabs c.self.inside.tabs.items c.in-Ok.place c.at_mut.result.now c.remove_frame.new.self
changed c = written c.in-Ok.ensures.place (search rules) c.at_mut.ensures.value c.remove_frame.ensures.changes.number (ap (λ live. live.tabs) c.self.view_is)

pub invariant_of-self : goal.invariant_of-self
invariant_of-self c =
    indexed-in (changed c) c.remove_frame.ensures.changes c.self.inside.sites.numbers c.self.invariant

pub returns-in-Ok-clause-removed : goal.returns-in-Ok-clause-removed
returns-in-Ok-clause-removed c =
    framed (changed c) (λ before after. IsDoneAt c.args.at.frame before after (without c.args.at.frame before) c.remove_frame.result)
    c.remove_frame.ensures.removed

pub returns-in-Ok-clause-changes : goal.returns-in-Ok-clause-changes
returns-in-Ok-clause-changes c = changes-in (changed c) c.remove_frame.ensures.changes _ c.self.view_is

pub returns-in-Err-clause-removed : goal.returns-in-Err-clause-removed
returns-in-Err-clause-removed c =
    let none = frames-gap c.self.inside.tabs.items c.in-Err.ensures.place (ap (λ live. live.tabs) c.self.view_is) in
    (ap (has_frame c.args.at.frame) none, refl)
