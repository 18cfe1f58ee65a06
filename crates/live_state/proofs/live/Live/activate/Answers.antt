-- The frames of the tab at the place, or of none.
use Rattle.std.proofs.Common.{ap, refl, rules}
use Rattle.std.proofs.lemmas.Int.{to_z-of_z}
use Rattle.frame_tree.specs.Tree.{has_frame}
use Rattle.frame_tree.specs.Calls.{IsDoneAt, activated}
use Rattle.live_state.proofs.FramesInPlaceLemmas.{IsWritten, changes-in, framed, frames-gap, indexed-in, written}
use Rattle.live_state.proofs.live.Live.activate.Goals as goal
use Rattle.live_state.proofs.live.Live.activate.Goals.{After-self-1}

changed : (c : After-self-1) → IsWritten c.args.at.tab c.args.self.now.tabs c.self.inside.tabs.items c.in-Ok.place c.at_mut.result.now c.activate.new.self
changed c = written c.in-Ok.ensures.place (search rules) c.at_mut.ensures.value c.activate.ensures.changes.number (ap (λ live. live.tabs) c.self.view_is)

pub invariant_of-self : goal.invariant_of-self
invariant_of-self c =
    indexed-in (changed c) c.activate.ensures.changes c.self.inside.sites.numbers c.self.invariant

pub returns-in-Ok-clause-activated : goal.returns-in-Ok-clause-activated
returns-in-Ok-clause-activated c =
    let fits = c.ranges.now in
    framed (changed c) (λ before after. IsDoneAt c.args.at.frame before after (activated c.args.at.frame c.args.now before) c.activate.result)
    (simp to_z-of_z at c.activate.ensures.activated)

pub returns-in-Ok-clause-changes : goal.returns-in-Ok-clause-changes
returns-in-Ok-clause-changes c = changes-in (changed c) c.activate.ensures.changes _ c.self.view_is

pub returns-in-Err-clause-activated : goal.returns-in-Err-clause-activated
returns-in-Err-clause-activated c =
    let none = frames-gap c.self.inside.tabs.items c.in-Err.ensures.place (ap (λ live. live.tabs) c.self.view_is) in
    (ap (has_frame c.args.at.frame) none, refl)
