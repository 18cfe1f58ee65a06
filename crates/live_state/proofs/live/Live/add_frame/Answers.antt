-- The frames of the tab at the place, or of none.
use Rattle.std.proofs.Common.{◌≡◌, ap, inr, rules, sym, ◌∙◌}
use Rattle.std.specs.Prelude.{Err}
use Rattle.agent_base.specs.Answers.{Answers}
use Rattle.origin_site.specs.Plain.{plain_address}
use Rattle.frame_tree.specs.declared.tab.TreeFault.{TreeFault}
use Rattle.frame_tree.specs.declared.tab.TreeFault.TheVariants.{NoMemory}
use Rattle.frame_tree.specs.Calls.{added}
use Rattle.frame_tree.specs.Plain.{plain_sandbox}
use Rattle.live_state.proofs.FramesInPlaceLemmas.{IsWritten, changes-in, framed, frames-gap, indexed-in, written}
use Rattle.live_state.proofs.live.Live.add_frame.Goals as goal
use Rattle.live_state.proofs.live.Live.add_frame.Goals.{After-self-1}

changed : (c : After-self-1) → IsWritten c.args.at.tab c.args.self.now.tabs c.self.inside.tabs.items c.in-Ok.place c.at_mut.result.now c.add_frame.new.self
changed c = written c.in-Ok.ensures.place (search rules) c.at_mut.ensures.value c.add_frame.ensures.changes.number (ap (λ live. live.tabs) c.self.view_is)

pub invariant_of-self : goal.invariant_of-self
invariant_of-self c =
    indexed-in (changed c) c.add_frame.ensures.changes c.self.inside.sites.numbers c.self.invariant

pub returns-in-Ok-clause-answer : goal.returns-in-Ok-clause-answer
returns-in-Ok-clause-answer c =
    framed (changed c) (λ before after. Answers (λ _. after) NoMemory (added c.args.list.now.rules c.args.parent c.args.at.frame (plain_address c.args.address) (plain_sandbox c.args.sandbox) c.args.deny before) c.add_frame.result) c.add_frame.ensures.answer

pub returns-in-Ok-clause-decided : goal.returns-in-Ok-clause-decided
returns-in-Ok-clause-decided c =
    framed (changed c) (λ before after. (why : TreeFault) → added c.args.list.now.rules c.args.parent c.args.at.frame (plain_address c.args.address) (plain_sandbox c.args.sandbox) c.args.deny before ≡ Err why → c.add_frame.result ≡ Err why) c.add_frame.ensures.decided

pub returns-in-Ok-clause-changes : goal.returns-in-Ok-clause-changes
returns-in-Ok-clause-changes c = changes-in (changed c) c.add_frame.ensures.changes _ c.self.view_is

pub returns-in-Err-clause-answer : goal.returns-in-Err-clause-answer
returns-in-Err-clause-answer c =
    let none = frames-gap c.self.inside.tabs.items c.in-Err.ensures.place (ap (λ live. live.tabs) c.self.view_is) in
    inr (ap (added c.args.list.now.rules c.args.parent c.args.at.frame (plain_address c.args.address) (plain_sandbox c.args.sandbox) c.args.deny) none)

pub returns-in-Err-clause-decided : goal.returns-in-Err-clause-decided
returns-in-Err-clause-decided c = λ why is.
    let none = frames-gap c.self.inside.tabs.items c.in-Err.ensures.place (ap (λ live. live.tabs) c.self.view_is) in
    cc (sym (ap (added c.args.list.now.rules c.args.parent c.args.at.frame (plain_address c.args.address) (plain_sandbox c.args.sandbox) c.args.deny) none) ∙ is)
