use Rattle.std.proofs.Common.{Ok, sym, subst}
use Rattle.std.specs.Prelude.{IfSome}
use Rattle.script_actions.specs.Plain.{action_of}
use Rattle.script_actions.specs.declared.action.Action.{Action}
use Rattle.agent_model.specs.SiteStep.{act_in}
use Rattle.agent_memory.specs.ActionKinds.{document_action}
use Rattle.agent_memory.specs.Actions.{ActsIn}
use Rattle.agent_memory.specs.HoldingsView.{cells_of, held_of}
use Rattle.agent_memory.specs.Writes.{WritesIn}
use Rattle.agent_memory.proofs.WritesLemmas.{clicks_none, removes_none, takes_none, tells_none, writes_none}
use Rattle.agent_memory.proofs.holdings.Holdings.act.Goals as goal

pub returns-in-Frame-clause-acts : goal.returns-in-Frame-clause-acts
returns-in-Frame-clause-acts c = subst (λ (action : Action). IfSome (document_action (action_of action))
    (λ does. ActsIn c.args.at.tab (λ site. act_in c.args.input.now.list.now.rules c.args.input.now.clock site c.args.at does)
    c.args.self.now c.add_frame.new.self c.add_frame.result))
    (sym c.in-Frame.is) (rw c.deref.ensures at (rw c.as_slice-head.ensures.value at c.add_frame.ensures.acts))

pub returns-in-Fetch-clause-acts : goal.returns-in-Fetch-clause-acts
returns-in-Fetch-clause-acts c = subst (λ (action : Action). IfSome (document_action (action_of action))
    (λ does. ActsIn c.args.at.tab (λ site. act_in c.args.input.now.list.now.rules c.args.input.now.clock site c.args.at does)
    c.args.self.now c.fetch.new.self c.fetch.result))
    (sym c.in-Fetch.is) (rw c.deref-in-Fetch.ensures at (rw c.as_slice.ensures.value at c.fetch.ensures.acts))

pub returns-in-Nav-clause-acts : goal.returns-in-Nav-clause-acts
returns-in-Nav-clause-acts c = subst (λ (action : Action). IfSome (document_action (action_of action))
    (λ does. ActsIn c.args.at.tab (λ site. act_in c.args.input.now.list.now.rules c.args.input.now.clock site c.args.at does)
    c.args.self.now c.navigate_frame.new.self c.navigate_frame.result))
    (sym c.in-Nav.is) (rw c.deref-in-Nav.ensures at (rw c.as_slice-head-in-Nav.ensures.value at c.navigate_frame.ensures.acts))

pub returns-in-Frame-clause-changes : goal.returns-in-Frame-clause-changes
returns-in-Frame-clause-changes c =
    subst (λ (action : Action). IfSome (document_action (action_of action))
    (λ does. WritesIn c.args.at.tab (λ site. act_in c.args.input.now.list.now.rules c.args.input.now.clock site c.args.at does)
    c.args.self.now c.args.body.now.bytes c.add_frame.new.body.bytes c.add_frame.result))
    (sym c.in-Frame.is) (rw c.deref.ensures at (rw c.as_slice-head.ensures.value at c.add_frame.ensures.changes))

pub returns-in-Fetch-clause-changes : goal.returns-in-Fetch-clause-changes
returns-in-Fetch-clause-changes c =
    subst (λ (action : Action). IfSome (document_action (action_of action))
    (λ does. WritesIn c.args.at.tab (λ site. act_in c.args.input.now.list.now.rules c.args.input.now.clock site c.args.at does)
    c.args.self.now c.args.body.now.bytes c.fetch.new.body.bytes c.fetch.result))
    (sym c.in-Fetch.is) (rw c.deref-in-Fetch.ensures at (rw c.as_slice.ensures.value at c.fetch.ensures.changes))

pub returns-in-Nav-clause-changes : goal.returns-in-Nav-clause-changes
returns-in-Nav-clause-changes c =
    subst (λ (action : Action). IfSome (document_action (action_of action))
    (λ does. WritesIn c.args.at.tab (λ site. act_in c.args.input.now.list.now.rules c.args.input.now.clock site c.args.at does)
    c.args.self.now c.args.body.now.bytes c.navigate_frame.new.body.bytes c.navigate_frame.result))
    (sym c.in-Nav.is) (rw c.deref-in-Nav.ensures at (rw c.as_slice-head-in-Nav.ensures.value at c.navigate_frame.ensures.changes))

pub returns-in-Drop-clause-changes : goal.returns-in-Drop-clause-changes
returns-in-Drop-clause-changes c =
    let old = c.args.self.now in
    subst (λ (action : Action). IfSome (document_action (action_of action))
    (λ does. WritesIn c.args.at.tab (λ site. act_in c.args.input.now.list.now.rules c.args.input.now.clock site c.args.at does)
    old c.args.body.now.bytes c.args.body.now.bytes (c.remove_frame.result)))
    (sym c.in-Drop.is) (λ tab site found top. writes_none _
    (removes_none c.args.at tab (cells_of old) (held_of old)) c.args.body.now.bytes (c.remove_frame.result))

pub returns-in-Click-clause-changes : goal.returns-in-Click-clause-changes
returns-in-Click-clause-changes c =
    let old = c.args.self.now in
    subst (λ (action : Action). IfSome (document_action (action_of action))
    (λ does. WritesIn c.args.at.tab (λ site. act_in c.args.input.now.list.now.rules c.args.input.now.clock site c.args.at does)
    old c.args.body.now.bytes c.args.body.now.bytes (c.click.result)))
    (sym c.in-Click.is) (λ tab site found top. writes_none _
    (clicks_none c.args.input.now.clock c.args.at tab (cells_of old) (held_of old)) c.args.body.now.bytes (c.click.result))

pub returns-in-Events-clause-changes : goal.returns-in-Events-clause-changes
returns-in-Events-clause-changes c =
    let old = c.args.self.now in
    subst (λ (action : Action). IfSome (document_action (action_of action))
    (λ does. WritesIn c.args.at.tab (λ site. act_in c.args.input.now.list.now.rules c.args.input.now.clock site c.args.at does)
    old c.args.body.now.bytes c.args.body.now.bytes (Ok c.take.result)))
    (sym c.in-Events.is) (λ tab site found top. writes_none _
    (takes_none c.args.at tab (cells_of old) (held_of old)) c.args.body.now.bytes (Ok c.take.result))

pub returns-in-Has-clause-changes : goal.returns-in-Has-clause-changes
returns-in-Has-clause-changes c =
    let old = c.args.self.now in
    subst (λ (action : Action). IfSome (document_action (action_of action))
    (λ does. WritesIn c.args.at.tab (λ site. act_in c.args.input.now.list.now.rules c.args.input.now.clock site c.args.at does)
    old c.args.body.now.bytes c.args.body.now.bytes (c.has.result)))
    (sym c.in-Has.is) (λ tab site found top. writes_none _
    (tells_none c.args.input.now.list.now.rules c.args.input.now.clock c.args.at tab (cells_of old) (held_of old))
    c.args.body.now.bytes (c.has.result))
