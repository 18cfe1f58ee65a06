use Rattle.std.proofs.Common.{sym, subst}
use Rattle.std.specs.Prelude.{IfSome}
use Rattle.storage_key.specs.Plain.{plain_key}
use Rattle.script_actions.specs.Plain.{action_of}
use Rattle.script_actions.specs.declared.action.Action.{Action}
use Rattle.agent_memory.specs.ActionKinds.{by_keyed}
use Rattle.agent_memory.specs.Actions.{ActsAt}
use Rattle.agent_memory.specs.Writes.{WritesAt}
use Rattle.agent_memory.proofs.holdings.Holdings.write_under.Goals as goal

pub returns-in-Persist : goal.returns-in-Persist
returns-in-Persist c = record {
  acts = subst (λ (action : Action). IfSome (by_keyed c.args.input.now.list.now.rules c.args.input.now.clock (action_of action))
      (λ does. ActsAt c.args.at (plain_key c.args.key.now) does c.args.self.now c.persist.new.self c.persist.result))
      (sym c.in-Persist.is) (λ tab site found top document there. c.persist.ensures.acts document tab site found top);
  limit = c.persist.ensures.limit;
  changes = subst (λ (action : Action). IfSome (by_keyed c.args.input.now.list.now.rules c.args.input.now.clock (action_of action))
      (λ does. WritesAt c.args.at (plain_key c.args.key.now)
      does c.args.self.now c.args.body.now.bytes c.persist.new.body.bytes c.persist.result))
      (sym c.in-Persist.is) (λ tab site found top document there. c.persist.ensures.changes document tab site found top);
}

pub returns-in-SetCookie-clause-changes : goal.returns-in-SetCookie-clause-changes
returns-in-SetCookie-clause-changes c =
    subst (λ (action : Action). IfSome (by_keyed c.args.input.now.list.now.rules c.args.input.now.clock (action_of action))
    (λ does. WritesAt c.args.at (plain_key c.args.key.now)
    does c.args.self.now c.args.body.now.bytes c.set_cookie.new.body.bytes c.set_cookie.result))
    (sym c.in-SetCookie.is) (rw c.deref-in-SetCookie.ensures at c.set_cookie.ensures.changes)
