-- Memory goes on with what the store stands for.
use Rattle.std.proofs.Common.{arith}
use Rattle.agent_core.proofs.RestartLemmas.{gone_on}
use Rattle.agent_core.proofs.agent.Agent.go_on.Goals as goal

pub returns-clause-seen : goal.returns-clause-seen
returns-clause-seen g c =
    gone_on g.D.Disk.view _ c.args.self.now c.self.inside.list.now.rules c.resume.result
    c.clear.new.self c.args.opened.journal c.changes-changes.result c.args.opened.parts
    c.self.view_is c.self.invariant.rules c.lines_keep_durable_states.ensures.opens
    c.lines_have_spellings.ensures.opens c.resume.ensures.state c.resume.ensures.in_time
    (omega (arith, c.changes-changes.ensures, c.changes-changes.type_inv))
    c.changes-changes.ensures c.requires.opened c.clear.ensures.body
    c.clear.ensures.changes c.clear.ensures.held
    (omega (arith, c.clear.ensures.size, c.self.invariant.least))
