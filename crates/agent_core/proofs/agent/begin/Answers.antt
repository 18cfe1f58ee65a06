-- Memory goes on with what the store stands for.
use Rattle.std.proofs.Common.{arith, refl}
use Rattle.agent_core.specs.declared.agent.Power.TheVariants.{Up}
use Rattle.agent_core.proofs.RestartLemmas.{resumed_seen}
use Rattle.agent_core.proofs.agent.begin.Goals as goal

pub returns-clause-seen : goal.returns-clause-seen
returns-clause-seen g c =
    resumed_seen c.args.list.now c.resume.result c.new.result c.args.opened.journal
    c.args.options.start c.changes-changes.result
    c.args.options.checkpoint Up c.args.disk (g.D.Disk.view c.args.disk)
    c.args.opened.parts c.lines_keep_durable_states.ensures.opens c.lines_have_spellings.ensures.opens
    c.resume.ensures.state c.resume.ensures.in_time
    (omega (arith, c.changes-changes.ensures, c.changes-changes.type_inv))
    c.changes-changes.ensures c.requires.opened c.new.ensures.body c.new.ensures.changes
    c.new.ensures.held (omega (arith, c.new.ensures.size, c.requires.batch.0)) refl
