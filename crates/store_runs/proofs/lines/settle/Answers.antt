use Rattle.store_runs.proofs.AgentLemmas.{nothing_called}
use Rattle.store_runs.proofs.lines.settle.Goals as goal

pub returns-in-Ok-clause-settled : goal.returns-in-Ok-clause-settled
returns-in-Ok-clause-settled g c = (
  c.in-Ok.ensures.written,
  c.in-Ok.ensures.cause.still,
  nothing_called g.D.Disk.view c.args.agent.now,
)
