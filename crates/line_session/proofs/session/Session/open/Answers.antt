use Rattle.std.proofs.Common.{arith, subst}
use Rattle.durable_model.specs.Histories.{opened_at}
use Rattle.store_runs.proofs.DiskLemmas.{just_here}
use Rattle.line_session.proofs.SessionLemmas.{begins}
use Rattle.store_runs.specs.FaultCounts.{RoseSince}
use Rattle.store_runs.proofs.LoopLemmas.{opens_up}
use Rattle.store_runs.proofs.PowerLemmas.{counts_up}
use Rattle.line_session.proofs.session.Session.open.Goals as goal

pub returns-in-Ok-clause-seen : goal.returns-in-Ok-clause-seen
returns-in-Ok-clause-seen g c =
    let is = c.in-Ok.ensures in
    let base = is.seen.0 in
    let just = just_here c.args.list.now c.args.start 1 c.args.checkpoint (g.D.Disk.view c.args.disk)
    (g.D.Disk.view c.in-Ok.agent.disk) c.in-Ok.agent base is.rules.0 is.rules.1 is.rules.2 is.rules.3
    (omega arith) is.seen.3.0 is.seen.3.1 in (
      base,
      is.seen.1,
      is.seen.2,
      (begins g.D.Disk.view _ (opened_at c.args.start base) is.rules.2 just, is.seen.3.2, is.seen.3.3),
    )

pub returns-in-Ok-clause-counts : goal.returns-in-Ok-clause-counts
returns-in-Ok-clause-counts g c =
    let is = c.in-Ok.ensures in
    subst (λ n. RoseSince g.D.Disk.view n c.in-Ok.agent) is.others.faults
    (counts_up g.D.Disk.view c.in-Ok.agent (is.seen.3.0.up.0 (opens_up c.args.list.now.rules (opened_at c.args.start is.seen.0))))

pub returns-in-Err-clause-counts : goal.returns-in-Err-clause-counts
returns-in-Err-clause-counts g c = λ device. (c.in-Err.ensures.device device).0
