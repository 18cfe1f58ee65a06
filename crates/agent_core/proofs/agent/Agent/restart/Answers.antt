-- A restart opens one of the states that it may find, or leaves the agent down.
use Rattle.std.proofs.Common.{sym, subst}
use Rattle.std.specs.Prelude.{Err, Ok}
use Rattle.disk_model.specs.Disk.{Makes}
use Rattle.journal.specs.declared.open_fault.OpenFault.{OpenFault}
use Rattle.open_store.specs.Reopens.{LeavesAnew}
use Rattle.row_opening.specs.Opened.{IsReopeningUnder}
use Rattle.open_store.proofs.ReopenLemmas.{same_err, same_ok}
use Rattle.row_opening.proofs.Calls.{made_ok}
use Rattle.row_opening.proofs.Steps.{makes_refused}
use Rattle.agent_core.proofs.RestartLemmas.{fewer_after, restart_calls, restart_moments}
use Rattle.agent_core.proofs.RestartLemmas.{restart_opened, restart_refused}
use Rattle.agent_core.proofs.agent.Agent.restart.Goals as goal

pub returns-in-Ok-clause-means : goal.returns-in-Ok-clause-means
returns-in-Ok-clause-means g c =
    restart_opened g.D.Disk.view _ c.args.self.now c.self.inside.list.now c.self.view_is
    c.self.invariant.rules c.self.invariant.digest c.go_on.new.self
    (g.D.Disk.view c.go_on.new.self.disk) c.in-Ok.opened.journal c.in-Ok.opened.parts
    c.go_on.result c.in-Ok.ensures.found c.go_on.ensures.kept c.go_on.ensures.seen

pub returns-in-Ok-clause-any_moment : goal.returns-in-Ok-clause-any_moment
returns-in-Ok-clause-any_moment g c =
    let v = g.D.Disk.view c.self.inside.store.disk in
    restart_moments g.D.Disk.view _ c.args.self.now c.self.inside.list.now c.self.view_is
    c.self.invariant.rules c.self.invariant.digest (Ok c.in-Ok.opened) (Ok c.go_on.result)
    (g.D.Disk.view c.go_on.new.self.disk) (same_ok c.in-Ok.opened c.go_on.result)
    (g.met.D.Disk.lawful c.self.inside.store.disk)
    (subst
    (λ d. LeavesAnew (Ok c.in-Ok.opened) v (g.D.Disk.view d)
    (IsReopeningUnder c.self.inside.list.now v))
    (sym c.go_on.ensures.disk) c.in-Ok.ensures.any_moment)

pub returns-in-Err-clause-means : goal.returns-in-Err-clause-means
returns-in-Err-clause-means g c =
    restart_refused g.D.Disk.view _ c.args.self.now c.self.inside.list.now c.self.view_is
    c.self.invariant.rules c.self.invariant.digest c.power_after-self-inside.result
    c.reopen_rows.new.disk c.in-Err.why c.power_after-self-inside.ensures c.in-Err.ensures.excused
    (λ tells stores.
    fewer_after (Err c.in-Err.why) c.self.inside.list.now
    (g.D.Disk.view c.self.inside.store.disk) (g.D.Disk.view c.reopen_rows.new.disk)
    (g.met.D.Disk.lawful c.self.inside.store.disk) (g.met.D.Disk.lawful c.reopen_rows.new.disk)
    c.in-Err.ensures.any_moment stores)

pub returns-in-Err-clause-any_moment : goal.returns-in-Err-clause-any_moment
returns-in-Err-clause-any_moment g c =
    restart_moments g.D.Disk.view _ c.args.self.now c.self.inside.list.now c.self.view_is
    c.self.invariant.rules c.self.invariant.digest (Err c.in-Err.why) (Err c.in-Err.why)
    (g.D.Disk.view c.reopen_rows.new.disk) (same_err c.in-Err.why)
    (g.met.D.Disk.lawful c.self.inside.store.disk) c.in-Err.ensures.any_moment

pub returns-in-Ok-clause-calls : goal.returns-in-Ok-clause-calls
returns-in-Ok-clause-calls g c =
    let v = g.D.Disk.view c.self.inside.store.disk in
    restart_calls g.D.Disk.view _ c.args.self.now c.self.inside.list.now c.self.view_is
    c.self.invariant.rules c.self.invariant.digest (Ok c.go_on.result)
    (g.D.Disk.view c.go_on.new.self.disk)
    (λ tells stores.
    subst (λ d. Makes {E = OpenFault} 1 (Ok c.go_on.result) v (g.D.Disk.view d)) (sym c.go_on.ensures.disk)
    (made_ok 1 c.in-Ok.opened c.go_on.result v _ (c.in-Ok.ensures.calls tells stores)))

pub returns-in-Err-clause-calls : goal.returns-in-Err-clause-calls
returns-in-Err-clause-calls g c =
    let v = g.D.Disk.view c.self.inside.store.disk in
    restart_calls g.D.Disk.view _ c.args.self.now c.self.inside.list.now c.self.view_is
    c.self.invariant.rules c.self.invariant.digest (Err c.in-Err.why)
    (g.D.Disk.view c.reopen_rows.new.disk)
    (λ tells stores. makes_refused c.in-Err.why 1 v _ (c.in-Err.ensures.calls tells stores))
