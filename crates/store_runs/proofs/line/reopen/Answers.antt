use Rattle.std.proofs.Common.{sym, ap, subst, ◌∙◌}
use Rattle.std.specs.Prelude.{Ok, Err}
use Rattle.journal.specs.declared.open_fault.OpenFault.TheVariants as fault
use Rattle.reply_lines.specs.Reply.{reply_text}
use Rattle.agent_model.specs.Isolation.{printed}
use Rattle.unwinding.specs.Admissible.{Reopens}
use Rattle.printed_model.specs.Histories.{down_reply}
use Rattle.store_runs.specs.Endings.{ending_of}
use Rattle.store_runs.specs.Moments.{AnyMoment, StopsBefore}
use Rattle.store_runs.proofs.AgentLemmas.{called_as, restart_called, restart_stops, restart_text}
use Rattle.store_runs.proofs.PowerLemmas.{restart_counts_on}
use Rattle.store_runs.proofs.line.reopen.Goals as goal

pub returns-in-Ok-clause-ran : goal.returns-in-Ok-clause-ran
returns-in-Ok-clause-ran g c =
    let old = c.args.agent.now in
    let new = c.restart.new.self in
    called_as g.D.Disk.view old new _ Reopens (restart_text (Ok c.in-Ok.kept)) _ c.requires (ap reply_text c.restarted.ensures)
    (restart_called g.D.Disk.view old new (Ok c.in-Ok.kept) c.in-Ok.ensures.means c.in-Ok.ensures.device c.in-Ok.ensures.calls)

pub returns-in-DeviceFault-clause-ran : goal.returns-in-DeviceFault-clause-ran
returns-in-DeviceFault-clause-ran g c =
    let old = c.args.agent.now in
    let new = c.restart.new.self in
    let met = Err fault.DeviceFault in
    called_as g.D.Disk.view old new _ Reopens (restart_text met) _ c.requires
    (ap reply_text (c.down.ensures ∙ ap (λ step. printed (down_reply step)) c.requires))
    (restart_called g.D.Disk.view old new met (rw c.in-DeviceFault.is at c.in-Err.ensures.means)
    (rw c.in-DeviceFault.is at c.in-Err.ensures.device) (rw c.in-DeviceFault.is at c.in-Err.ensures.calls))

pub returns-in_default-clause-stops : goal.returns-in_default-clause-stops
returns-in_default-clause-stops g c =
    let old = c.args.agent.now in
    let new = c.restart.new.self in
    let stops : StopsBefore g.D.Disk.view old new Reopens (ending_of c.in-Err.why) =
    restart_stops g.D.Disk.view old new c.in-Err.why c.in_default.not-DeviceFault c.in-Err.ensures.means
    c.in-Err.ensures.device c.in-Err.ensures.calls in
    subst (λ step. StopsBefore g.D.Disk.view old new step c.refused.result) (sym c.requires)
    (subst (StopsBefore g.D.Disk.view old new Reopens) (sym c.refused.ensures) stops)

-- ---- moments

pub returns-in-Ok-clause-any_moment : goal.returns-in-Ok-clause-any_moment
returns-in-Ok-clause-any_moment g c =
    subst (AnyMoment g.D.Disk.view c.args.agent.now c.restart.new.self) (sym c.requires)
    (λ a seen. (_, c.restart.ensures.any_moment a seen))

pub returns-in-DeviceFault-clause-any_moment : goal.returns-in-DeviceFault-clause-any_moment
returns-in-DeviceFault-clause-any_moment g c =
    subst (AnyMoment g.D.Disk.view c.args.agent.now c.restart.new.self) (sym c.requires)
    (λ a seen. (_, c.restart.ensures.any_moment a seen))

pub returns-in_default-clause-any_moment : goal.returns-in_default-clause-any_moment
returns-in_default-clause-any_moment g c =
    subst (AnyMoment g.D.Disk.view c.args.agent.now c.restart.new.self) (sym c.requires)
    (λ a seen. (_, c.restart.ensures.any_moment a seen))

-- ---- the count of faults

pub returns-in-Ok-clause-counts : goal.returns-in-Ok-clause-counts
returns-in-Ok-clause-counts g c =
    restart_counts_on g.D.Disk.view c.args.agent.now c.restart.new.self (Ok c.in-Ok.kept) c.in-Ok.ensures.device c.in-Ok.ensures.power

pub returns-in-DeviceFault-clause-counts : goal.returns-in-DeviceFault-clause-counts
returns-in-DeviceFault-clause-counts g c =
    restart_counts_on g.D.Disk.view c.args.agent.now c.restart.new.self (Err c.in-Err.why) c.in-Err.ensures.device c.in-Err.ensures.power

pub returns-in_default-clause-counts : goal.returns-in_default-clause-counts
returns-in_default-clause-counts g c =
    restart_counts_on g.D.Disk.view c.args.agent.now c.restart.new.self (Err c.in-Err.why) c.in-Err.ensures.device c.in-Err.ensures.power
