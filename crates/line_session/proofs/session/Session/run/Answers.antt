use Rattle.std.proofs.Common.{◌∷◌, [], refl, sym, subst}
use Rattle.script_actions.specs.Plain.{step_of}
use Rattle.store_runs.specs.Answers.{answer_text}
use Rattle.store_runs.specs.Moments.{AnyMoment}
use Rattle.line_session.specs.SessionView.{SessionView}
use Rattle.line_session.specs.StandsFor.{GoesBy}
use Rattle.line_session.proofs.LineLemmas.{stopped_goes, stopped_left}
use Rattle.line_session.proofs.SessionLemmas.{goes_ran}
use Rattle.store_runs.specs.FaultCounts.{KeepsCount}
use Rattle.line_session.proofs.session.Session.run.Goals as goal

pub returns-in-Ok-print-clause-means : goal.returns-in-Ok-print-clause-means
returns-in-Ok-print-clause-means g c =
    let step = step_of c.args.step.now in
    subst (λ (old : SessionView _). GoesBy g.D.Disk.view old c.print.new.self (step ∷ []) (step ∷ []) c.print.new.self.reply)
    c.self.view_is (goes_ran g.D.Disk.view _ c.print.new.self c.run_line.new.agent step (answer_text c.in-Ok.answer)
    c.run_line.ensures.goes_on c.in-Ok.ensures.ran c.print.ensures.stays.0 c.print.ensures.stays.1)

pub returns-in-Ok-print-clause-any_moment : goal.returns-in-Ok-print-clause-any_moment
returns-in-Ok-print-clause-any_moment g c =
    let step = step_of c.args.step.now in
    subst (λ (old : SessionView _). AnyMoment g.D.Disk.view old.agent c.print.new.self.agent step) c.self.view_is
    (subst (λ v. AnyMoment g.D.Disk.view c.self.inside.agent v step) (sym c.print.ensures.stays.0)
    c.run_line.ensures.any_moment)

pub returns-in-Err-print-clause-means : goal.returns-in-Err-print-clause-means
returns-in-Err-print-clause-means g c =
    let step = step_of c.args.step.now in
    subst (λ (old : SessionView _). GoesBy g.D.Disk.view old c.print.new.self (step ∷ []) (step ∷ []) c.print.new.self.reply)
    c.self.view_is (goes_ran g.D.Disk.view _ c.print.new.self c.run_line.new.agent step (answer_text c.in-Ok.answer)
    c.run_line.ensures.goes_on c.in-Ok.ensures.ran c.print.ensures.stays.0 c.print.ensures.stays.1)

pub returns-in-Err-print-clause-any_moment : goal.returns-in-Err-print-clause-any_moment
returns-in-Err-print-clause-any_moment g c =
    let step = step_of c.args.step.now in
    subst (λ (old : SessionView _). AnyMoment g.D.Disk.view old.agent c.print.new.self.agent step) c.self.view_is
    (subst (λ v. AnyMoment g.D.Disk.view c.self.inside.agent v step) (sym c.print.ensures.stays.0)
    c.run_line.ensures.any_moment)

pub returns-in-Err-clause-means : goal.returns-in-Err-clause-means
returns-in-Err-clause-means g c =
    stopped_goes g.D.Disk.view _ _ _ c.self.view_is (step_of c.args.step.now) c.in-Err.ending c.stopped.result
    c.stopped.ensures c.run_line.ensures.goes_on c.in-Err.ensures.stops

pub returns-in-Err-clause-refused : goal.returns-in-Err-clause-refused
returns-in-Err-clause-refused g c =
    stopped_left g.D.Disk.view _ _ _ c.self.view_is (step_of c.args.step.now) c.in-Err.ending c.stopped.result
    c.stopped.ensures c.in-Err.ensures.stops refl refl

pub returns-in-Err-clause-any_moment : goal.returns-in-Err-clause-any_moment
returns-in-Err-clause-any_moment g c =
    subst (λ (old : SessionView _). AnyMoment g.D.Disk.view old.agent c.run_line.new.agent (step_of c.args.step.now))
    c.self.view_is c.run_line.ensures.any_moment

-- ---- the count of the disk's faults

pub returns-in-Ok-print-clause-counts : goal.returns-in-Ok-print-clause-counts
returns-in-Ok-print-clause-counts g c =
    subst (λ (old : SessionView _). KeepsCount g.D.Disk.view old.agent c.print.new.self.agent) c.self.view_is
    (subst (KeepsCount g.D.Disk.view c.self.inside.agent) (sym c.print.ensures.stays.0) c.run_line.ensures.counts)

pub returns-in-Err-print-clause-counts : goal.returns-in-Err-print-clause-counts
returns-in-Err-print-clause-counts g c =
    subst (λ (old : SessionView _). KeepsCount g.D.Disk.view old.agent c.print.new.self.agent) c.self.view_is
    (subst (KeepsCount g.D.Disk.view c.self.inside.agent) (sym c.print.ensures.stays.0) c.run_line.ensures.counts)

pub returns-in-Err-clause-counts : goal.returns-in-Err-clause-counts
returns-in-Err-clause-counts g c =
    subst (λ (old : SessionView _). KeepsCount g.D.Disk.view old.agent c.run_line.new.agent) c.self.view_is
    c.run_line.ensures.counts
