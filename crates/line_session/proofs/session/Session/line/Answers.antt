use Rattle.std.proofs.Common.{inl, Some, None, refl, subst, sym, ap, ◌∙◌}
use Rattle.script_actions.specs.Plain.{line_of}
use Rattle.line_session.specs.SessionView.{SessionView}
use Rattle.line_session.proofs.LineLemmas.{also_ok, blank_goes, none_unprinted, nothing_replied, owes_none, ran_goes, ran_moments, ran_refused, read_as, some_unprinted}
use Rattle.line_session.proofs.RefusalLemmas.{fault_goes, fault_refused}
use Rattle.line_session.proofs.SessionLemmas.{goes_nowhere}
use Rattle.store_runs.specs.FaultCounts.{KeepsCount}
use Rattle.store_runs.proofs.PowerLemmas.{counts_same, counts_still}
use Rattle.line_session.proofs.session.Session.line.Goals as goal

-- a reply is still to be printed
pub returns-then-is_some-clause-means : goal.returns-then-is_some-clause-means
returns-then-is_some-clause-means g c = goes_nowhere g.D.Disk.view c.args.self.now _ _ refl

pub returns-then-is_some-clause-refused : goal.returns-then-is_some-clause-refused
returns-then-is_some-clause-refused g c = (
  sym (ap (λ (s : SessionView _). s.printed) c.self.view_is)
      ∙ some_unprinted c.self.inside.unprinted (sym c.is_some.ensures ∙ c.if-is_some.true),
  refl,
)

-- a line that was read
pub run-requires : goal.run-requires
run-requires g c = record {
  printed = none_unprinted c.self.inside.unprinted (sym c.is_some.ensures ∙ c.if-is_some.false);
}

pub returns-in-Ok-Some-clause-means : goal.returns-in-Ok-Some-clause-means
returns-in-Ok-Some-clause-means g c =
    let bytes = c.args.line.now in
    ran_goes g.D.Disk.view _ _ _ c.self.view_is bytes (line_of c.in-Ok-Some.line)
    (read_as bytes c.in-Ok-Some.field-0 (Some c.in-Ok-Some.line) c.in-Ok-Some.field-0-is c.in-Ok-Some.ensures)
    c.run.result c.run.ensures.means

pub returns-in-Ok-Some-clause-refused : goal.returns-in-Ok-Some-clause-refused
returns-in-Ok-Some-clause-refused g c =
    let bytes = c.args.line.now in
    ran_refused g.D.Disk.view _ _ _ c.self.view_is bytes (line_of c.in-Ok-Some.line)
    (read_as bytes c.in-Ok-Some.field-0 (Some c.in-Ok-Some.line) c.in-Ok-Some.field-0-is c.in-Ok-Some.ensures)
    c.run.result c.run.ensures.refused

pub returns-in-Ok-Some-clause-any_moment : goal.returns-in-Ok-Some-clause-any_moment
returns-in-Ok-Some-clause-any_moment g c =
    let bytes = c.args.line.now in
    ran_moments g.D.Disk.view _ _ c.run.new.self c.self.view_is bytes (line_of c.in-Ok-Some.line)
    (read_as bytes c.in-Ok-Some.field-0 (Some c.in-Ok-Some.line) c.in-Ok-Some.field-0-is c.in-Ok-Some.ensures)
    c.run.ensures.any_moment

pub returns-in-Ok-Some-clause-owed : goal.returns-in-Ok-Some-clause-owed
returns-in-Ok-Some-clause-owed g c owed = absurd
    (owes_none c.self.inside.unprinted _ (ap (λ (s : SessionView _). s.printed) c.self.view_is)
    (sym c.is_some.ensures ∙ c.if-is_some.false) owed)

pub returns-in-Ok-Some-clause-read : goal.returns-in-Ok-Some-clause-read
returns-in-Ok-Some-clause-read g c = also_ok _ _ c.run.result c.run.ensures.printed (_, c.in-Ok-Some.ensures)

-- a blank line
pub returns-in-Ok-None-clause-means : goal.returns-in-Ok-None-clause-means
returns-in-Ok-None-clause-means g c =
    let bytes = c.args.line.now in
    blank_goes g.D.Disk.view _ _ _ c.self.view_is bytes
    (read_as bytes c.in-Ok-None.field-0 None c.in-Ok-None.field-0-is c.in-Ok-None.ensures) refl
    (nothing_replied c.self.inside.unprinted _ (sym c.is_some.ensures ∙ c.if-is_some.false) c.clear.ensures.items)

pub returns-in-Ok-None-clause-owed : goal.returns-in-Ok-None-clause-owed
returns-in-Ok-None-clause-owed g c owed = absurd
    (owes_none c.self.inside.unprinted _ (ap (λ (s : SessionView _). s.printed) c.self.view_is)
    (sym c.is_some.ensures ∙ c.if-is_some.false) owed)

pub returns-in-Ok-None-clause-any_moment : goal.returns-in-Ok-None-clause-any_moment
returns-in-Ok-None-clause-any_moment g c = inl (ap (λ (s : SessionView _). s.agent) c.self.view_is)

pub returns-in-Ok-None-clause-read : goal.returns-in-Ok-None-clause-read
returns-in-Ok-None-clause-read g c = (
  none_unprinted c.self.inside.unprinted (sym c.is_some.ensures ∙ c.if-is_some.false),
  (_, c.in-Ok-None.ensures),
)

-- a fault
pub returns-in-Err-clause-means : goal.returns-in-Err-clause-means
returns-in-Err-clause-means g c =
    fault_goes g.D.Disk.view _ _ c.self.view_is c.args.line.now c.in-Err.why c.in-Err.ensures

pub returns-in-Err-clause-refused : goal.returns-in-Err-clause-refused
returns-in-Err-clause-refused g c =
    fault_refused g.D.Disk.view _ _ c.self.view_is c.args.line.now c.in-Err.why c.in-Err.ensures

pub returns-in-Err-clause-owed : goal.returns-in-Err-clause-owed
returns-in-Err-clause-owed g c owed = absurd
    (owes_none c.self.inside.unprinted _ (ap (λ (s : SessionView _). s.printed) c.self.view_is)
    (sym c.is_some.ensures ∙ c.if-is_some.false) owed)

pub returns-in-Err-clause-any_moment : goal.returns-in-Err-clause-any_moment
returns-in-Err-clause-any_moment g c = inl (ap (λ (s : SessionView _). s.agent) c.self.view_is)

-- ---- the count of the disk's faults

pub returns-then-is_some-clause-counts : goal.returns-then-is_some-clause-counts
returns-then-is_some-clause-counts g c = counts_still g.D.Disk.view c.args.self.now.agent

pub returns-in-Ok-Some-clause-counts : goal.returns-in-Ok-Some-clause-counts
returns-in-Ok-Some-clause-counts g c =
    subst (λ (old : SessionView _). KeepsCount g.D.Disk.view old.agent c.run.new.self.agent) c.self.view_is c.run.ensures.counts

pub returns-in-Ok-None-clause-counts : goal.returns-in-Ok-None-clause-counts
returns-in-Ok-None-clause-counts g c =
    counts_same g.D.Disk.view _ _ (ap (λ (s : SessionView _). s.agent) c.self.view_is)

pub returns-in-Err-clause-counts : goal.returns-in-Err-clause-counts
returns-in-Err-clause-counts g c =
    counts_same g.D.Disk.view _ _ (ap (λ (s : SessionView _). s.agent) c.self.view_is)
