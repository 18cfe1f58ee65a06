use Rattle.std.proofs.Common.{subst}
use Rattle.durable_model.specs.Saved.{IsValid}
use Rattle.spelled_model.specs.Rows.{IsReadSaved}
use Rattle.row_store.specs.Laws.{IsSpelledState, IsStorable}
use Rattle.row_store.specs.Stored.{saved_of}
use Rattle.row_store.proofs.rows.Rows.into_parts.Goals as goal

pub returns-clause-valid : goal.returns-clause-valid
returns-clause-valid c = subst (λ r. IsValid (saved_of r.parts)) c.self.view_is c.self.invariant.valid

pub returns-clause-read : goal.returns-clause-read
returns-clause-read c = subst (λ r. IsReadSaved (saved_of r.parts)) c.self.view_is c.self.invariant.read

pub returns-clause-storable : goal.returns-clause-storable
returns-clause-storable c = subst (λ r. IsStorable (saved_of r.parts)) c.self.view_is c.self.invariant.storable

pub returns-clause-spelled : goal.returns-clause-spelled
returns-clause-spelled c = subst (λ r. IsSpelledState (saved_of r.parts)) c.self.view_is c.self.invariant.spelled
