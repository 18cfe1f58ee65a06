use Rattle.std.proofs.Common.{subst}
use Rattle.durable_model.specs.Migrate.{IsUnder}
use Rattle.durable_model.specs.Saved.{IsValid}
use Rattle.spelled_model.specs.Rows.{IsReadSaved, IsReadSavedUnder}
use Rattle.row_store.specs.Laws.{IsSpelledState, IsSpelledStateUnder, IsStorable}
use Rattle.row_store.specs.Stored.{saved_of}
use Rattle.row_store.proofs.MigrateLaws.{staying_is_spelled}
use Rattle.row_store.proofs.rows.Rows.into_parts_under.Goals as goal

pub returns-clause-valid : goal.returns-clause-valid
returns-clause-valid c = subst (λ r. IsValid (saved_of r.parts)) c.self.view_is c.self.invariant.valid

pub returns-clause-read : goal.returns-clause-read
returns-clause-read c = subst (λ r. IsReadSaved (saved_of r.parts)) c.self.view_is c.self.invariant.read

pub returns-clause-storable : goal.returns-clause-storable
returns-clause-storable c = subst (λ r. IsStorable (saved_of r.parts)) c.self.view_is c.self.invariant.storable

pub returns-clause-spelled : goal.returns-clause-spelled
returns-clause-spelled c = subst (λ r. IsSpelledState (saved_of r.parts)) c.self.view_is c.self.invariant.spelled

pub returns-clause-read_under : goal.returns-clause-read_under
returns-clause-read_under c =
    let rules = c.args.list.now.rules in
    subst (λ r. IsUnder rules (saved_of r.parts) → IsReadSavedUnder rules (saved_of r.parts)) c.self.view_is
    (λ under. c.lines_have_spellings.ensures.read rules (saved_of c.self.inside.parts) c.self.invariant.read under)

pub returns-clause-spelled_under : goal.returns-clause-spelled_under
returns-clause-spelled_under c =
    let rules = c.args.list.now.rules in
    subst (λ r. IsUnder rules (saved_of r.parts) → IsSpelledStateUnder rules (saved_of r.parts)) c.self.view_is
    (λ under. staying_is_spelled rules (saved_of c.self.inside.parts) c.self.invariant.spelled under)
