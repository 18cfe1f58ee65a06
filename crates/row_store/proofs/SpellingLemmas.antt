-- What the bytes of a row change say is this row change exactly where it has a spelling.
use Rattle.std.proofs.Common.{◌≡◌, ℕ, Bool, true, false, List, [], Some, None, ◌↔◌, IsTrue, sym, ap, subst, ◌∙◌, append-nil}
use Rattle.std.proofs.lemmas.Option.{none-some, same_Some}
use Rattle.row_changes.specs.Change.{PlainChange}
use Rattle.row_changes.specs.Laws.{AreBytes, IsOneSpelling, ReadsBack}
use Rattle.row_changes.specs.Reading.{change_at}
use Rattle.row_changes.specs.Spelled.{IsSpelled}
use Rattle.row_changes.specs.Spelling.{change_bytes}
use Rattle.row_changes.proofs.FieldLaws.{first_is}

module _ (change : PlainChange) (bytes : List ℕ) (are : bytes ≡ change_bytes change) (again : ReadsBack) where
  reads : IsSpelled change → change_at bytes ≡ Some (change, [])
  reads spelled = ap change_at (are ∙ sym (append-nil (change_bytes change))) ∙ again change [] spelled

  -- the bytes say a row change
  pub something_said : (said : PlainChange) (rest : List ℕ) (same : Bool) → IsOneSpelling → AreBytes bytes
      → change_at bytes ≡ Some (said, rest)
      → IsTrue same ↔ (said ≡ change) → IsTrue same ↔ IsSpelled change
  something_said said rest same once fits says test = (
    λ yes. subst IsSpelled (test.0 yes) (once bytes said rest fits says).0,
    λ spelled. test.1 (first_is (same_Some (said, rest) (change, []) (sym says ∙ reads spelled))),
  )

  -- they say nothing
  pub nothing_said : change_at bytes ≡ None → IsTrue false ↔ IsSpelled change
  nothing_said says = (
    λ no. let is : false ≡ true =
        no in cc,
    λ spelled. absurd (none-some (change, []) (sym says ∙ reads spelled)),
  )
