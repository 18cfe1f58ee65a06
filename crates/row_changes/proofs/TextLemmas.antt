-- Whether bytes are UTF-8, as a test and as a fact.
use Rattle.std.proofs.Common.{◌≡◌, ℕ, Bool, true, false, List, Some, None, refl, ap, ◌∙◌, sym}
use Rattle.std.specs.Prelude.{IsUtf8}
use Rattle.std.specs.Str.{is_utf8}
use Rattle.std.proofs.lemmas.Bool.{cond-true, cond-false}
use Rattle.std.proofs.lemmas.Str.{IsUtf8-from_is_utf8, is_utf8-from_IsUtf8}
use Rattle.row_changes.specs.Fields.{passing}

-- bytes that are UTF-8 pass
pub passes : (bytes text : List ℕ) → IsUtf8 bytes → text ≡ bytes → passing is_utf8 bytes ≡ Some text
passes bytes text h same = cond-true _ _ _ (is_utf8-from_IsUtf8 bytes h) ∙ ap Some (sym same)

-- and others do not
pub fails : (bytes : List ℕ) → ¬ (IsUtf8 bytes) → passing is_utf8 bytes ≡ None
fails bytes h = by (is_utf8 bytes) refl
  where
    by : (t : Bool) → is_utf8 bytes ≡ t → passing is_utf8 bytes ≡ None
    by true e = absurd (h (IsUtf8-from_is_utf8 bytes e))
    by false e = cond-false _ _ _ e
