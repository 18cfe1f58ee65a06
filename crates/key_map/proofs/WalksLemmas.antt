-- Walks over a map from a bound.
use Rattle.std.proofs.Common.{◌≡◌, Bool, true, false, cond, List, [], ◌∷◌, Option, Some, None, refl}
use Rattle.std.specs.Prelude.{find, ◌&&◌}
use Rattle.std.specs.declared.cmp.Ordering.{Ordering}
use Rattle.std.specs.declared.ops.Bound.{Bound}
use Rattle.std.specs.declared.ops.Bound.TheVariants.{Unbounded}
use Rattle.std.specs.BTreeMap.Range.{entries_between, is_from_start}

-- the first of a part that begins at a bound
first_step : {A : Type 0} (b : Bool) (e x : A) (kept rest : List A) (found : Option A) → (kept ≡ x ∷ rest → found ≡ Some x)
    → cond (b && true) (e ∷ kept) kept ≡ x ∷ rest → cond b (Some e) found ≡ Some x
first_step true e x kept rest found later is = cc is
first_step false e x kept rest found later is = later is

none_step : {A : Type 0} (b : Bool) (e : A) (kept : List A) (found : Option A) → (kept ≡ [] → found ≡ None)
    → cond (b && true) (e ∷ kept) kept ≡ [] → cond b (Some e) found ≡ None
none_step true e kept found later is = absurd (cc is)
none_step false e kept found later is = later is

module _ {K V : Type 0} (cmp : K → K → Ordering) (start : Bound K) where
  pub first-between : (es : List (K × V)) (x : K × V) (rest : List (K × V))
      → entries_between cmp start Unbounded es ≡ x ∷ rest → find (λ e. is_from_start cmp start e.0) es ≡ Some x
  first-between [] x rest is = absurd (cc is)
  first-between (e ∷ es) x rest is =
      first_step (is_from_start cmp start e.0) e x (entries_between cmp start Unbounded es) rest _ (first-between es x rest) is

  pub none-between : (es : List (K × V))
      → entries_between cmp start Unbounded es ≡ [] → find (λ e. is_from_start cmp start e.0) es ≡ None
  none-between [] is = refl
  none-between (e ∷ es) is =
      none_step (is_from_start cmp start e.0) e (entries_between cmp start Unbounded es) _ (none-between es) is
