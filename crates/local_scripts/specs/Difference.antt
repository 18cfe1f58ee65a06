-- Where two lists first differ.
-- Source: none.
-- Our own choice: where one list is the front of the other, they differ at its end.
use Rattle.std.specs.Prelude.{◌≡◌, ◌≢◌, ℕ, List, take, slice_get, Option, Some, None}

-- the fronts of this length are equal, and what stands behind them is not: two items, or an item
-- in one list and the end of the other
pub record DifferAt {A : Type 0} (xs ys : List A) (place : ℕ) : Type 0 where
  pub fronts : take place xs ≡ take place ys
  pub items : slice_get xs place ≢ slice_get ys place

-- the place, from 0, at which two lists first differ; none where they are equal
abbrev pub IsFirstDifference : {A : Type 0} → (xs ys : List A) → Option ℕ → Type 0
IsFirstDifference xs ys None = xs ≡ ys
IsFirstDifference xs ys (Some place) = DifferAt xs ys place
