-- Lists that are equal up to a place.
use Rattle.std.proofs.Common.{◌≡◌, ◌≢◌, ℕ, ◌+◌, ◌<◌, ◌⊎◌, inl, inr, List, [], ◌∷◌, zero, suc, length, take, map, slice_get, Some, None, refl, ap, sym, ◌∙◌, arith, rules, add-one}
use Rattle.std.specs.Prelude.{get_or, min, option_map}
use Rattle.std.proofs.lemmas.Bool.{cases_order}
use Rattle.std.proofs.lemmas.Option.{slice_get-map, slice_get_past, slice_get_read}

next : {A : Type 0} (xs ys : List A) (place : ℕ) → take place xs ≡ take place ys → slice_get xs place ≡ slice_get ys place
    → take (suc place) xs ≡ take (suc place) ys
next [] [] place fronts items = refl
next [] (y ∷ ys) zero fronts items = cc
next [] (y ∷ ys) (suc place) fronts items = cc
next (x ∷ xs) [] zero fronts items = cc
next (x ∷ xs) [] (suc place) fronts items = cc
next (x ∷ xs) (y ∷ ys) zero fronts items = search rules
next (x ∷ xs) (y ∷ ys) (suc place) fronts items =
    let rest : take place xs ≡ take place ys = cc in
    let head : x ≡ y = cc in
    let more = next xs ys place rest items in
    cc

-- one item more
pub fronts_more : {A : Type 0} (xs ys : List A) (place : ℕ) → take place xs ≡ take place ys → slice_get xs place ≡ slice_get ys place
    → take (place + 1) xs ≡ take (place + 1) ys
fronts_more xs ys place fronts items = rw add-one (next xs ys place fronts items)

-- an item that was read, as it stands in the list of what the items are seen as
pub read_at : {A B : Type 0} (f : A → B) (xs : List A) (place : ℕ) (x : A) → place < length xs → x ≡ get_or xs place x
    → slice_get (map f xs) place ≡ Some (f x)
read_at f xs place x within is = slice_get-map f xs place ∙ ap (option_map f) (slice_get_read xs (length xs) place x refl within is)

-- there is an item at each place of a list
there : {A : Type 0} (xs : List A) (place : ℕ) → place < length xs → slice_get xs place ≢ None
there [] place within none = omega arith
there (x ∷ xs) zero within none = cc
there (x ∷ xs) (suc place) within none = there xs place (omega arith) none

-- a list and a longer one differ at its end
ends : {A : Type 0} (xs ys : List A) (place : ℕ) → length xs ≡ place → place < length ys → slice_get xs place ≢ slice_get ys place
ends xs ys place short within same = there ys place within (sym same ∙ slice_get_past xs place (omega (arith, short)))

-- lists of other lengths differ at the end of the shorter one
pub ends_differ : {A : Type 0} (xs ys : List A) (place : ℕ) → place ≡ min (length xs) (length ys) → (length xs ≡ length ys → ⊥)
    → slice_get xs place ≢ slice_get ys place
ends_differ xs ys place least other same = by (cases_order (length xs) (length ys))
  where
    by : (length xs ≡ length ys) ⊎ ((length xs < length ys) ⊎ (length ys < length xs)) → ⊥
    by (inl e) = other e
    by (inr (inl less)) = ends xs ys place (omega (arith, least, less)) (omega (arith, least, less)) same
    by (inr (inr more)) = ends ys xs place (omega (arith, least, more)) (omega (arith, least, more)) (sym same)
