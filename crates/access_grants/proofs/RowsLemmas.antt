-- Searches of a list and of what its elements are seen as, and what is put at a place that is found.
use Rattle.std.proofs.Common.{◌≡◌, ℕ, suc, ◌+◌, Bool, true, false, not, cond, ◌||◌, List, [], ◌∷◌, map, set, length, Some, None, refl, sym, ap, ◌∙◌, arith}
use Rattle.std.specs.Prelude.{nat_lt}
use Rattle.std.specs.List.{list_any, position, position_or_len}
use Rattle.std.proofs.Math.Numerals.{one-add}
use Rattle.std.proofs.lemmas.Bool.{le-ltb, lt-ltb, ltb-false, ltb-true}

module _ {X Y : Type 0} (f : X → Y) (p : Y → Bool) where
  place_seen : (xs : List X) → position_or_len (λ x. p (f x)) xs ≡ position_or_len p (map f xs)
  place_seen [] = refl
  place_seen (x ∷ xs) = ap (λ rest. cond (not (p (f x))) (1 + rest) 0) (place_seen xs)

  length_seen : (xs : List X) → length xs ≡ length (map f xs)
  length_seen [] = refl
  length_seen (x ∷ xs) = ap (λ n. suc n) (length_seen xs)

  -- its place
  pub position_seen : (xs : List X) → position (λ x. p (f x)) xs ≡ position p (map f xs)
  position_seen xs =
      ap (λ n. cond (nat_lt (position_or_len (λ x. p (f x)) xs) n) (Some (position_or_len (λ x. p (f x)) xs)) None) (length_seen xs)
      ∙ ap (λ place. cond (nat_lt place (length (map f xs))) (Some place) None) (place_seen xs)

module _ {X : Type 0} (p : X → Bool) where
  any_step : (here : Bool) (place count : ℕ) (rest : Bool) → nat_lt place count ≡ rest
      → nat_lt (cond (not here) (1 + place) 0) (suc count) ≡ here || rest
  any_step true place count rest same = lt-ltb 0 (suc count) (omega arith)
  any_step false place count true same = lt-ltb (1 + place) (suc count) (omega (arith, ltb-true place count same))
  any_step false place count false same = le-ltb (1 + place) (suc count) (omega (arith, ltb-false place count same))

  -- a place is before the end exactly where some element passes
  place_inside : (xs : List X) → nat_lt (position_or_len p xs) (length xs) ≡ list_any p xs
  place_inside [] = refl
  place_inside (x ∷ xs) = any_step (p x) (position_or_len p xs) (length xs) (list_any p xs) (place_inside xs)

  -- there is a place exactly where some element passes
  pub position_by : (xs : List X) → position p xs ≡ cond (list_any p xs) (Some (position_or_len p xs)) None
  position_by xs = ap (λ b. cond b (Some (position_or_len p xs)) None) (place_inside xs)

  -- the element that passes gives way to y
  abbrev pub replaced : X → X → X
  replaced y x = cond (p x) y x

  none_step : (y x : X) (xs : List X) (here : Bool) → here || list_any p xs ≡ false → (list_any p xs ≡ false → map (replaced y) xs ≡ xs)
      → cond here y x ∷ map (replaced y) xs ≡ x ∷ xs
  none_step y x xs true none later = absurd (cc none)
  none_step y x xs false none later = ap (λ rest. x ∷ rest) (later none)

  -- without one that passes, all stay
  replaced_none : (y : X) (xs : List X) → list_any p xs ≡ false → map (replaced y) xs ≡ xs
  replaced_none y [] none = refl
  replaced_none y (x ∷ xs) none = none_step y x xs (p x) none (replaced_none y xs)

  -- at most one element passes
  unfoldable pub AtMostOne : List X → Type 0
  AtMostOne [] = Unit {0}
  AtMostOne (x ∷ xs) = (p x ≡ true → list_any p xs ≡ false) × AtMostOne xs

  one_step : (y x : X) (xs : List X) (here : Bool) → (here ≡ true → list_any p xs ≡ false)
      → set xs (position_or_len p xs) y ≡ map (replaced y) xs
      → set (x ∷ xs) (cond (not here) (1 + position_or_len p xs) 0) y ≡ cond here y x ∷ map (replaced y) xs
  one_step y x xs true one later = ap (λ rest. y ∷ rest) (sym (replaced_none y xs (one refl)))
  one_step y x xs false one later = ap (λ n. set (x ∷ xs) n y) (one-add (position_or_len p xs)) ∙ ap (λ rest. x ∷ rest) later

  -- what is put at the place of the first stands for the one that passes
  pub set_place : (y : X) (xs : List X) → AtMostOne xs → set xs (position_or_len p xs) y ≡ map (replaced y) xs
  unfolding AtMostOne
  set_place y [] one = refl
  set_place y (x ∷ xs) one = one_step y x xs (p x) one.0 (set_place y xs one.1)
