-- The pieces of a list, one after another.
use Rattle.std.proofs.Common.{◌≡◌, ℕ, ◌<◌, ◌≤◌, ◌+◌, ◌-◌, Bool, List, [], ◌∷◌, length, take, drop, ◌∙◌, arith, length-drop}
use Rattle.std.specs.List.{slice_split, position_or_len}
use Rattle.std.proofs.lemmas.List.{take_all}
use Rattle.std.proofs.lemmas.List.Splits.{slice_split_first, slice_split_none}
use Rattle.std.proofs.lemmas.List.Sums.{fails_before_first}

-- a piece and the pieces behind it
pub split_at_place : (p : ℕ → Bool) (xs : List ℕ) (place : ℕ) → place ≡ position_or_len p xs → place < length xs
    → slice_split p xs ≡ take place xs ∷ slice_split p (take (length xs - (place + 1)) (drop (place + 1) xs))
split_at_place p xs place at inside =
    let here : position_or_len p xs < length xs = omega arith in
    let whole : take (length xs - (place + 1)) (drop (place + 1) xs) ≡ drop (place + 1) xs =
    take_all (length xs - (place + 1)) (drop (place + 1) xs) (omega (arith, length-drop (place + 1) xs)) in
    slice_split_first p xs 0 here ∙ rw (whole, at)

-- the last piece
pub split_last : (p : ℕ → Bool) (xs : List ℕ) (place : ℕ) → place ≡ position_or_len p xs → length xs ≤ place
    → slice_split p xs ≡ xs ∷ []
split_last p xs place at past =
    slice_split_none p xs (λ k d inside. fails_before_first p xs k d (omega arith))
