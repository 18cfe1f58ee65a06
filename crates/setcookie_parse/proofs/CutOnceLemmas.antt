-- A text and its parts before and behind a byte.
use Rattle.std.proofs.Common.{◌≡◌, ℕ, suc, ◌+◌, ◌<◌, Bool, true, false, cond, not, List, [], ◌∷◌, ◌==◌, length, get_or, take, drop, refl, ap, ◌∙◌, sym, arith, length-drop}
use Rattle.std.specs.Prelude.{◌||◌}
use Rattle.std.specs.List.{after_first, before_first, list_any, position_or_len, slice_split}
use Rattle.std.proofs.lemmas.Bool.{eqb-true}
use Rattle.std.proofs.lemmas.List.{drop_all, take_all}
use Rattle.std.proofs.lemmas.List.Splits.{slice_split_first}
use Rattle.std.proofs.lemmas.List.Sums.{position_or_len_is}
use Rattle.setcookie_parse.proofs.SplitsLemmas.{split_last}

pub untrue : (b : Bool) → (b ≡ true → ⊥) → b ≡ false
untrue true never = absurd (never refl)
untrue false never = refl

-- the first byte that passes
pub first_at : (p : ℕ → Bool) (bs : List ℕ) (place : ℕ) → place < length bs → ((k : ℕ) → k < place → p (get_or bs k 0) ≡ true → ⊥) → p (get_or bs place 0) ≡ true
    → position_or_len p bs ≡ place
first_at p bs place inside before here = position_or_len_is p bs place 0 (omega arith) (λ k lt. untrue (p (get_or bs k 0)) (before k lt)) (λ _. here)

-- none passes
pub none_at : (p : ℕ → Bool) (bs : List ℕ) → ((k : ℕ) → k < length bs → p (get_or bs k 0) ≡ true → ⊥) → position_or_len p bs ≡ length bs
none_at p bs none = position_or_len_is p bs (length bs) 0 (omega arith) (λ k lt. untrue (p (get_or bs k 0)) (none k lt)) (λ past. absurd (omega arith))

-- a list without such a byte
pub whole_before : (p : ℕ → Bool) (bs : List ℕ) → position_or_len p bs ≡ length bs → before_first p bs ≡ bs
whole_before p bs none = ap (λ n. take n bs) none ∙ take_all (length bs) bs (omega arith)

pub none_after : (p : ℕ → Bool) (bs : List ℕ) → position_or_len p bs ≡ length bs → after_first p bs ≡ []
none_after p bs none = ap (λ n. drop (n + 1) bs) none ∙ drop_all (length bs + 1) bs (omega arith)

pub is_none : (p : ℕ → Bool) (bs : List ℕ) → position_or_len p bs ≡ length bs → list_any p bs ≡ false
is_none p [] none = refl
is_none p (b ∷ bs) none = at (p b) (is_none p bs) none
  where
    at : (q : Bool) → (position_or_len p bs ≡ length bs → list_any p bs ≡ false)
        → cond (not q) (1 + position_or_len p bs) 0 ≡ suc (length bs) → (q || list_any p bs) ≡ false
    at true more none = absurd (omega (arith, none))
    at false more none = more (omega (arith, none))

pub is_some : (p : ℕ → Bool) (bs : List ℕ) → position_or_len p bs < length bs → list_any p bs ≡ true
is_some p [] some = absurd (omega (arith, some))
is_some p (b ∷ bs) some = at (p b) (is_some p bs) some
  where
    at : (q : Bool) → (position_or_len p bs < length bs → list_any p bs ≡ true)
        → cond (not q) (1 + position_or_len p bs) 0 < suc (length bs) → (q || list_any p bs) ≡ true
    at true more some = refl
    at false more some = more (omega (arith, some))

-- a piece, and those behind it
pub pieces_some : (p : ℕ → Bool) (bs front rest : List ℕ) → front ≡ before_first p bs → rest ≡ after_first p bs → position_or_len p bs < length bs
    → slice_split p bs ≡ front ∷ slice_split p rest
pieces_some p bs front rest is_front is_rest some = slice_split_first p bs 0 some ∙ (λ i. sym is_front i ∷ slice_split p (sym is_rest i))

pub pieces_none : (p : ℕ → Bool) (bs : List ℕ) → position_or_len p bs ≡ length bs → slice_split p bs ≡ bs ∷ []
pieces_none p bs none = split_last p bs (length bs) (sym none) (omega arith)

pub rest_shorter : (p : ℕ → Bool) (bs rest : List ℕ) → rest ≡ after_first p bs → position_or_len p bs < length bs → length rest < length bs
rest_shorter p bs rest is some = omega (arith, some, ap length is, length-drop (position_or_len p bs + 1) bs)

-- a byte that passes is the one that is sought
pub byte_is : (a b : ℕ) → (a == b) ≡ true → a ≡ b
byte_is a b is = eqb-true a b is
