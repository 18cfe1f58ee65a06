-- The first place of a byte that a search answers is the one that `position` has.
use Rattle.std.proofs.Common.{◌≡◌, ◌<◌, refl, ap, sym, ◌∙◌, arith, ℕ, zero, suc, Bool, true, false, cond, List, [], ◌∷◌, length, get_or, position, Option, Some, None, lt-ltb, le-ltb}
use Rattle.std.specs.Prelude.{nat_lt}
use Rattle.std.specs.List.{position_or_len}
use Rattle.memchr.specs.Find.{IsFirstByte}

pub fails : (b : Bool) → (b ≡ true → ⊥) → b ≡ false
fails true never = absurd (never refl)
fails false never = refl

nowhere : (p : ℕ → Bool) (xs : List ℕ) → ((k : ℕ) → k < length xs → p (get_or xs k 0) ≡ true → ⊥) → position_or_len p xs ≡ length xs
nowhere p [] none = refl
nowhere p (x ∷ xs) none =
    let later = nowhere p xs (λ k inside. none (suc k) (omega arith)) in
    rw (fails (p x) (none 0 (omega arith))) (omega (arith, later))

at_first : (p : ℕ → Bool) (xs : List ℕ) (k : ℕ) → k < length xs → p (get_or xs k 0) ≡ true → ((j : ℕ) → j < k → p (get_or xs j 0) ≡ true → ⊥) → position_or_len p xs ≡ k
at_first p [] k inside passes before = absurd (omega arith)
at_first p (x ∷ xs) zero inside passes before = rw passes refl
at_first p (x ∷ xs) (suc k) inside passes before =
    let later = at_first p xs k (omega arith) passes (λ j below. before (suc j) (omega arith)) in
    rw (fails (p x) (before 0 (omega arith))) (omega (arith, later))

-- the first byte that passes
pub first_byte : (p : ℕ → Bool) (xs : List ℕ) (r : Option ℕ) → IsFirstByte p xs r → r ≡ position p xs
first_byte p xs None first =
    sym (ap (λ n. cond (nat_lt n (length xs)) (Some n) None) (nowhere p xs (λ k inside. first k (omega arith) inside))
    ∙ ap (λ b. cond b (Some (length xs)) None) (le-ltb (length xs) (length xs) (omega arith)))
first_byte p xs (Some k) first =
    sym (ap (λ n. cond (nat_lt n (length xs)) (Some n) None) (at_first p xs k first.0.high first.1 (λ j below. first.0.before j (omega arith) below))
    ∙ ap (λ b. cond b (Some k) None) (lt-ltb k (length xs) first.0.high))
