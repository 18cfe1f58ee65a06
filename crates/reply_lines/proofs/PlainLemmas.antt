-- Bytes that need no escape, seen many at a time.
use Rattle.std.proofs.Common.{◌≡◌, ℕ, zero, suc, ◌+◌, ◌*◌, Bool, true, false, cond, not, List, [], ◌∷◌, map, drop, refl, sym, ap, ◌∙◌, arith}
use Rattle.std.specs.Prelude.{◌==◌, ◌&&◌, ◌||◌, nat_lt}
use Rattle.std.specs.List.{list_all}
use Rattle.std.proofs.lemmas.Bool.{ne_eqb}
use Rattle.std.proofs.lemmas.List.Folds.{list_all-append}
use Rattle.std.proofs.lemmas.Simd.{chunk-drop}
use Rattle.json.specs.Run.{is_plain}
use lib.Lanes.{chunk, mask_l}

-- no bit is set, where none passes the test
pub none_set : (p : ℕ → Bool) (xs : List ℕ) → (mask_l (map p xs) == 0) ≡ list_all (λ x. not (p x)) xs
none_set p [] = refl
none_set p (x ∷ xs) = at (p x) (mask_l (map p xs)) (list_all (λ y. not (p y)) xs) (none_set p xs)
  where
    twice : (m : ℕ) → (0 + 2 * m == 0) ≡ (m == 0)
    twice zero = refl
    twice (suc m) = ne_eqb (0 + 2 * suc m) 0 (λ e. omega (arith, e)) ∙ sym (ne_eqb (suc m) 0 (λ e. omega (arith, e)))

    at : (b : Bool) (m : ℕ) (all : Bool) → (m == 0) ≡ all → (cond b 1 0 + 2 * m == 0) ≡ (not b && all)
    at true m all is = ne_eqb (1 + 2 * m) 0 (λ e. omega (arith, e))
    at false m all is = twice m ∙ is

-- a byte needs no escape, where it is no quote, no backslash and no control byte
pub plain_by_three : (xs : List ℕ)
    → (list_all (λ b. not (b == 34)) xs && (list_all (λ b. not (b == 92)) xs && list_all (λ b. not (nat_lt b 32)) xs)) ≡ list_all is_plain xs
plain_by_three [] = refl
plain_by_three (x ∷ xs) =
    at (x == 34) (x == 92) (nat_lt x 32) (list_all (λ b. not (b == 34)) xs) (list_all (λ b. not (b == 92)) xs) (list_all (λ b. not (nat_lt b 32)) xs) (list_all is_plain xs) (plain_by_three xs)
  where
    at : (q s c a b d r : Bool) → (a && (b && d)) ≡ r → ((not q && a) && ((not s && b) && (not c && d))) ≡ (not ((q || s) || c) && r)
    at true s c a b d r is = refl
    at false true c true b d r is = refl
    at false true c false b d r is = refl
    at false false true true true d r is = refl
    at false false true true false d r is = refl
    at false false true false b d r is = refl
    at false false false a b d r is = is

-- some bytes, and those behind them
pub plain_more : (text : List ℕ) (from n : ℕ) → list_all is_plain (drop from text) ≡ (list_all is_plain (chunk from n text) && list_all is_plain (drop (from + n) text))
plain_more text from n = ap (list_all is_plain) (chunk-drop from n text) ∙ list_all-append is_plain (chunk from n text) (drop (from + n) text)

-- a text without them, by what was seen
pub plain_seen : (xs : List ℕ) (q s c : Bool) → q ≡ list_all (λ b. not (b == 34)) xs → s ≡ list_all (λ b. not (b == 92)) xs → c ≡ list_all (λ b. not (nat_lt b 32)) xs
    → (q && (s && c)) ≡ list_all is_plain xs
plain_seen xs q s c is_q is_s is_c = rw (is_q, is_s, is_c) (plain_by_three xs)
