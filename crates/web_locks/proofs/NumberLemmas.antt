-- Ascending numbers with one more, and without one.
use Rattle.std.proofs.Common.{◌≡◌, ◌<◌, ℕ, Bool, true, false, cond, not, List, [], ◌∷◌, ◌++◌, refl, ap, arith}
use Rattle.std.specs.Prelude.{find, Option, Some, None, option_map}
use Rattle.std.specs.List.{AllByRecursion}
use Rattle.std.specs.BTreeSet.{insert_key}
use Rattle.std.specs.Cmp.{Equal-is}
use Rattle.std.specs.Map.{keys_of}
use Rattle.std.specs.Ordering.{is_eq, is_lt, nat_cmp, match_ordering}
use Rattle.std.specs.declared.cmp.Ordering.{Ordering}
use Rattle.std.specs.declared.cmp.Ordering.TheVariants.{Less, Equal, Greater}
use Rattle.key_map.specs.Entries.{is_after, map_put, map_remove, next_key}
use Rattle.web_locks.specs.Numbers.{first_after, with_number, without_number}
use Rattle.web_locks.proofs.TableLemmas.{filter_all}

pub number_itself : (n : ℕ) → is_eq (nat_cmp n n) ≡ true
number_itself n = grind (arith, Equal-is)

pub number_same : (n m : ℕ) → is_eq (nat_cmp n m) ≡ true → n ≡ m
number_same n m same = grind (arith, Equal-is)

pub number_above : (n m : ℕ) → m < n → nat_cmp n m ≡ Greater
number_above n m above = grind (arith)

pub number_apart : (n m : ℕ) → m < n → is_eq (nat_cmp n m) ≡ false
number_apart n m above = ap is_eq (number_above n m above)

-- a number that was added and goes again
pub without_with : (n : ℕ) (xs : List ℕ) → without_number n (with_number n xs) ≡ without_number n xs
without_with n [] = rw (number_itself n) refl
without_with n (x ∷ xs) = at (nat_cmp n x) refl (without_with n xs)
  where
    at : (o : Ordering) → nat_cmp n x ≡ o → without_number n (with_number n xs) ≡ without_number n xs
        → without_number n (match_ordering o (n ∷ x ∷ xs) (x ∷ xs) (x ∷ insert_key nat_cmp xs n)) ≡ without_number n (x ∷ xs)
    at Less is later = rw (number_itself n) refl
    at Equal is later = refl
    at Greater is later = ap (λ r. cond (not (is_eq (nat_cmp n x))) (x ∷ r) r) later

-- a number above all others stands last
pub with_last : (n : ℕ) (xs : List ℕ) → AllByRecursion (λ x. x < n) xs → with_number n xs ≡ xs ++ n ∷ []
with_last n [] below = refl
with_last n (x ∷ xs) below = rw (number_above n x below.0) (ap (λ r. x ∷ r) (with_last n xs below.1))

pub apart_below : (n : ℕ) (xs : List ℕ) → AllByRecursion (λ x. x < n) xs → AllByRecursion (λ x. is_eq (nat_cmp n x) ≡ false) xs
apart_below n [] below = tt
apart_below n (x ∷ xs) below = (number_apart n x below.0, apart_below n xs below.1)

-- a number that is not there does not go
pub without_above : (n : ℕ) (xs : List ℕ) → AllByRecursion (λ x. x < n) xs → without_number n xs ≡ xs
without_above n xs below = filter_all (λ x. is_eq (nat_cmp n x)) xs (apart_below n xs below)

-- the keys of a map without one
pub keys_without : {V : Type 0} (n : ℕ) (es : List (ℕ × V)) → keys_of (map_remove nat_cmp n es) ≡ without_number n (keys_of es)
keys_without n [] = refl
keys_without n (e ∷ es) = at (is_eq (nat_cmp n e.0)) (keys_without n es)
  where
    at : (b : Bool) → keys_of (map_remove nat_cmp n es) ≡ without_number n (keys_of es)
        → keys_of (cond (not b) (e ∷ map_remove nat_cmp n es) (map_remove nat_cmp n es))
        ≡ cond (not b) (e.0 ∷ without_number n (keys_of es)) (without_number n (keys_of es))
    at true later = later
    at false later = ap (λ r. e.0 ∷ r) later

-- the first key behind a number
pub next_of_keys : {V : Type 0} (after : Option ℕ) (es : List (ℕ × V)) → next_key nat_cmp after es ≡ first_after after (keys_of es)
next_of_keys after [] = refl
next_of_keys None (e ∷ es) = refl
next_of_keys (Some m) (e ∷ es) = at (is_lt (nat_cmp m e.0)) (next_of_keys (Some m) es)
  where
    at : (b : Bool) → next_key nat_cmp (Some m) es ≡ first_after (Some m) (keys_of es)
        → option_map (λ d. d.0) (cond b (Some e) (find (λ d. is_after nat_cmp (Some m) d.0) es))
        ≡ cond b (Some e.0) (first_after (Some m) (keys_of es))
    at true later = refl
    at false later = later

-- the keys of a map with one more
pub keys_with : {V : Type 0} (n : ℕ) (v : V) (es : List (ℕ × V)) → keys_of (map_put nat_cmp n v es) ≡ with_number n (keys_of es)
keys_with n v [] = refl
keys_with n v (e ∷ es) = at (nat_cmp n e.0) refl (keys_with n v es)
  where
    at : (o : Ordering) → nat_cmp n e.0 ≡ o → keys_of (map_put nat_cmp n v es) ≡ with_number n (keys_of es)
        → keys_of (match_ordering o ((n, v) ∷ e ∷ es) ((e.0, v) ∷ es) (e ∷ map_put nat_cmp n v es))
        ≡ match_ordering o (n ∷ e.0 ∷ keys_of es) (e.0 ∷ keys_of es) (e.0 ∷ with_number n (keys_of es))
    at Less is later = refl
    at Equal is later = refl
    at Greater is later = ap (λ r. e.0 ∷ r) later
