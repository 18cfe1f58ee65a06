-- What a test of entries leaves: fewer of them exactly where not all pass it; and which keys a finite
-- map has that pass a test.
use Rattle.std.proofs.Common.{◌≡◌, ℕ, ◌≤◌, Bool, true, false, cond, List, [], ◌∷◌, length, filter, nat_lt, suc, refl, sym, ap, ◌∙◌, arith}
use Rattle.std.specs.Prelude.{not, ◌&&◌}
use Rattle.std.specs.Prelude.{◌||◌, ◌==◌}
use Rattle.std.specs.Cmp.{Equal-is, IsTotalOrder, eq_by_cmp_equiv}
use Rattle.std.specs.FinMap as finite
use Rattle.std.specs.FinMap.{FinMap, IsAntisymmetric, contains_key-keys}
use Rattle.std.specs.List.{list_all, list_any}
use Rattle.std.specs.Ordering.{eq_by_cmp}
use Rattle.std.specs.declared.cmp.Ordering.{Ordering}
use Rattle.std.proofs.lemmas.Bool.{and_parts, or_right}
use Rattle.std.proofs.lemmas.Bool.Decides.{nat_tests}

shifted : (a b : ℕ) → nat_lt a b ≡ nat_lt (suc a) (suc b)
shifted a b = grind (arith, nat_tests)

module _ {A : Type 0} (test : A → Bool) where
  no_more : (xs : List A) → length (filter test xs) ≤ length xs
  no_more [] = omega arith
  no_more (x ∷ xs) = at (test x) (no_more xs)
    where
      at : (b : Bool) → length (filter test xs) ≤ length xs → length (cond b (x ∷ filter test xs) (filter test xs)) ≤ length (x ∷ xs)
      at true later = omega (arith, later)
      at false later = omega (arith, later)

  pub fewer_left : (xs : List A) → nat_lt (length (filter test xs)) (length xs) ≡ not (list_all test xs)
  fewer_left [] = refl
  fewer_left (x ∷ xs) = at (test x) (no_more xs) (fewer_left xs)
    where
      at : (b : Bool) → length (filter test xs) ≤ length xs → nat_lt (length (filter test xs)) (length xs) ≡ not (list_all test xs)
          → nat_lt (length (cond b (x ∷ filter test xs) (filter test xs))) (length (x ∷ xs)) ≡ not (b && list_all test xs)
      at true fewer later = sym (shifted (length (filter test xs)) (length xs)) ∙ later
      at false fewer later = grind (arith, nat_tests, fewer)

-- a list that has an element is not empty
pub some_length : {A : Type 0} (x : A) (xs : List A) → (length (x ∷ xs) == 0) ≡ false
some_length x xs = grind (arith, nat_tests)

-- two tests that imply each other are the same
pub both_ways : (a b : Bool) → (a ≡ true → b ≡ true) → (b ≡ true → a ≡ true) → a ≡ b
both_ways true b there back = sym (there refl)
both_ways false true there back = back refl
both_ways false false there back = refl

module _ {K : Type 0} (R : K → K → Ordering) (o : IsTotalOrder R) (same : IsAntisymmetric R) (test : K → Bool) where
  all_among : (keys : List K) → ((q : K) → list_any (eq_by_cmp R q) keys ≡ true → test q ≡ true) → list_all test keys ≡ true
  all_among [] each = refl
  all_among (k ∷ keys) each =
      (λ i. each k (ap (λ b. b || list_any (eq_by_cmp R k) keys) ((eq_by_cmp_equiv o).refl k)) i && all_among keys (λ q there. each q (or_right (eq_by_cmp R q k) _ there)) i)

  each_among : (keys : List K) → list_all test keys ≡ true → (q : K) → list_any (eq_by_cmp R q) keys ≡ true → test q ≡ true
  each_among [] all q there = cc
  each_among (k ∷ keys) all q there = at (eq_by_cmp R q k) refl (each_among keys (and_parts (test k) _ all).1 q)
    where
      at : (b : Bool) → eq_by_cmp R q k ≡ b → (list_any (eq_by_cmp R q) keys ≡ true → test q ≡ true) → test q ≡ true
      at true tie later = ap test (same q k ((Equal-is (R q k)).0 tie)) ∙ (and_parts (test k) _ all).0
      at false apart later = later (ap (λ b. b || list_any (eq_by_cmp R q) keys) (sym apart) ∙ there)

  -- all keys of a finite map pass where each that it has passes
  pub all_had : {X : Type 0} (m : FinMap R X) → ((q : K) → finite.contains_key m q ≡ true → test q ≡ true) → list_all test (finite.keys m) ≡ true
  all_had m each = all_among (finite.keys m) (λ q there. each q (contains_key-keys m q ∙ there))

  -- and only there
  pub each_had : {X : Type 0} (m : FinMap R X) → list_all test (finite.keys m) ≡ true → (q : K) → finite.contains_key m q ≡ true → test q ≡ true
  each_had m all q had = each_among (finite.keys m) all q (sym (contains_key-keys m q) ∙ had)
