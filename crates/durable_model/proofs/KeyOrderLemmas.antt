-- Keys in the order of their texts: they are the same keys, and no two are equal.
use Rattle.std.proofs.Common.{◌≡◌, Bool, true, false, cond, ◌&&◌, T, List, [], ◌∷◌, ◌++◌, map, refl, sym, arith, subst}
use Rattle.std.specs.Prelude.{fold}
use Rattle.std.specs.declared.cmp.Ordering.{Ordering}
use Rattle.std.specs.declared.cmp.Ordering.TheVariants.{Less, Equal, Greater}
use Rattle.std.specs.Cmp.{eq_by_cmp_equiv}
use Rattle.std.specs.List.{AllByRecursion, IsDistinct, list_all, list_any}
use Rattle.std.specs.List.Sorted.{IsPermutation}
use Rattle.std.specs.Ordering.{eq_by_cmp, is_eq, is_lt}
use Rattle.std.specs.FinMap as finite
use Rattle.std.specs.FinMap.{FinMap, entries, entries_sorted}
use Rattle.std.specs.FinMap.Entries.{below_all, is_sorted}
use Rattle.std.proofs.lemmas.List.{append_assoc, append-nil}
use Rattle.std.proofs.lemmas.List.Sums.{AllPass-from_list_all, list_all-from_AllPass}
use Rattle.std.proofs.lemmas.List.Sorted.{All-permutation, IsPermutation-append_left, IsPermutation-append_right, IsPermutation-cons, IsPermutation-refl, IsPermutation-swap, IsPermutation-sym, IsPermutation-to_front, IsPermutation-trans, list_any-IsPermutation}
use Rattle.std.proofs.lemmas.Map.Keys.{IsDistinct-IsPermutation}
use Rattle.storage_key.specs.Key.{PlainKey, key_order}
use Rattle.storage_key.proofs.OrderLemmas.{key_order_total}
use Rattle.agent_model.specs.Changes.{by_text, in_text_order, key_text_order}

-- ---- the same keys

-- a key put in its place is one more
placed : (others : List PlainKey) (key : PlainKey) → IsPermutation (key ∷ others) (in_text_order others key)
placed [] key = IsPermutation-refl (key ∷ [])
placed (other ∷ others) key = at (is_lt (key_text_order key other)) (placed others key)
  where
    at : (first : Bool) → IsPermutation (key ∷ others) (in_text_order others key) → IsPermutation (key ∷ other ∷ others) (cond first (key ∷ other ∷ others) (other ∷ in_text_order others key))
    at true later = IsPermutation-refl (key ∷ other ∷ others)
    at false later =
        IsPermutation-trans (key ∷ other ∷ others) (other ∷ key ∷ others) (other ∷ in_text_order others key)
        (IsPermutation-swap (key ∷ other ∷ others) (other ∷ key ∷ others) 0 1 (omega arith) (omega arith) refl)
        (IsPermutation-cons other (key ∷ others) (in_text_order others key) later)

-- a key stands before some keys or behind them
moved : (key : PlainKey) (keys done : List PlainKey) → IsPermutation (key ∷ keys ++ done) (keys ++ key ∷ done)
moved key keys done =
    subst (IsPermutation (key ∷ keys ++ done)) (append_assoc keys (key ∷ []) done)
    (IsPermutation-append_left done (key ∷ keys) (keys ++ key ∷ []) (IsPermutation-sym (keys ++ key ∷ []) (key ∷ keys) (IsPermutation-to_front keys key)))

-- keys put in their places are so many more
put_in_order : (done keys : List PlainKey) → IsPermutation (keys ++ done) (fold in_text_order done keys)
put_in_order done [] = IsPermutation-refl done
put_in_order done (key ∷ keys) =
    let next = in_text_order done key in
    IsPermutation-trans (key ∷ keys ++ done) (keys ++ key ∷ done) (fold in_text_order next keys) (moved key keys done)
    (IsPermutation-trans (keys ++ key ∷ done) (keys ++ next) (fold in_text_order next keys) (IsPermutation-append_right keys (key ∷ done) next (placed done key)) (put_in_order next keys))

-- keys in order are the same keys
same_keys : (keys : List PlainKey) → IsPermutation keys (by_text keys)
same_keys keys = subst (λ ks. IsPermutation ks (by_text keys)) (append-nil keys) (put_in_order [] keys)

-- a test finds one of them
pub any_ordered : (test : PlainKey → Bool) (keys : List PlainKey) → list_any test (by_text keys) ≡ list_any test keys
any_ordered test keys = sym (list_any-IsPermutation test keys (by_text keys) (same_keys keys))

-- what holds of each key holds of each key in order
pub all_ordered : (test : PlainKey → Bool) (keys : List PlainKey) → list_all test keys ≡ true → list_all test (by_text keys) ≡ true
all_ordered test keys all =
    list_all-from_AllPass test (by_text keys) (All-permutation (λ key. test key ≡ true) keys (by_text keys) (same_keys keys) (AllPass-from_list_all test keys all))

-- ---- no two are equal

first_of : (a b : Bool) → T (a && b) → T a × T b
first_of true b both = (tt, both)
first_of false b both = absurd both

module _ {K X : Type 0} (R : K → K → Ordering) where
  below_apart : (x : K) (es : List (K × X)) → T (below_all R x es) → AllByRecursion (λ y. eq_by_cmp R x y ≡ false) (map (λ e. e.0) es)
  below_apart x [] below = tt
  below_apart x (e ∷ es) below = let both = first_of (is_lt (R x e.0)) (below_all R x es) below in (at (R x e.0) both.0, below_apart x es both.1)
    where
      at : (order : Ordering) → T (is_lt order) → is_eq order ≡ false
      at Less lower = refl
      at Equal lower = absurd lower
      at Greater lower = refl

  sorted_apart : (es : List (K × X)) → T (is_sorted R es) → IsDistinct (eq_by_cmp R) (map (λ e. e.0) es)
  unfolding IsDistinct
  sorted_apart [] sorted = tt
  sorted_apart (e ∷ es) sorted = let both = first_of (below_all R e.0 es) (is_sorted R es) sorted in (below_apart e.0 es both.0, sorted_apart es both.1)

  -- no two keys of a map are equal
  keys_apart : (m : FinMap R X) → IsDistinct (eq_by_cmp R) (finite.keys m)
  keys_apart m = sorted_apart (entries m) (entries_sorted m)

-- nor are they in order
pub ordered_apart : {X : Type 0} (m : FinMap key_order X) → IsDistinct (eq_by_cmp key_order) (by_text (finite.keys m))
ordered_apart m =
    IsDistinct-IsPermutation (eq_by_cmp key_order) (eq_by_cmp_equiv key_order_total).symm (finite.keys m) (by_text (finite.keys m)) (same_keys (finite.keys m)) (keys_apart key_order m)
