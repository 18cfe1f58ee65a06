-- The keys of a finite map, as those among more keys in order that the map has.
use Rattle.std.proofs.Common.{◌≡◌, Bool, true, false, cond, List, [], ◌∷◌, map, Option, Some, None, refl, sym, ap, subst, ◌∙◌}
use Rattle.std.specs.Prelude.{◌&&◌, ◌||◌, T, filter, unwrap_or}
use Rattle.std.specs.Cmp.{Equal-is, IsTotalOrder}
use Rattle.std.specs.List.{AllByRecursion, list_any}
use Rattle.std.specs.List.Sorted.{IsStrictlySortedBy}
use Rattle.std.specs.Map.{keys_of}
use Rattle.std.specs.Ordering.{eq_by_cmp, is_le, is_lt}
use Rattle.std.specs.declared.cmp.Ordering.{Ordering}
use Rattle.std.specs.declared.cmp.Ordering.TheVariants.{Less, Equal, Greater}
use Rattle.std.specs.FinMap as finite
use Rattle.std.specs.FinMap.{FinMap, IsAntisymmetric, contains_key-keys, entries, entries-from_sorted, entries_sorted, from_sorted, get-from_sorted, same_map}
use Rattle.std.specs.FinMap.Entries.{below_all, find, is_sorted}
use Rattle.std.proofs.lemmas.List.Kept.{IsStrictlySortedBy-filter}
use Rattle.std.proofs.lemmas.Cmp.{tied_itself}
use Rattle.key_map.specs.Entries.{entries_from, next_key}
use Rattle.key_map.proofs.EntriesLemmas.{eq-flip}

both : (a b : Bool) → T a → T b → T (a && b)
both true b p q = q
both false b p q = p

parts : (a b : Bool) → T (a && b) → T a × T b
parts true b p = (tt, p)
parts false b p = absurd p

less_of : (o : Ordering) → T (is_lt o) → o ≡ Less
less_of Less p = refl
less_of Equal p = absurd p
less_of Greater p = absurd p

pub and_none : (b : Bool) → (b && false) ≡ false
and_none true = refl
and_none false = refl

module _ {K : Type 0} (R : K → K → Ordering) (o : IsTotalOrder R) (same : IsAntisymmetric R) where
  -- a key is one of these
  abbrev pub is_in : K → List K → Bool
  is_in q keys = list_any (λ k. eq_by_cmp R k q) keys

  -- among the keys that pass a test are those that pass it
  pub in_filtered : (test : K → Bool) (q : K) (keys : List K) → is_in q (filter test keys) ≡ (is_in q keys && test q)
  in_filtered test q [] = refl
  in_filtered test q (k ∷ keys) = at (test k) refl (eq_by_cmp R k q) refl (in_filtered test q keys)
    where
      tied : eq_by_cmp R k q ≡ true → test k ≡ test q
      tied tie = ap test (same k q ((Equal-is (R k q)).0 tie))

      at : (u : Bool) → test k ≡ u → (e : Bool) → eq_by_cmp R k q ≡ e → is_in q (filter test keys) ≡ (is_in q keys && test q)
          → is_in q (cond u (k ∷ filter test keys) (filter test keys)) ≡ ((e || is_in q keys) && test q)
      at true is true tie later = ap (λ b. b || is_in q (filter test keys)) tie ∙ sym is ∙ tied tie
      at true is false tie later = ap (λ b. b || is_in q (filter test keys)) tie ∙ later
      at false is true tie later =
          let none : test q ≡ false = sym (tied tie) ∙ is in
          later ∙ ap (λ b. is_in q keys && b) none ∙ and_none (is_in q keys) ∙ sym none
      at false is false tie later = later

  -- ---- two lists of keys in order that have the same keys

  -- keys alone, as entries
  abbrev bare : List K → List (K × Unit {0})
  bare keys = map (λ key. (key, tt)) keys

  bare_keys : (keys : List K) → map (λ e. e.0) (bare keys) ≡ keys
  bare_keys [] = refl
  bare_keys (key ∷ keys) = ap (λ l. key ∷ l) (bare_keys keys)

  bare_below : (key : K) (keys : List K) → AllByRecursion (λ other. R key other ≡ Less) keys → T (below_all R key (bare keys))
  bare_below key [] below = tt
  bare_below key (other ∷ keys) below =
      both (is_lt (R key other)) (below_all R key (bare keys)) (subst T (ap is_lt (sym below.0)) tt) (bare_below key keys below.1)

  bare_sorted : (keys : List K) → IsStrictlySortedBy R keys → T (is_sorted R (bare keys))
  unfolding IsStrictlySortedBy
  bare_sorted [] sorted = tt
  bare_sorted (key ∷ keys) sorted =
      both (below_all R key (bare keys)) (is_sorted R (bare keys)) (bare_below key keys sorted.0) (bare_sorted keys sorted.1)

  found_bare : (q : K) (keys : List K) → find R q (bare keys) ≡ cond (is_in q keys) (Some tt) None
  found_bare q [] = refl
  found_bare q (key ∷ keys) =
      ap (λ b. cond b (Some tt) (find R q (bare keys))) (eq-flip R o q key)
      ∙ ap (λ r. cond (eq_by_cmp R key q) (Some tt) r) (found_bare q keys)
      ∙ joined (eq_by_cmp R key q) (is_in q keys)
    where
      joined : (a b : Bool) → ◌≡◌ {A = Option (Unit {0})} (cond a (Some tt) (cond b (Some tt) None)) (cond (a || b) (Some tt) None)
      joined true b = refl
      joined false b = refl

  same_rising : (xs ys : List K) → IsStrictlySortedBy R xs → IsStrictlySortedBy R ys → ((q : K) → is_in q xs ≡ is_in q ys) → xs ≡ ys
  same_rising xs ys one two alike =
      sym (bare_keys xs)
      ∙ ap (map (λ e. e.0)) (sym (entries-from_sorted R (bare xs) (bare_sorted xs one)) ∙ ap entries maps ∙ entries-from_sorted R (bare ys) (bare_sorted ys two))
      ∙ bare_keys ys
    where
      maps : from_sorted {R = R} (bare xs) ≡ from_sorted {R = R} (bare ys)
      maps = same_map o same _ _ (λ q.
          get-from_sorted R (bare xs) q (bare_sorted xs one)
          ∙ found_bare q xs
          ∙ ap (λ b. cond b (Some tt) None) (alike q)
          ∙ sym (found_bare q ys)
          ∙ sym (get-from_sorted R (bare ys) q (bare_sorted ys two)))

  one_of_flipped : (q : K) (keys : List K) → list_any (eq_by_cmp R q) keys ≡ is_in q keys
  one_of_flipped q [] = refl
  one_of_flipped q (key ∷ keys) =
      ap (λ b. b || list_any (eq_by_cmp R q) keys) (eq-flip R o q key)
      ∙ ap (λ b. eq_by_cmp R key q || b) (one_of_flipped q keys)

  -- ---- the keys of a map

  module _ {X : Type 0} where
    keys_below : (key : K) (es : List (K × X)) → T (below_all R key es) → AllByRecursion (λ other. R key other ≡ Less) (map (λ e. e.0) es)
    keys_below key [] below = tt
    keys_below key (e ∷ es) below =
        let two = parts (is_lt (R key e.0)) (below_all R key es) below in (less_of (R key e.0) two.0, keys_below key es two.1)

    keys_sorted : (es : List (K × X)) → T (is_sorted R es) → IsStrictlySortedBy R (map (λ e. e.0) es)
    unfolding IsStrictlySortedBy
    keys_sorted [] sorted = tt
    keys_sorted (e ∷ es) sorted =
        let two = parts (below_all R e.0 es) (is_sorted R es) sorted in (keys_below e.0 es two.0, keys_sorted es two.1)

    -- the keys of a map are those of more keys in order which the map has
    pub keys_had : (m : FinMap R X) (all : List K) → IsStrictlySortedBy R all → ((q : K) → finite.contains_key m q ≡ true → is_in q all ≡ true)
        → filter (finite.contains_key m) all ≡ finite.keys m
    keys_had m all sorted there =
        same_rising (filter (finite.contains_key m) all) (finite.keys m) (IsStrictlySortedBy-filter R (finite.contains_key m) all sorted) (keys_sorted (entries m) (entries_sorted m))
        (λ q. in_filtered (finite.contains_key m) q all ∙ at q (finite.contains_key m q) refl ∙ contains_key-keys m q ∙ one_of_flipped q (finite.keys m))
      where
        at : (q : K) (b : Bool) → finite.contains_key m q ≡ b → (is_in q all && b) ≡ b
        at q true is = ap (λ b. b && true) (there q is)
        at q false is = and_none (is_in q all)

-- ---- a walk from the first key on

module _ {K V : Type 0} (cmp : K → K → Ordering) (o : IsTotalOrder cmp) where
  all_later : (key : K) (es : List (K × V)) → AllByRecursion (λ other. cmp key other ≡ Less) (keys_of es) → entries_from cmp key es ≡ es
  all_later key [] below = refl
  all_later key (e ∷ es) below =
      ap (λ r. cond (is_le r) (e ∷ entries_from cmp key es) (entries_from cmp key es)) below.0 ∙ ap (λ l. e ∷ l) (all_later key es below.1)

  -- the entries from the first key on are all of them
  pub from_first : (first : K) (es : List (K × V)) → IsStrictlySortedBy cmp (keys_of es) → Some first ≡ next_key cmp None es → entries_from cmp first es ≡ es
  unfolding IsStrictlySortedBy
  from_first first [] sorted is = refl
  from_first first (e ∷ es) sorted is =
      ap (λ key. entries_from cmp key (e ∷ es)) (ap (λ found. unwrap_or found first) is)
      ∙ ap (λ r. cond (is_le r) (e ∷ entries_from cmp e.0 es) (entries_from cmp e.0 es)) (tied_itself o e.0)
      ∙ ap (λ l. e ∷ l) (all_later e.0 es sorted.0)
