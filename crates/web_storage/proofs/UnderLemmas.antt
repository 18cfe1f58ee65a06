-- The keys under a site stand side by side in the order of keys, and a walk each way finds them.
use Rattle.std.proofs.Common.{◌≡◌, Bool, true, false, cond, not, List, [], ◌∷◌, ◌++◌, map, None, refl, sym, ap, subst, ◌∙◌}
use Rattle.std.specs.Prelude.{◌&&◌, ◌||◌, filter, reverse}
use Rattle.std.specs.List.{take_while, AllByRecursion}
use Rattle.std.specs.List.Sorted.{IsStrictlySortedBy}
use Rattle.std.specs.Map.{keys_of}
use Rattle.std.specs.Cmp.{IsTotalOrder, then_total, on_total, bool_cmp_total}
use Rattle.std.specs.Cmp.Lexicographic.{nat_list_cmp_total}
use Rattle.std.specs.Ordering.{bool_cmp, eq_by_cmp, is_eq, is_gt, is_le, is_lt, ordering_reverse, ordering_then}
use Rattle.std.specs.declared.cmp.Ordering.{Ordering}
use Rattle.std.specs.declared.cmp.Ordering.TheVariants.{Less, Equal, Greater}
use Rattle.std.proofs.lemmas.List.{append_assoc, append-nil, reverse-append}
use Rattle.std.proofs.lemmas.List.Folds.{list_any-append}
use Rattle.std.proofs.lemmas.List.Sums.{take_while-cons}
use Rattle.origin_site.specs.Plain.{plain_site}
use Rattle.origin_site.specs.Site.{PlainSite}
use Rattle.storage_key.specs.Key.{PlainKey, key_order, origin_order, site_order}
use Rattle.storage_key.specs.Plain.{plain_key}
use Rattle.storage_key.specs.declared.key.StorageKey.{StorageKey}
use Rattle.key_map.specs.Entries.{entries_below, entries_from, next_key}
use Rattle.live_state.proofs.SiteTabsLemmas.{equal_sites}
use Rattle.agent_model.specs.Partition.{is_under}
use Rattle.web_storage.specs.Evicting.{AreUnder, is_one_of, key_cmp}
use Rattle.web_storage.proofs.EvictionLemmas.{among_filtered}

-- ---- walks that end at the first that fails a test

module _ {X : Type 0} (p : X → Bool) where
  -- no item behind one that fails passes
  abbrev pub Stops : List X → Type 0
  Stops [] = Unit {0}
  Stops (x ∷ xs) = (p x ≡ false → AllByRecursion (λ y. p y ≡ false) xs) × Stops xs

  pub none_kept : (xs : List X) → AllByRecursion (λ y. p y ≡ false) xs → filter p xs ≡ []
  none_kept [] none = refl
  none_kept (x ∷ xs) none = rw none.0 (none_kept xs none.1)

  pub run_kept : (xs : List X) → Stops xs → take_while p xs ≡ filter p xs
  run_kept [] stops = refl
  run_kept (x ∷ xs) stops = take_while-cons p x xs ∙ at (p x) refl (run_kept xs stops.1)
    where
      at : (b : Bool) → p x ≡ b → take_while p xs ≡ filter p xs
          → cond b (x ∷ take_while p xs) [] ≡ cond b (x ∷ filter p xs) (filter p xs)
      at true is later = ap (λ r. x ∷ r) later
      at false is later = sym (none_kept xs (stops.0 is))

  -- a walk goes on, stops at an item, or comes to the end
  pub walk-on : (x : X) (rest done whole : List X) → p x ≡ true → done ++ take_while p (x ∷ rest) ≡ whole
      → (done ++ x ∷ []) ++ take_while p rest ≡ whole
  walk-on x rest done whole passes is =
      append_assoc done (x ∷ []) (take_while p rest)
      ∙ ap (λ r. done ++ r) (sym (take_while-cons p x rest ∙ ap (λ b. cond b (x ∷ take_while p rest) []) passes))
      ∙ is

  pub walk-stopped : (x : X) (rest done whole : List X) → p x ≡ false → done ++ take_while p (x ∷ rest) ≡ whole → done ≡ whole
  walk-stopped x rest done whole fails is =
      sym (append-nil done)
      ∙ ap (λ r. done ++ r) (sym (take_while-cons p x rest ∙ ap (λ b. cond b (x ∷ take_while p rest) []) fails))
      ∙ is

  pub walk-ended : (done whole : List X) → done ++ take_while p [] ≡ whole → done ≡ whole
  walk-ended done whole is = sym (append-nil done) ∙ is

  -- an item more at the end
  stops-last : (xs : List X) (x : X) → Stops xs → AllByRecursion (λ y. p y ≡ false → p x ≡ false) xs → Stops (xs ++ x ∷ [])
  stops-last [] x stops all = ((λ fails. tt), tt)
  stops-last (y ∷ ys) x stops all =
      ((λ fails. all-last (λ z. p z ≡ false) ys x (stops.0 fails) (all.0 fails)), stops-last ys x stops.1 all.1)
    where
      all-last : (P : X → Type 0) (zs : List X) (z : X) → AllByRecursion P zs → P z → AllByRecursion P (zs ++ z ∷ [])
      all-last P [] z each last = (last, tt)
      all-last P (w ∷ ws) z each last = (each.0, all-last P ws z each.1 last)

all_reversed : {X : Type 0} (P : X → Type 0) (xs : List X) → AllByRecursion P xs → AllByRecursion P (reverse xs)
all_reversed P [] each = tt
all_reversed {X = X} P (x ∷ xs) each =
    subst (AllByRecursion P) (sym (reverse-append (x ∷ []) xs)) (last (reverse xs) (all_reversed P xs each.1))
  where
    last : (ys : List X) → AllByRecursion P ys → AllByRecursion P (ys ++ x ∷ [])
    last [] all = (each.0, tt)
    last (y ∷ ys) all = (all.0, last ys all.1)

-- ---- sites in the order of keys

site_order_total : IsTotalOrder site_order
site_order_total = then_total (on_total (λ s. s.https) bool_cmp_total) (on_total (λ s. s.host) nat_list_cmp_total)

first_rises : (a b : Ordering) → ordering_then a b ≡ Less → is_gt a ≡ false
first_rises Less b is = refl
first_rises Equal b is = refl
first_rises Greater b is = cc

first_from : (a b : Ordering) → is_le (ordering_then a b) ≡ true → is_gt a ≡ false
first_from Less b is = refl
first_from Equal b is = refl
first_from Greater b is = cc

first_below : (a b : Ordering) → not (is_le (ordering_then a b)) ≡ true → is_lt a ≡ false
first_below Less b is = cc
first_below Equal b is = refl
first_below Greater b is = refl

is_less : (o : Ordering) → is_eq o ≡ false → is_gt o ≡ false → o ≡ Less
is_less Less other rises = refl
is_less Equal other rises = cc
is_less Greater other rises = cc

is_greater : (o : Ordering) → is_eq o ≡ false → is_lt o ≡ false → o ≡ Greater
is_greater Less other falls = cc
is_greater Equal other falls = cc
is_greater Greater other falls = refl

-- a site that is past another stays so at greater sites
past_more : (s k l : PlainSite) → site_order s k ≡ Less → is_gt (site_order k l) ≡ false → site_order s l ≡ Less
past_more s k l less rises = at (site_order k l) refl rises
  where
    at : (o : Ordering) → site_order k l ≡ o → is_gt o ≡ false → site_order s l ≡ Less
    at Less is more = site_order_total.trans s k l less is
    at Equal is more =
        site_order_total.antisymm s l ∙ ap ordering_reverse (sym (site_order_total.congr k l s is))
        ∙ sym (site_order_total.antisymm s k) ∙ less
    at Greater is more = cc

-- and one that is before another at lesser sites
before_less : (s j k : PlainSite) → site_order s k ≡ Greater → is_gt (site_order j k) ≡ false → site_order s j ≡ Greater
before_less s j k greater rises = site_order_total.antisymm s j ∙ ap ordering_reverse (at (site_order j k) refl rises)
  where
    under : site_order k s ≡ Less
    under = site_order_total.antisymm k s ∙ ap ordering_reverse greater

    at : (o : Ordering) → site_order j k ≡ o → is_gt o ≡ false → site_order j s ≡ Less
    at Less is more = site_order_total.trans j k s is under
    at Equal is more = site_order_total.congr j k s is ∙ under
    at Greater is more = cc

module _ (place : PlainKey) where
  abbrev pub under : PlainKey → Bool
  under key = is_under place.top key

  abbrev pub from : PlainKey → Bool
  from key = is_le (key_order place key)

  -- the order of a key's origin and bit
  abbrev within : (a b : PlainKey) → Ordering
  within a b = ordering_then (origin_order a.origin b.origin) (bool_cmp a.bit b.bit)

  side-of : (key : PlainKey) → under key ≡ is_eq (site_order place.top key.top)
  side-of key = sym (equal_sites place.top key.top)

  past_each : (test : PlainKey → Bool) (k : PlainKey) → site_order place.top k.top ≡ Less → (ls : List PlainKey)
      → AllByRecursion (λ l. key_order k l ≡ Less) ls → AllByRecursion (λ l. under l ≡ false) (filter test ls)
  past_each test k less [] rises = tt
  past_each test k less (l ∷ ls) rises = at (test l) (past_each test k less ls rises.1)
    where
      fails : under l ≡ false
      fails = side-of l ∙ ap is_eq (past_more place.top k.top l.top less
          (first_rises (site_order k.top l.top) (within k l) rises.0))

      at : (b : Bool) → AllByRecursion (λ l. under l ≡ false) (filter test ls)
          → AllByRecursion (λ l. under l ≡ false) (cond b (l ∷ filter test ls) (filter test ls))
      at true later = (fails, later)
      at false later = later

  pub stops_from : (keys : List PlainKey) → IsStrictlySortedBy key_order keys → Stops under (filter from keys)
  unfolding IsStrictlySortedBy
  stops_from [] sorted = tt
  stops_from (k ∷ ks) sorted = at (from k) refl (stops_from ks sorted.1)
    where
      at : (b : Bool) → from k ≡ b → Stops under (filter from ks) → Stops under (cond b (k ∷ filter from ks) (filter from ks))
      at true is later = (
        (λ fails. past_each from k (is_less (site_order place.top k.top) (sym (side-of k) ∙ fails)
            (first_from (site_order place.top k.top) (within place k) is)) ks sorted.0),
        later,
      )
      at false is later = later

  before_each : (k : PlainKey) (ls : List PlainKey) → AllByRecursion (λ l. key_order k l ≡ Less) ls
      → AllByRecursion (λ l. under l ≡ false → under k ≡ false) (filter (λ l. not (from l)) ls)
  before_each k [] rises = tt
  before_each k (l ∷ ls) rises = at (not (from l)) refl (before_each k ls rises.1)
    where
      at : (b : Bool) → not (from l) ≡ b → AllByRecursion (λ y. under y ≡ false → under k ≡ false) (filter (λ y. not (from y)) ls)
          → AllByRecursion (λ y. under y ≡ false → under k ≡ false)
          (cond b (l ∷ filter (λ y. not (from y)) ls) (filter (λ y. not (from y)) ls))
      at true is later = (
        (λ fails.
            side-of k ∙ ap is_eq (before_less place.top k.top l.top
            (is_greater (site_order place.top l.top) (sym (side-of l) ∙ fails)
            (first_below (site_order place.top l.top) (within place l) is))
            (first_rises (site_order k.top l.top) (within k l) rises.0))),
        later,
      )
      at false is later = later

  pub stops_below : (keys : List PlainKey) → IsStrictlySortedBy key_order keys
      → Stops under (reverse (filter (λ l. not (from l)) keys))
  unfolding IsStrictlySortedBy
  stops_below [] sorted = tt
  stops_below (k ∷ ks) sorted = at (not (from k)) (stops_below ks sorted.1)
    where
      rest : List PlainKey
      rest = filter (λ l. not (from l)) ks

      at : (b : Bool) → Stops under (reverse rest) → Stops under (reverse (cond b (k ∷ rest) rest))
      at true later =
          subst (Stops under) (sym (reverse-append (k ∷ []) rest))
          (stops-last under (reverse rest) k later
          (all_reversed (λ y. under y ≡ false → under k ≡ false) rest (before_each k ks sorted.0)))
      at false later = later

-- ---- keys of the program

-- the plain keys rise as the keys do
pub plain_sorted : (keys : List StorageKey) → IsStrictlySortedBy key_cmp keys → IsStrictlySortedBy key_order (map plain_key keys)
unfolding IsStrictlySortedBy
plain_sorted [] sorted = tt
plain_sorted (k ∷ ks) sorted = (rises ks sorted.0, plain_sorted ks sorted.1)
  where
    rises : (ls : List StorageKey) → AllByRecursion (λ l. key_cmp k l ≡ Less) ls
        → AllByRecursion (λ l. key_order (plain_key k) l ≡ Less) (map plain_key ls)
    rises [] all = tt
    rises (l ∷ ls) all = (all.0, rises ls all.1)

module _ {V : Type 0} where
  -- entries whose plain keys pass a test
  pub plain_kept : (test : PlainKey → Bool) (es : List (StorageKey × V))
      → map plain_key (keys_of (filter (λ e. test (plain_key e.0)) es)) ≡ filter test (map plain_key (keys_of es))
  plain_kept test [] = refl
  plain_kept test (e ∷ es) = at (test (plain_key e.0)) (plain_kept test es)
    where
      at : (b : Bool) → map plain_key (keys_of (filter (λ x. test (plain_key x.0)) es)) ≡ filter test (map plain_key (keys_of es))
          → map plain_key (keys_of (cond b (e ∷ filter (λ x. test (plain_key x.0)) es) (filter (λ x. test (plain_key x.0)) es)))
          ≡ cond b (plain_key e.0 ∷ filter test (map plain_key (keys_of es))) (filter test (map plain_key (keys_of es)))
      at true later = ap (λ r. plain_key e.0 ∷ r) later
      at false later = later

  pub plain_last : (es : List (StorageKey × V)) (e : StorageKey × V)
      → map plain_key (keys_of (es ++ e ∷ [])) ≡ map plain_key (keys_of es) ++ plain_key e.0 ∷ []
  plain_last [] e = refl
  plain_last (x ∷ xs) e = ap (λ r. plain_key x.0 ∷ r) (plain_last xs e)

  pub none_there : (es : List (StorageKey × V)) → None ≡ next_key key_cmp None es → es ≡ []
  none_there [] none = refl
  none_there (e ∷ es) none = absurd (cc none)
