-- The entries under a site, in the order of keys: a walk down, turned, and then a walk up.
use Rattle.std.proofs.Common.{◌≡◌, Bool, true, false, cond, not, List, [], ◌∷◌, ◌++◌, map, None, refl, sym, ap, subst, ◌∙◌, Bor}
use Rattle.std.specs.Prelude.{filter, reverse}
use Rattle.std.specs.List.{take_while, AllByRecursion}
use Rattle.std.specs.List.Sorted.{IsStrictlySortedBy}
use Rattle.std.specs.Map.{keys_of}
use Rattle.std.specs.Ordering.{is_le}
use Rattle.std.specs.declared.cmp.Ordering.{Ordering}
use Rattle.std.specs.declared.cmp.Ordering.TheVariants.{Less, Equal, Greater}
use Rattle.std.proofs.lemmas.List.{append-nil, map-append, reverse-append}
use Rattle.std.proofs.lemmas.List.Elements.{filter-append}
use Rattle.origin_site.specs.Plain.{plain_site}
use Rattle.origin_site.specs.Site.{PlainSite}
use Rattle.storage_key.specs.Key.{PlainKey, key_order}
use Rattle.storage_key.specs.Plain.{plain_key}
use Rattle.storage_key.specs.declared.key.StorageKey.{StorageKey}
use Rattle.storage_key.proofs.OrderLemmas.{key_order_total}
use Rattle.key_map.specs.Entries.{entries_below, entries_from, next_key}
use Rattle.agent_model.specs.Partition.{is_under}
use Rattle.web_storage.specs.Evicting.{AreUnder, entry_of, is_entry_under, is_one_of, key_cmp}
use Rattle.web_storage.proofs.EvictionLemmas.{among_filtered}
use Rattle.web_storage.proofs.UnderLemmas.{Stops, none_there, plain_kept, plain_last, plain_sorted, run_kept, stops_below, stops_from, under}

module _ {X : Type 0} (p : X → Bool) where
  filter_last : (xs : List X) (x : X) → reverse (filter p (xs ++ x ∷ []))
      ≡ cond (p x) (x ∷ reverse (filter p xs)) (reverse (filter p xs))
  filter_last xs x = ap reverse (filter-append p xs (x ∷ [])) ∙ at (p x)
    where
      at : (b : Bool) → reverse (filter p xs ++ cond b (x ∷ []) []) ≡ cond b (x ∷ reverse (filter p xs)) (reverse (filter p xs))
      at true = reverse-append (filter p xs) (x ∷ [])
      at false = ap reverse (append-nil (filter p xs))

  -- a list may be turned before it is filtered, and after
  pub filter_turned : (xs : List X) → reverse (filter p (reverse xs)) ≡ filter p xs
  filter_turned [] = refl
  filter_turned (x ∷ xs) =
      ap (λ l. reverse (filter p l)) (reverse-append (x ∷ []) xs)
      ∙ filter_last (reverse xs) x
      ∙ ap (λ l. cond (p x) (x ∷ l) l) (filter_turned xs)

-- a key that is greater than one which is not less than a place
from_more : (place k l : PlainKey) → is_le (key_order place k) ≡ true → key_order k l ≡ Less → is_le (key_order place l) ≡ true
from_more place k l from less = at (key_order place k) refl from
  where
    at : (o : Ordering) → key_order place k ≡ o → is_le o ≡ true → is_le (key_order place l) ≡ true
    at Less is le = ap is_le (key_order_total.trans place k l is less)
    at Equal is le = ap is_le (key_order_total.congr place k l is ∙ less)
    at Greater is le = cc

module _ {V : Type 0} (place : StorageKey) where
  -- an entry's key is not less than the place
  abbrev stands_from : StorageKey × V → Bool
  stands_from e = is_le (key_cmp place e.0)

  all_from : (k : StorageKey) (es : List (StorageKey × V)) → is_le (key_cmp place k) ≡ true
      → AllByRecursion (λ l. key_cmp k l ≡ Less) (keys_of es)
      → (filter (λ e. not (stands_from e)) es ≡ []) × (filter stands_from es ≡ es)
  all_from k [] is rises = (refl, refl)
  all_from k (e ∷ es) is rises =
      let here : stands_from e ≡ true = from_more (plain_key place) (plain_key k) (plain_key e.0) is rises.0 in
      let later : (filter (λ x. not (stands_from x)) es ≡ []) × (filter stands_from es ≡ es) = all_from k es is rises.1 in (
        ap (λ b. cond (not b) (e ∷ filter (λ x. not (stands_from x)) es) (filter (λ x. not (stands_from x)) es)) here ∙ later.0,
        ap (λ b. cond b (e ∷ filter stands_from es) (filter stands_from es)) here ∙ ap (λ r. e ∷ r) later.1,
      )

  -- entries whose keys rise are those below a place, and then those from it on
  in_two : (es : List (StorageKey × V)) → IsStrictlySortedBy key_cmp (keys_of es)
      → entries_below key_cmp place es ++ entries_from key_cmp place es ≡ es
  unfolding IsStrictlySortedBy
  in_two [] sorted = refl
  in_two (e ∷ es) sorted = at (stands_from e) refl (in_two es sorted.1)
    where
      below : List (StorageKey × V)
      below = entries_below key_cmp place es

      upper : List (StorageKey × V)
      upper = entries_from key_cmp place es

      at : (b : Bool) → stands_from e ≡ b → below ++ upper ≡ es → cond (not b) (e ∷ below) below ++ cond b (e ∷ upper) upper ≡ e ∷ es
      at true is later =
          let all : (below ≡ []) × (upper ≡ es) = all_from e.0 es is sorted.0 in
          ap (λ l. l ++ (e ∷ upper)) all.0 ∙ ap (λ l. e ∷ l) all.1
      at false is later = ap (λ l. e ∷ l) later

module _ {V : Type 0} (p : PlainKey → Bool) where
  -- what holds of no key behind one holds of no entry
  no_entry : (es : List (StorageKey × V)) → AllByRecursion (λ k. p k ≡ false) (map plain_key (keys_of es))
      → AllByRecursion (λ e. p (plain_key e.0) ≡ false) es
  no_entry [] none = tt
  no_entry (e ∷ es) none = (none.0, no_entry es none.1)

  entries_stop : (es : List (StorageKey × V)) → Stops p (map plain_key (keys_of es)) → Stops (λ e. p (plain_key e.0)) es
  entries_stop [] stops = tt
  entries_stop (e ∷ es) stops = ((λ fails. no_entry es (stops.0 fails)), entries_stop es stops.1)

turned_keys : {V : Type 0} (es : List (StorageKey × V)) → map plain_key (keys_of (reverse es)) ≡ reverse (map plain_key (keys_of es))
turned_keys [] = refl
turned_keys (e ∷ es) =
    ap (λ l. map plain_key (keys_of l)) (reverse-append (e ∷ []) es)
    ∙ plain_last (reverse es) e
    ∙ ap (λ l. l ++ plain_key e.0 ∷ []) (turned_keys es)
    ∙ sym (reverse-append (plain_key e.0 ∷ []) (map plain_key (keys_of es)))

turned_entries : {V : Type 0} (es : List (Bor StorageKey × Bor V)) → map entry_of (reverse es) ≡ reverse (map entry_of es)
turned_entries [] = refl
turned_entries (e ∷ es) =
    ap (map entry_of) (reverse-append (e ∷ []) es)
    ∙ map-append entry_of (reverse es) (e ∷ [])
    ∙ ap (λ l. l ++ entry_of e ∷ []) (turned_entries es)
    ∙ sym (reverse-append (entry_of e ∷ []) (map entry_of es))

module _ {V : Type 0} where
  -- the entries that the two walks find, in the order of keys
  pub entries_rise : (site : PlainSite) (place : StorageKey) → plain_site place.top ≡ site
      → (es : List (StorageKey × V)) → IsStrictlySortedBy key_cmp (keys_of es)
      → reverse (take_while (is_entry_under site) (reverse (entries_below key_cmp place es)))
      ++ take_while (is_entry_under site) (entries_from key_cmp place es)
      ≡ filter (is_entry_under site) es
  entries_rise site place is es sorted =
      subst (λ s. reverse (take_while (is_entry_under s) (reverse below)) ++ take_while (is_entry_under s) upper
      ≡ filter (is_entry_under s) es) is
      (ap (λ l. reverse l ++ take_while u upper) (run_kept u (reverse below) stops_down)
      ∙ ap (λ l. l ++ take_while u upper) (filter_turned u below)
      ∙ ap (λ l. filter u below ++ l) (run_kept u upper stops_up)
      ∙ sym (filter-append u below upper)
      ∙ ap (filter u) (in_two place es sorted))
    where
      p : PlainKey
      p = plain_key place

      u : StorageKey × V → Bool
      u = is_entry_under p.top

      below : List (StorageKey × V)
      below = entries_below key_cmp place es

      upper : List (StorageKey × V)
      upper = entries_from key_cmp place es

      stops_down : Stops u (reverse below)
      stops_down = entries_stop (under p) (reverse below)
          (subst (Stops (under p)) (sym (turned_keys below ∙ ap reverse (plain_kept (λ k. not (is_le (key_order p k))) es)))
          (stops_below p (map plain_key (keys_of es)) (plain_sorted (keys_of es) sorted)))

      stops_up : Stops u upper
      stops_up = entries_stop (under p) upper
          (subst (Stops (under p)) (sym (plain_kept (λ k. is_le (key_order p k)) es))
          (stops_from p (map plain_key (keys_of es)) (plain_sorted (keys_of es) sorted)))

  -- keys that are those of all that are under the site
  pub are_under : (site : PlainSite) (es : List (StorageKey × V)) (keys : List PlainKey)
      → keys ≡ filter (is_under site) (map plain_key (keys_of es))
      → AreUnder site (map plain_key (keys_of es)) keys
  are_under site es keys is q =
      ap (is_one_of q) is ∙ among_filtered (is_under site) q (map plain_key (keys_of es))

  -- without a first key there are none
  pub none_rise : (site : PlainSite) (es : List (StorageKey × V)) (found : List (Bor StorageKey × Bor V))
      → None ≡ next_key key_cmp None es → found ≡ []
      → map entry_of found ≡ filter (is_entry_under site) es
  none_rise site es found none empty = ap (map entry_of) empty
      ∙ sym (ap (filter (is_entry_under site)) (none_there es none))

  -- a walk down from nothing, turned, and then a walk up
  pub walked : (site : PlainSite) (place : StorageKey) → plain_site place.top ≡ site
      → (es : List (StorageKey × V)) → IsStrictlySortedBy key_cmp (keys_of es)
      → (lower upper : List (StorageKey × V)) → lower ≡ entries_below key_cmp place es → upper ≡ entries_from key_cmp place es
      → (none down turned all : List (Bor StorageKey × Bor V)) → none ≡ []
      → map entry_of down ≡ map entry_of none ++ take_while (is_entry_under site) (reverse lower) → turned ≡ reverse down
      → map entry_of all ≡ map entry_of turned ++ take_while (is_entry_under site) upper
      → map entry_of all ≡ filter (is_entry_under site) es
  walked site place is es sorted lower upper low up none down turned all empty first turn second =
      second
      ∙ ap (λ l. map entry_of l ++ take_while (is_entry_under site) upper) turn
      ∙ ap (λ l. l ++ take_while (is_entry_under site) upper) (turned_entries down)
      ∙ ap (λ l. reverse l ++ take_while (is_entry_under site) upper)
      (first ∙ ap (λ l. map entry_of l ++ take_while (is_entry_under site) (reverse lower)) empty)
      ∙ (λ i. reverse (take_while (is_entry_under site) (reverse (low i))) ++ take_while (is_entry_under site) (up i))
      ∙ entries_rise site place is es sorted
