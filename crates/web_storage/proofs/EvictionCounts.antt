-- How many local areas an eviction empties.
use Rattle.std.proofs.Common.{◌≡◌, ℕ, ◌+◌, ◌==◌, Bool, true, false, cond, not, List, [], ◌∷◌, length, Option, Some, None, refl, sym, ap, ◌∙◌, arith}
use Rattle.std.specs.Prelude.{◌&&◌, is_some, unwrap_or}
use Rattle.std.specs.List.{AllByRecursion}
use Rattle.std.specs.List.Sorted.{IsStrictlySortedBy}
use Rattle.std.specs.Map.{keys_of}
use Rattle.std.proofs.lemmas.Bool.{ne_eqb}
use Rattle.std.proofs.lemmas.List.Sums.{sum_by-cons}
use Rattle.std.specs.declared.cmp.Ordering.TheVariants.{Less}
use Rattle.std.specs.Ordering.{is_eq}
use Rattle.std.specs.FinMap as finite
use Rattle.std.specs.FinMap.{len-insert, len-empty}
use Rattle.unwinding.specs.FiniteCells.{Full, get_cell, set_cell, list_of}
use Rattle.unwinding.proofs.FiniteCellsLemmas.{get_kept}
use Rattle.origin_site.specs.Site.{PlainSite}
use Rattle.storage_key.specs.Key.{PlainKey, key_order}
use Rattle.storage_key.specs.Plain.{plain_key}
use Rattle.storage_key.specs.declared.key.StorageKey.{StorageKey}
use Rattle.storage_key.proofs.OrderLemmas.{key_order_total, key_order_same}
use Rattle.local_area.specs.Area.{Pair}
use Rattle.key_map.proofs.EntriesLemmas.{eq-flip}
use Rattle.key_map.specs.Entries.{is_among}
use Rattle.buckets.specs.declared.shed.Bucket.{Bucket}
use Rattle.buckets.specs.Shed.{is_best_effort, fresh_bucket, loses_pairs, count_evicted}
use Rattle.agent_model.specs.Partition.{Areas, Keys}
use Rattle.agent_model.proofs.KeptLemmas as kept
use Rattle.web_storage.specs.Stored.{areas_in, keys_in}
use Rattle.agent_model.specs.Partition.{is_under}
use Rattle.web_storage.specs.Evicting.{is_taken, areas_taken_by, key_cmp}
use Rattle.web_storage.proofs.OrderOfKeys.{order}
use Rattle.web_storage.proofs.ShedLemmas.{found, area_at, mode_at}
use Rattle.web_storage.proofs.WriteLemmas.{ties}
use Rattle.web_storage.proofs.EvictionLemmas.{EachKey, IsApart, apart_below, not_found}

-- ---- entries whose keys rise

-- each entry has a property
abbrev pub EachEntry : (StorageKey × Bucket → Type 0) → List (StorageKey × Bucket) → Type 0
EachEntry P es = AllByRecursion P es

-- an entry is found by its key, before lesser ones too
found_before : (e : StorageKey × Bucket) (all es : List (StorageKey × Bucket))
    → AllByRecursion (λ other. key_cmp e.0 other ≡ Less) (keys_of es)
    → EachEntry (λ f. found (plain_key f.0) all ≡ Some f.1) es → EachEntry (λ f. found (plain_key f.0) (e ∷ all) ≡ Some f.1) es
found_before e all [] below there = tt
found_before e all (f ∷ es) below there = (
  ap (λ b. cond b (Some e.1) (found (plain_key f.0) all))
      (eq-flip key_order key_order_total (plain_key f.0) (plain_key e.0) ∙ ap is_eq below.0) ∙ there.0,
  found_before e all es below.1 there.1,
)

pub each_found : (shed : List (StorageKey × Bucket)) → IsStrictlySortedBy key_cmp (keys_of shed)
    → EachEntry (λ e. found (plain_key e.0) shed ≡ Some e.1) shed
unfolding IsStrictlySortedBy
each_found [] sorted = tt
each_found (e ∷ es) sorted = (
  ap (λ b. cond b (Some e.1) (found (plain_key e.0) es)) (ties (plain_key e.0)),
  found_before e es es sorted.0 (each_found es sorted.1),
)

-- an entry's mode says whether its key is persistent
pub mode_of_each : (shed es : List (StorageKey × Bucket)) → EachEntry (λ e. found (plain_key e.0) shed ≡ Some e.1) es
    → EachEntry (λ e. finite.contains_key (keys_in shed) (plain_key e.0) ≡ not (is_best_effort e.1.mode)) es
mode_of_each shed [] there = tt
mode_of_each shed (e ∷ es) there = (
  mode_at (plain_key e.0) shed ∙ ap (λ o. not (is_best_effort (unwrap_or o fresh_bucket).mode)) there.0,
  mode_of_each shed es there.1,
)

-- ---- counts

as_number : Bool → ℕ
as_number b = cond b 1 0

pub list_none : (o : Option (Full Pair)) → list_of o ≡ [] → o ≡ None
list_none None is = refl
list_none (Some f) is = cc

-- no area stands at a key that is apart
no_area : (q : PlainKey) (es : List (StorageKey × Bucket)) → IsApart q es → finite.get (areas_in es) q ≡ None
unfolding get_cell
no_area q es apart = list_none (finite.get (areas_in es) q)
    (area_at q es ∙ ap (λ o. (unwrap_or o fresh_bucket).area) (not_found q es apart))

pub some_length : (x : Pair) (xs : List Pair) → not (length (x ∷ xs) == 0) ≡ true
some_length x xs = ap not (ne_eqb (length (x ∷ xs)) 0 (λ is. omega (arith, is)))

-- one area more, at a key that had none
count_more : (test : PlainKey → Bool) (q : PlainKey) (pairs : List Pair) (areas : Areas) → finite.get areas q ≡ None
    → finite.len (finite.retain_keys (set_cell key_order q pairs areas) test)
    ≡ as_number (test q && not (length pairs == 0)) + finite.len (finite.retain_keys areas test)
unfolding set_cell as_number
count_more test q [] areas none =
    ap (λ m. finite.len (finite.retain_keys m test))
    (kept.remove_absent key_order key_order_total key_order_same areas q none) ∙ nothing (test q)
  where
    nothing : (b : Bool) → finite.len (finite.retain_keys areas test)
        ≡ as_number (b && false) + finite.len (finite.retain_keys areas test)
    nothing true = omega arith
    nothing false = omega arith
count_more test q (x ∷ xs) areas none =
    at (test q) refl ∙ ap (λ b. as_number (test q && b) + finite.len (finite.retain_keys areas test)) (sym (some_length x xs))
  where
    full : Full Pair
    full = record { first = x; rest = xs }

    absent : finite.contains_key (finite.retain_keys areas test) q ≡ false
    absent = ap is_some (get_kept key_order key_order_same test areas q ∙ ap (λ o. cond (test q) o None) none ∙ neither (test q))
      where
        neither : (b : Bool) → ◌≡◌ {A = Option (Full Pair)} (cond b None None) None
        neither true = refl
        neither false = refl

    at : (b : Bool) → test q ≡ b → finite.len (finite.retain_keys (finite.insert areas q full) test)
        ≡ as_number (b && true) + finite.len (finite.retain_keys areas test)
    at true is =
        ap finite.len (kept.change_seen key_order key_order_total key_order_same areas test test q (Some full)
        is (λ k apart. refl))
        ∙ len-insert key_order_total (finite.retain_keys areas test) q full
        ∙ ap (λ b. cond b (finite.len (finite.retain_keys areas test)) (finite.len (finite.retain_keys areas test) + 1)) absent
        ∙ omega arith
    at false is = ap finite.len (kept.change_unseen key_order key_order_total key_order_same areas test q
        (Some full) is) ∙ omega arith

and_parts : (u p l : Bool) (best : Bool) → p ≡ not best → ((u && not p) && l) ≡ ((u && not p) && (best && l))
and_parts true p l true is = refl
and_parts true p l false is = rw is refl
and_parts false p l best is = refl

count_by_each : (site : PlainSite) (persistent : Keys) (keys : List StorageKey)
    (es : List (StorageKey × Bucket)) → IsStrictlySortedBy key_cmp (keys_of es)
    → EachKey (λ k. is_among order keys k ≡ is_taken site persistent (plain_key k)) es
    → EachEntry (λ e. finite.contains_key persistent (plain_key e.0) ≡ not (is_best_effort e.1.mode)) es
    → finite.len (areas_taken_by site persistent (areas_in es)) ≡ count_evicted order keys es
unfolding IsStrictlySortedBy as_number
count_by_each site persistent keys [] sorted taken modes = nothing
  where
    nothing : finite.len (areas_taken_by site persistent (areas_in [])) ≡ 0
    nothing = ap finite.len (kept.all_kept key_order key_order_total key_order_same (areas_in [])
        (is_taken site persistent) (λ k is. no_area k [] tt)) ∙ len-empty key_order (Full Pair)
count_by_each site persistent keys (e ∷ es) sorted taken modes =
    count_more (is_taken site persistent) (plain_key e.0) e.1.area (areas_in es)
    (no_area (plain_key e.0) es (apart_below e.0 (keys_of es) sorted.0))
    ∙ ap (λ n. as_number (is_taken site persistent (plain_key e.0) && not (length e.1.area == 0)) + n)
    (count_by_each site persistent keys es sorted.1 taken.1 modes.1)
    ∙ ap (λ b. as_number b + count_evicted order keys es)
    (and_parts (is_under site (plain_key e.0)) (finite.contains_key persistent (plain_key e.0))
    (not (length e.1.area == 0)) (is_best_effort e.1.mode) modes.0
    ∙ ap (λ u. u && loses_pairs e.1) (sym taken.0))
    ∙ sym (sum_by-cons (λ (d : StorageKey × Bucket). as_number (is_among order keys d.0 && loses_pairs d.1)) e es)

-- as many areas are counted as are taken
pub evicted_count : (site : PlainSite) (keys : List StorageKey) (shed : List (StorageKey × Bucket))
    → IsStrictlySortedBy key_cmp (keys_of shed)
    → EachKey (λ k. is_among order keys k ≡ is_taken site (keys_in shed) (plain_key k)) shed
    → finite.len (areas_taken_by site (keys_in shed) (areas_in shed)) ≡ count_evicted order keys shed
evicted_count site keys shed sorted taken =
    count_by_each site (keys_in shed) keys shed sorted taken (mode_of_each shed shed (each_found shed sorted))
