-- Which keys of a shed have an area or a persistent bucket, and which an eviction takes.
use Rattle.std.proofs.Common.{◌≡◌, Bool, true, false, cond, not, List, [], ◌∷◌, ◌++◌, map, Option, Some, None, refl, sym, ap, subst, ◌∙◌}
use Rattle.std.specs.Prelude.{◌&&◌, ◌||◌, ◌==◌, filter, is_some, length, option_map, unwrap_or}
use Rattle.std.specs.List.Sorted.{IsStrictlySortedBy}
use Rattle.std.specs.Map.{keys_of}
use Rattle.std.specs.Cmp.{on_total}
use Rattle.std.specs.Ordering.{eq_by_cmp}
use Rattle.std.specs.FinMap as finite
use Rattle.std.proofs.lemmas.Bool.{true≢false}
use Rattle.std.proofs.lemmas.List.{append-nil}
use Rattle.std.proofs.lemmas.List.Elements.{filter-append, filter_agree}
use Rattle.unwinding.specs.FiniteCells.{Full, get_cell, list_of}
use Rattle.unwinding.proofs.FiniteCellsLemmas.{get_kept}
use Rattle.origin_site.specs.Site.{PlainSite}
use Rattle.storage_key.specs.Key.{PlainKey, key_order}
use Rattle.storage_key.specs.Plain.{plain_key}
use Rattle.storage_key.specs.declared.key.StorageKey.{StorageKey}
use Rattle.storage_key.proofs.OrderLemmas.{key_order_total, key_order_same}
use Rattle.local_area.specs.Area.{Pair}
use Rattle.key_map.proofs.EntriesLemmas.{eq-flip}
use Rattle.key_map.proofs.FiniteKeys.{from_first, keys_had}
use Rattle.key_map.specs.Entries.{entries_from, map_get, next_key}
use Rattle.buckets.specs.declared.shed.Bucket.{Bucket}
use Rattle.buckets.specs.Shed.{fresh_bucket, is_best_effort}
use Rattle.agent_model.specs.Partition.{Areas, Keys, is_under}
use Rattle.web_storage.specs.Stored.{areas_in, keys_in}
use Rattle.web_storage.specs.Evicting.{areas_taken_by, is_entry_under, is_one_of, is_taken, key_cmp, keys_taken_of}
use Rattle.web_storage.specs.Texts.{is_of_kind, keys_of_kind}
use Rattle.web_storage.proofs.ShedLemmas.{area_at, found, mode_at}
use Rattle.web_storage.proofs.OrderOfKeys.{alike, order}
use Rattle.web_storage.proofs.HeldLemmas.{area_or}
use Rattle.web_storage.proofs.WriteLemmas.{held_found}
use Rattle.web_storage.proofs.EvictionCounts.{EachEntry, each_found, list_none, mode_of_each, some_length}
use Rattle.web_storage.proofs.UnderLemmas.{none_there, plain_last, plain_sorted}

-- ---- lists

-- a test after a test
filter_twice : {X : Type 0} (p q : X → Bool) (xs : List X) → filter q (filter p xs) ≡ filter (λ x. p x && q x) xs
filter_twice p q [] = refl
filter_twice p q (x ∷ xs) = at (p x) (filter_twice p q xs)
  where
    at : (b : Bool) → filter q (filter p xs) ≡ filter (λ y. p y && q y) xs
        → filter q (cond b (x ∷ filter p xs) (filter p xs))
        ≡ cond (b && q x) (x ∷ filter (λ y. p y && q y) xs) (filter (λ y. p y && q y) xs)
    at true later = ap (λ l. cond (q x) (x ∷ l) l) later
    at false later = later

-- keys whose plain keys pass a test
pub plain_those : (test : PlainKey → Bool) (keys : List StorageKey)
    → map plain_key (filter (λ key. test (plain_key key)) keys) ≡ filter test (map plain_key keys)
plain_those test [] = refl
plain_those test (key ∷ keys) = at (test (plain_key key)) (plain_those test keys)
  where
    at : (b : Bool) → map plain_key (filter (λ k. test (plain_key k)) keys) ≡ filter test (map plain_key keys)
        → map plain_key (cond b (key ∷ filter (λ k. test (plain_key k)) keys) (filter (λ k. test (plain_key k)) keys))
        ≡ cond b (plain_key key ∷ filter test (map plain_key keys)) (filter test (map plain_key keys))
    at true later = ap (λ l. plain_key key ∷ l) later
    at false later = later

-- ---- what a shed has

-- a plain key that is found is one of the keys
found_there : (q : PlainKey) (shed : List (StorageKey × Bucket)) → is_some (found q shed) ≡ true
    → is_one_of q (map plain_key (keys_of shed)) ≡ true
found_there q [] is = cc
found_there q (e ∷ es) is = at (eq_by_cmp key_order q (plain_key e.0)) refl is (found_there q es)
  where
    others : Bool
    others = is_one_of q (map plain_key (keys_of es))

    flip : eq_by_cmp key_order (plain_key e.0) q ≡ eq_by_cmp key_order q (plain_key e.0)
    flip = eq-flip key_order key_order_total (plain_key e.0) q

    at : (b : Bool) → eq_by_cmp key_order q (plain_key e.0) ≡ b
        → is_some (cond b (Some e.1) (found q es)) ≡ true → (is_some (found q es) ≡ true → others ≡ true)
        → (eq_by_cmp key_order (plain_key e.0) q || others) ≡ true
    at true tie is later = ap (λ b. b || others) (flip ∙ tie)
    at false tie is later = ap (λ b. b || others) (flip ∙ tie) ∙ later is

-- a key that has an area is one of a shed's
area_there : (shed : List (StorageKey × Bucket)) (q : PlainKey) → finite.contains_key (areas_in shed) q ≡ true
    → is_one_of q (map plain_key (keys_of shed)) ≡ true
unfolding get_cell
area_there shed q is = at (found q shed) refl
  where
    at : (o : Option Bucket) → found q shed ≡ o → is_one_of q (map plain_key (keys_of shed)) ≡ true
    at (Some bucket) there = found_there q shed (ap is_some there)
    at None none =
        absurd (true≢false (sym is ∙ ap is_some (list_none (finite.get (areas_in shed) q)
        (area_at q shed ∙ ap (λ o. (unwrap_or o fresh_bucket).area) none))))

-- and so is one that is persistent
mode_there : (shed : List (StorageKey × Bucket)) (q : PlainKey) → finite.contains_key (keys_in shed) q ≡ true
    → is_one_of q (map plain_key (keys_of shed)) ≡ true
mode_there shed q is = at (found q shed) refl
  where
    at : (o : Option Bucket) → found q shed ≡ o → is_one_of q (map plain_key (keys_of shed)) ≡ true
    at (Some bucket) there = found_there q shed (ap is_some there)
    at None none = absurd (true≢false (sym is ∙ mode_at q shed
        ∙ ap (λ o. not (is_best_effort (unwrap_or o fresh_bucket).mode)) none))

-- the keys of a kind are those of the shed that are of this kind
pub kind_listed : (with_area : Bool) (shed : List (StorageKey × Bucket)) → IsStrictlySortedBy key_cmp (keys_of shed)
    → filter (is_of_kind with_area (areas_in shed) (keys_in shed)) (map plain_key (keys_of shed))
    ≡ keys_of_kind with_area (areas_in shed) (keys_in shed)
kind_listed true shed sorted = keys_had key_order key_order_total key_order_same (areas_in shed)
    (map plain_key (keys_of shed)) (plain_sorted (keys_of shed) sorted) (area_there shed)
kind_listed false shed sorted =
    sym (filter_twice (finite.contains_key (keys_in shed))
    (λ key. not (finite.contains_key (areas_in shed) key)) (map plain_key (keys_of shed)))
    ∙ ap (filter (λ key. not (finite.contains_key (areas_in shed) key)))
    (keys_had key_order key_order_total key_order_same (keys_in shed) (map plain_key (keys_of shed))
    (plain_sorted (keys_of shed) sorted) (mode_there shed))

-- an entry more, whose bucket is best-effort or is not
pub best_more : (es : List (StorageKey × Bucket)) (e : StorageKey × Bucket) (b : Bool) → is_best_effort e.1.mode ≡ b
    → map plain_key (keys_of (filter (λ d. is_best_effort d.1.mode) (es ++ e ∷ [])))
    ≡ cond b (map plain_key (keys_of (filter (λ d. is_best_effort d.1.mode) es)) ++ plain_key e.0 ∷ [])
    (map plain_key (keys_of (filter (λ d. is_best_effort d.1.mode) es)))
best_more es e b is = ap (λ l. map plain_key (keys_of l))
    (filter-append (λ d. is_best_effort d.1.mode) es (e ∷ [])
    ∙ ap (λ c. best ++ cond c (e ∷ []) []) is) ∙ at b
  where
    best : List (StorageKey × Bucket)
    best = filter (λ d. is_best_effort d.1.mode) es

    at : (c : Bool) → map plain_key (keys_of (best ++ cond c (e ∷ []) []))
        ≡ cond c (map plain_key (keys_of best) ++ plain_key e.0 ∷ []) (map plain_key (keys_of best))
    at true = plain_last best e
    at false = ap (λ l. map plain_key (keys_of l)) (append-nil best)

-- the best-effort entries under a site, by the keys that are persistent
best_entries : (site : PlainSite) (persistent : Keys) (es : List (StorageKey × Bucket))
    → EachEntry (λ e. finite.contains_key persistent (plain_key e.0) ≡ not (is_best_effort e.1.mode)) es
    → map plain_key (keys_of (filter (λ e. is_best_effort e.1.mode) (filter (is_entry_under site) es)))
    ≡ keys_taken_of site persistent (map plain_key (keys_of es))
best_entries site persistent [] modes = refl
best_entries site persistent (e ∷ es) modes =
    at (is_under site (plain_key e.0)) (is_best_effort e.1.mode) refl (best_entries site persistent es modes.1)
    ∙ ap (λ p. cond (is_under site (plain_key e.0) && not p) (plain_key e.0 ∷ rest) rest) (sym modes.0)
  where
    some : List (StorageKey × Bucket)
    some = filter (is_entry_under site) es

    rest : List PlainKey
    rest = keys_taken_of site persistent (map plain_key (keys_of es))

    at : (u b : Bool) → is_best_effort e.1.mode ≡ b
        → map plain_key (keys_of (filter (λ d. is_best_effort d.1.mode) some)) ≡ rest
        → map plain_key (keys_of (filter (λ d. is_best_effort d.1.mode) (cond u (e ∷ some) some)))
        ≡ cond (u && not (not (is_best_effort e.1.mode))) (plain_key e.0 ∷ rest) rest
    at true true is later = rw is (ap (λ l. plain_key e.0 ∷ l) later)
    at true false is later = rw is later
    at false b is later = later

-- the keys of the best-effort buckets under a site
pub best_listed : (site : PlainSite) (shed : List (StorageKey × Bucket)) → IsStrictlySortedBy key_cmp (keys_of shed)
    → map plain_key (keys_of (filter (λ e. is_best_effort e.1.mode) (filter (is_entry_under site) shed)))
    ≡ keys_taken_of site (keys_in shed) (map plain_key (keys_of shed))
best_listed site shed sorted = best_entries site (keys_in shed) shed (mode_of_each shed shed (each_found shed sorted))

-- the keys whose areas an eviction takes are those of them that have an area
pub taken_listed : (site : PlainSite) (shed : List (StorageKey × Bucket)) → IsStrictlySortedBy key_cmp (keys_of shed)
    → filter (finite.contains_key (areas_in shed)) (keys_taken_of site (keys_in shed) (map plain_key (keys_of shed)))
    ≡ finite.keys (areas_taken_by site (keys_in shed) (areas_in shed))
taken_listed site shed sorted =
    filter_twice (is_taken site (keys_in shed)) (finite.contains_key (areas_in shed)) all
    ∙ filter_agree (λ q. is_taken site (keys_in shed) q && finite.contains_key (areas_in shed) q)
    (finite.contains_key taken) (λ q. sym (has q)) all
    ∙ keys_had key_order key_order_total key_order_same taken all (plain_sorted (keys_of shed) sorted)
    (λ q is. area_there shed q (last (is_taken site (keys_in shed) q) (finite.contains_key (areas_in shed) q)
    (sym (has q) ∙ is)))
  where
    all : List PlainKey
    all = map plain_key (keys_of shed)

    taken : Areas
    taken = areas_taken_by site (keys_in shed) (areas_in shed)

    by : (t : Bool) (o : Option (Full Pair)) → is_some (cond t o None) ≡ (t && is_some o)
    by true o = refl
    by false o = refl

    has : (q : PlainKey) → finite.contains_key taken q
        ≡ (is_taken site (keys_in shed) q && finite.contains_key (areas_in shed) q)
    has q =
        ap is_some (get_kept key_order key_order_same (is_taken site (keys_in shed)) (areas_in shed) q)
        ∙ by (is_taken site (keys_in shed) q) (finite.get (areas_in shed) q)

    last : (t a : Bool) → (t && a) ≡ true → a ≡ true
    last true a is = is
    last false a is = cc

-- ---- what a call tells of a key

has_first : (o : Option (Full Pair)) → is_some o ≡ not (length (list_of o) == 0)
has_first None = refl
has_first (Some full) = sym (some_length full.first full.rest)

-- a key has an area where the pairs that are told of it are not none
pub told_pairs : (key : StorageKey) (shed : List (StorageKey × Bucket)) (told : Option (List Pair))
    → told ≡ option_map (λ bucket. bucket.area) (map_get order key shed)
    → not (length (unwrap_or told []) == 0) ≡ finite.contains_key (areas_in shed) (plain_key key)
unfolding get_cell
told_pairs key shed told is =
    ap (λ pairs. not (length pairs == 0))
    (ap (λ o. unwrap_or o []) is ∙ area_or (map_get order key shed) ∙ held_found order alike key shed)
    ∙ sym (has_first (finite.get (areas_in shed) (plain_key key)))

-- ---- a walk over all buckets

-- the walk from the first key on finds the keys of a kind
pub walked_all : (with_area : Bool) (shed one two all : List (StorageKey × Bucket)) (first : StorageKey) → one ≡ shed → two ≡ shed
    → IsStrictlySortedBy key_cmp (keys_of one) → Some first ≡ next_key key_cmp None one → all ≡ entries_from key_cmp first two
    → filter (is_of_kind with_area (areas_in shed) (keys_in shed)) (map plain_key (keys_of all))
    ≡ keys_of_kind with_area (areas_in shed) (keys_in shed)
walked_all with_area shed one two all first is same sorted found from =
    ap (λ es. filter (is_of_kind with_area (areas_in shed) (keys_in shed)) (map plain_key (keys_of es)))
    (from ∙ ap (entries_from key_cmp first) same ∙ from_first key_cmp (on_total plain_key key_order_total)
    first shed rises (found ∙ ap (next_key key_cmp None) is))
    ∙ kind_listed with_area shed rises
  where
    rises : IsStrictlySortedBy key_cmp (keys_of shed)
    rises = subst (λ es. IsStrictlySortedBy key_cmp (keys_of es)) is sorted

-- without a first key there are none
pub none_of_kind : (with_area : Bool) (shed one : List (StorageKey × Bucket)) → one ≡ shed
    → IsStrictlySortedBy key_cmp (keys_of one)
    → None ≡ next_key key_cmp None one → [] ≡ keys_of_kind with_area (areas_in shed) (keys_in shed)
none_of_kind with_area shed one is sorted none =
    ap (λ es. filter (is_of_kind with_area (areas_in shed) (keys_in shed)) (map plain_key (keys_of es)))
    (sym (none_there shed (none ∙ ap (next_key key_cmp None) is)))
    ∙ kind_listed with_area shed (subst (λ es. IsStrictlySortedBy key_cmp (keys_of es)) is sorted)
