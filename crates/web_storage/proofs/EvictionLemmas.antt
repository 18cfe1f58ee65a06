-- What an eviction of the keys under a site makes of the local areas, and how many it empties.
use Rattle.std.proofs.Common.{◌≡◌, Bool, true, false, cond, not, List, [], ◌∷◌, map, Some, None, refl, sym, ap, subst, ◌∙◌}
use Rattle.std.specs.Prelude.{◌&&◌, ◌||◌, filter, unwrap_or}
use Rattle.std.specs.List.{AllByRecursion}
use Rattle.std.specs.Map.{keys_of}
use Rattle.std.proofs.lemmas.Bool.{or_right}
use Rattle.std.specs.declared.cmp.Ordering.TheVariants.{Less}
use Rattle.std.specs.Ordering.{is_eq, eq_by_cmp}
use Rattle.std.specs.FinMap as finite
use Rattle.unwinding.specs.FiniteCells.{restrict_cells}
use Rattle.unwinding.proofs.FiniteCellsLemmas as cells
use Rattle.origin_site.specs.Site.{PlainSite}
use Rattle.storage_key.specs.Key.{PlainKey, key_order}
use Rattle.storage_key.specs.Plain.{plain_key}
use Rattle.storage_key.specs.declared.key.StorageKey.{StorageKey}
use Rattle.storage_key.proofs.OrderLemmas.{key_order_total, key_order_same}
use Rattle.key_map.proofs.FiniteKeys.{and_none, in_filtered}
use Rattle.key_map.specs.Entries.{is_among}
use Rattle.buckets.specs.declared.shed.Bucket.{Bucket}
use Rattle.buckets.specs.Shed.{is_best_effort, fresh_bucket, evicted}
use Rattle.web_storage.specs.Stored.{areas_in, keys_in}
use Rattle.std.specs.List.Sorted.{IsStrictlySortedBy}
use Rattle.agent_model.specs.Partition.{is_under}
use Rattle.web_storage.specs.Evicting.{is_one_of, is_taken, areas_left_by, key_cmp}
use Rattle.web_storage.proofs.OrderOfKeys.{order}
use Rattle.web_storage.proofs.ShedLemmas.{bucket_at, found, area_at, mode_at}
use Rattle.web_storage.proofs.WriteLemmas.{ties, tied_keys, same_keys}

-- ---- which keys are taken

-- among the keys that pass a test are those that pass it
pub among_filtered : (under : PlainKey → Bool) (q : PlainKey) (keys : List PlainKey)
    → is_one_of q (filter under keys) ≡ (is_one_of q keys && under q)
among_filtered under q keys = in_filtered key_order key_order_total key_order_same under q keys

-- a key of the program is among these where its plain key is one of theirs
pub among_plain : (keys : List StorageKey) (key : StorageKey)
    → is_among order keys key ≡ is_one_of (plain_key key) (map plain_key keys)
among_plain [] key = refl
among_plain (k ∷ keys) key = ap (λ b. eq_by_cmp key_order (plain_key k) (plain_key key) || b) (among_plain keys key)

-- each entry has a property of its key
abbrev pub EachKey : (StorageKey → Type 0) → List (StorageKey × Bucket) → Type 0
EachKey P es = AllByRecursion (λ e. P e.0) es

each_more : (P Q : StorageKey → Type 0) → ((k : StorageKey) → P k → Q k) → (es : List (StorageKey × Bucket))
    → EachKey P es → EachKey Q es
each_more P Q more [] all = tt
each_more P Q more (e ∷ es) all = (more e.0 all.0, each_more P Q more es all.1)

-- each key of a shed is one of its keys
each_there : (es : List (StorageKey × Bucket)) → EachKey (λ k. is_one_of (plain_key k) (map plain_key (keys_of es)) ≡ true) es
each_there [] = tt
each_there (e ∷ es) = (
  ap (λ b. b || is_one_of (plain_key e.0) (map plain_key (keys_of es))) (ties (plain_key e.0)),
  each_more (λ k. is_one_of (plain_key k) (map plain_key (keys_of es)) ≡ true)
      (λ k. is_one_of (plain_key k) (map plain_key (keys_of (e ∷ es))) ≡ true)
      (λ k there. or_right (eq_by_cmp key_order (plain_key e.0) (plain_key k)) _ there) es (each_there es),
)

-- the keys that are taken are those under the site
pub each_taken : (under : PlainKey → Bool) (keys : List StorageKey) (shed : List (StorageKey × Bucket))
    → ((q : PlainKey) → is_one_of q (map plain_key keys)
    ≡ (is_one_of q (map plain_key (keys_of shed)) && under q))
    → EachKey (λ k. is_among order keys k ≡ under (plain_key k)) shed
each_taken under keys shed are =
    each_more (λ k. is_one_of (plain_key k) (map plain_key (keys_of shed)) ≡ true)
    (λ k. is_among order keys k ≡ under (plain_key k))
    (λ k there.
    among_plain keys k ∙ are (plain_key k)
    ∙ ap (λ b. b && under (plain_key k)) there)
    shed (each_there shed)

-- ---- entries whose keys rise

-- a key is none of these
abbrev pub IsApart : PlainKey → List (StorageKey × Bucket) → Type 0
IsApart q es = AllByRecursion (λ k. eq_by_cmp key_order q (plain_key k) ≡ false) (keys_of es)

-- a lesser key is none of those that are greater
pub apart_below : (k : StorageKey) (ks : List StorageKey) → AllByRecursion (λ other. key_cmp k other ≡ Less) ks
    → AllByRecursion (λ other. eq_by_cmp key_order (plain_key k) (plain_key other) ≡ false) ks
apart_below k [] below = tt
apart_below k (other ∷ ks) below = (ap is_eq below.0, apart_below k ks below.1)

pub not_found : (q : PlainKey) (es : List (StorageKey × Bucket)) → IsApart q es → found q es ≡ None
not_found q [] apart = refl
not_found q (e ∷ es) apart = ap (λ b. cond b (Some e.1) (found q es)) apart.0 ∙ not_found q es apart.1

-- a key that ties with a lesser one is none of those that are greater
pub apart_ties : (q : PlainKey) (k : StorageKey) (ks : List StorageKey)
    → eq_by_cmp key_order q (plain_key k) ≡ true → AllByRecursion (λ other. key_cmp k other ≡ Less) ks
    → AllByRecursion (λ other. eq_by_cmp key_order q (plain_key other) ≡ false) ks
apart_ties q k ks tie below =
    subst (λ p. AllByRecursion (λ other. eq_by_cmp key_order p (plain_key other) ≡ false) ks)
    (sym (tied_keys q (plain_key k) tie)) (apart_below k ks below)

-- ---- what is left

-- a bucket after an eviction, by whether its key is under the site
abbrev bucket_left : Bool → Bucket → Bucket
bucket_left taken bucket = cond (taken && is_best_effort bucket.mode) fresh_bucket bucket

module _ (under : PlainKey → Bool) (keys : List StorageKey) where
  fresh_left : (b : Bool) → bucket_left b fresh_bucket ≡ fresh_bucket
  fresh_left true = refl
  fresh_left false = refl

  -- the bucket of a plain key after an eviction
  pub bucket_after : (q : PlainKey) (shed : List (StorageKey × Bucket)) → IsStrictlySortedBy key_cmp (keys_of shed)
      → EachKey (λ k. is_among order keys k ≡ under (plain_key k)) shed
      → bucket_at q (evicted order keys shed) ≡ bucket_left (under q) (bucket_at q shed)
  unfolding IsStrictlySortedBy
  bucket_after q [] sorted taken = sym (fresh_left (under q))
  bucket_after q (e ∷ es) sorted taken =
      at (is_among order keys e.0) taken.0 (is_best_effort e.1.mode) refl
      (eq_by_cmp key_order q (plain_key e.0)) refl (bucket_after q es sorted.1 taken.1)
    where
      rest : List (StorageKey × Bucket)
      rest = evicted order keys es

      -- no other bucket of the key is left
      gone : eq_by_cmp key_order q (plain_key e.0) ≡ true
          → bucket_at q rest ≡ bucket_left (under q) (bucket_at q es) → bucket_at q rest ≡ fresh_bucket
      gone tie later =
          later ∙ ap (λ o. bucket_left (under q) (unwrap_or o fresh_bucket))
          (not_found q es (apart_ties q e.0 (keys_of es) tie sorted.0))
          ∙ fresh_left (under q)

      at : (a : Bool) → a ≡ under (plain_key e.0) → (b : Bool) → is_best_effort e.1.mode ≡ b → (c : Bool)
          → eq_by_cmp key_order q (plain_key e.0) ≡ c
          → bucket_at q rest ≡ bucket_left (under q) (bucket_at q es)
          → bucket_at q (cond (not (a && b)) (e ∷ rest) rest)
          ≡ bucket_left (under q) (unwrap_or (cond c (Some e.1) (found q es)) fresh_bucket)
      at a is b best true tie later =
          let here : under q ≡ a = ap under (tied_keys q (plain_key e.0) tie) ∙ sym is in
          taken_or (a && b) (ap (λ u. u && is_best_effort e.1.mode) here ∙ ap (λ m. a && m) best)
        where
          taken_or : (t : Bool) → (under q && is_best_effort e.1.mode) ≡ t
              → bucket_at q (cond (not t) (e ∷ rest) rest) ≡ cond (under q && is_best_effort e.1.mode) fresh_bucket e.1
          taken_or true all = gone tie later ∙ ap (λ t. cond t fresh_bucket e.1) (sym all)
          taken_or false all = ap (λ c. unwrap_or (cond c (Some e.1) (found q rest)) fresh_bucket) tie
              ∙ ap (λ t. cond t fresh_bucket e.1) (sym all)
      at a is b best false tie later = kept_or (a && b) ∙ later
        where
          kept_or : (t : Bool) → bucket_at q (cond (not t) (e ∷ rest) rest) ≡ bucket_at q rest
          kept_or true = refl
          kept_or false = ap (λ c. unwrap_or (cond c (Some e.1) (found q rest)) fresh_bucket) tie

  mode_left : (b : Bool) (bucket : Bucket) → is_best_effort (bucket_left b bucket).mode ≡ is_best_effort bucket.mode
  mode_left b bucket = at (is_best_effort bucket.mode) refl
    where
      at : (c : Bool) → is_best_effort bucket.mode ≡ c → is_best_effort (cond (b && c) fresh_bucket bucket).mode ≡ c
      at true is = by b
        where
          by : (b : Bool) → is_best_effort (cond (b && true) fresh_bucket bucket).mode ≡ true
          by true = refl
          by false = is
      at false is = ap (λ t. is_best_effort (cond t fresh_bucket bucket).mode) (and_none b) ∙ is

  -- the modes stay
  pub evicted_modes : (shed : List (StorageKey × Bucket)) → IsStrictlySortedBy key_cmp (keys_of shed)
      → EachKey (λ k. is_among order keys k ≡ under (plain_key k)) shed
      → keys_in (evicted order keys shed) ≡ keys_in shed
  evicted_modes shed sorted taken = same_keys _ _ (λ q.
      mode_at q (evicted order keys shed)
      ∙ ap (λ b. not (is_best_effort b.mode)) (bucket_after q shed sorted taken)
      ∙ ap not (mode_left (under q) (bucket_at q shed))
      ∙ sym (mode_at q shed))

area_left : (b : Bool) (bucket : Bucket) → (bucket_left b bucket).area
    ≡ cond (not (b && not (not (is_best_effort bucket.mode)))) bucket.area []
area_left b bucket = at b (is_best_effort bucket.mode)
  where
    at : (b c : Bool) → (cond (b && c) fresh_bucket bucket).area ≡ cond (not (b && not (not c))) bucket.area []
    at true true = refl
    at true false = refl
    at false c = refl

-- the areas that are left
pub evicted_areas : (site : PlainSite) (keys : List StorageKey) (shed : List (StorageKey × Bucket))
    → IsStrictlySortedBy key_cmp (keys_of shed)
    → EachKey (λ k. is_among order keys k ≡ is_taken site (keys_in shed) (plain_key k)) shed
    → areas_in (evicted order keys shed) ≡ areas_left_by site (keys_in shed) (areas_in shed)
unfolding restrict_cells
evicted_areas site keys shed sorted taken = cells.same_cells key_order key_order_total key_order_same _ _ (λ q.
    area_at q (evicted order keys shed)
    ∙ ap (λ b. b.area) (bucket_after (is_taken site (keys_in shed)) keys q shed sorted taken)
    ∙ area_left (is_taken site (keys_in shed) q) (bucket_at q shed)
    ∙ ap (λ m. cond (not (is_taken site (keys_in shed) q && not m)) (bucket_at q shed).area []) (sym (mode_at q shed))
    ∙ ap (λ b. cond (not b) (bucket_at q shed).area []) (once (is_under site q) (finite.contains_key (keys_in shed) q))
    ∙ ap (λ pairs. cond (not (is_taken site (keys_in shed) q)) pairs []) (sym (area_at q shed))
    ∙ sym (cells.get_restrict key_order key_order_total key_order_same
    (λ key. not (is_taken site (keys_in shed) key)) (areas_in shed) q))
  where
    once : (u m : Bool) → ((u && not m) && not m) ≡ (u && not m)
    once true true = refl
    once true false = refl
    once false m = refl
