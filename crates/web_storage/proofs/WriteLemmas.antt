-- What a write at a key of a shed makes of the local areas and of the persistent keys.
use Rattle.std.proofs.Common.{◌≡◌, ◌==◌, Bool, true, false, cond, not, List, [], ◌∷◌, length, Option, Some, None, refl, sym, ap, arith, ◌∙◌}
use Rattle.std.specs.Prelude.{◌&&◌, is_some, option_map, unwrap_or, Result, Ok, Err, OnOk, OnErr}
use Rattle.std.proofs.lemmas.Bool.Decides.{nat_tests}
use Rattle.std.specs.declared.cmp.Ordering.{Ordering}
use Rattle.std.specs.declared.cmp.Ordering.TheVariants.{Less, Equal, Greater}
use Rattle.std.specs.Ordering.{is_eq, eq_by_cmp, ordering_reverse}
use Rattle.std.specs.FinMap as finite
use Rattle.std.specs.FinMap.{get-insert, same_map}
use Rattle.unwinding.specs.FiniteCells.{get_cell, set_cell}
use Rattle.unwinding.proofs.FiniteCellsLemmas as cells
use Rattle.storage_key.specs.Key.{PlainKey, key_order}
use Rattle.storage_key.specs.Plain.{plain_key}
use Rattle.storage_key.specs.declared.key.StorageKey.{StorageKey}
use Rattle.storage_key.proofs.OrderLemmas.{key_order_total, key_order_same}
use Rattle.local_area.specs.Area.{Pair}
use Rattle.key_map.specs.Entries.{map_get, map_put, map_remove, map_set}
use Rattle.key_map.proofs.PlainKeyLemmas.{found-key, found-put, found-set, found-removed}
use Rattle.buckets.specs.declared.shed.Bucket.{Bucket}
use Rattle.buckets.specs.Shed.{is_best_effort, is_fresh, fresh_bucket, persistent_bucket, pairs_at, made, has_fresh, without_fresh, with_pairs, persisted}
use Rattle.buckets.specs.Shed.{mode_at as mode_at_key, bucket_at as bucket_at_key}
use Rattle.agent_model.specs.Partition.{Keys}
use Rattle.web_storage.specs.Stored.{areas_in, keys_in}
use Rattle.web_storage.proofs.ShedLemmas.{bucket_at, found, area_at, mode_at}

pub equal_tie : (r : Ordering) → is_eq r ≡ true → r ≡ Equal
equal_tie Less e = cc
equal_tie Equal e = refl
equal_tie Greater e = cc

-- a key ties with itself
pub ties : (q : PlainKey) → eq_by_cmp key_order q q ≡ true
ties q = at (key_order q q) (key_order_total.antisymm q q)
  where
    at : (o : Ordering) → o ≡ ordering_reverse o → is_eq o ≡ true
    at Less e = cc
    at Equal e = refl
    at Greater e = cc

-- keys that tie are equal
pub tied_keys : (a b : PlainKey) → eq_by_cmp key_order a b ≡ true → a ≡ b
tied_keys a b is = key_order_same a b (equal_tie (key_order a b) is)

-- what is there at a key where it ties with another, and as before else
pub cond_same : {X : Type 0} (f : PlainKey → X) (q key : PlainKey) (b : Bool) → eq_by_cmp key_order q key ≡ b
    → cond b (f key) (f q) ≡ f q
cond_same f q key true is = ap f (sym (tied_keys q key is))
cond_same f q key false is = refl

unit_same : (x y : Option (Unit {0})) → is_some x ≡ is_some y → x ≡ y
unit_same None None is = refl
unit_same None (Some u) is = cc
unit_same (Some u) None is = cc
unit_same (Some u) (Some v) is = refl

-- sets of keys with the same members are equal
pub same_keys : (x y : Keys) → ((key : PlainKey) → finite.contains_key x key ≡ finite.contains_key y key) → x ≡ y
same_keys x y same = same_map key_order_total key_order_same x y
    (λ key. unit_same (finite.get x key) (finite.get y key) (same key))

pick_bucket : {X : Type 0} (f : Bucket → X) (b : Bool) (x y : Bucket) → f (cond b x y) ≡ cond b (f x) (f y)
pick_bucket f true x y = refl
pick_bucket f false x y = refl

-- a shed has this bucket at a plain key, and at every other key what it had
abbrev pub HasBucket : PlainKey → Bucket → (old new : List (StorageKey × Bucket)) → Type 0
HasBucket key bucket old new = (q : PlainKey) → bucket_at q new ≡ cond (eq_by_cmp key_order q key) bucket (bucket_at q old)

module _ (key : PlainKey) (bucket : Bucket) (old new : List (StorageKey × Bucket)) (has : HasBucket key bucket old new) where
  -- the local areas after a bucket was written
  pub area_written : areas_in new ≡ set_cell key_order key bucket.area (areas_in old)
  area_written = cells.same_cells key_order key_order_total key_order_same _ _ (λ q.
      area_at q new
      ∙ ap (λ b. b.area) (has q)
      ∙ pick_bucket (λ b. b.area) (eq_by_cmp key_order q key) bucket (bucket_at q old)
      ∙ ap (λ r. cond (eq_by_cmp key_order q key) bucket.area r) (sym (area_at q old))
      ∙ sym (cells.get_set key_order key_order_total key_order_same q key bucket.area (areas_in old)))

  -- whether a key is persistent after a bucket was written
  mode_written : (q : PlainKey) → finite.contains_key (keys_in new) q
      ≡ cond (eq_by_cmp key_order q key) (not (is_best_effort bucket.mode)) (finite.contains_key (keys_in old) q)
  mode_written q =
      mode_at q new
      ∙ ap (λ b. not (is_best_effort b.mode)) (has q)
      ∙ pick_bucket (λ b. not (is_best_effort b.mode)) (eq_by_cmp key_order q key) bucket (bucket_at q old)
      ∙ ap (λ r. cond (eq_by_cmp key_order q key) (not (is_best_effort bucket.mode)) r) (sym (mode_at q old))

  -- a bucket that keeps its mode leaves the persistent keys
  pub modes_kept : is_best_effort bucket.mode ≡ is_best_effort (bucket_at key old).mode → keys_in new ≡ keys_in old
  modes_kept same = same_keys _ _ (λ q.
      mode_written q
      ∙ ap (λ m. cond (eq_by_cmp key_order q key) m (finite.contains_key (keys_in old) q)) (ap not same ∙ sym (mode_at key old))
      ∙ cond_same (finite.contains_key (keys_in old)) q key (eq_by_cmp key_order q key) refl)

  -- a bucket that is made persistent is among the persistent keys
  pub mode_made : is_best_effort bucket.mode ≡ false → keys_in new ≡ finite.insert (keys_in old) key tt
  mode_made persistent = same_keys _ _ (λ q.
      mode_written q
      ∙ ap (λ m. cond (eq_by_cmp key_order q key) (not m) (finite.contains_key (keys_in old) q)) persistent
      ∙ sym (ap is_some (get-insert key_order_total (keys_in old) key tt q)
      ∙ some (eq_by_cmp key_order q key) (finite.get (keys_in old) q)))
    where
      some : (c : Bool) (x : Option (Unit {0})) → is_some (cond c (Some tt) x) ≡ cond c true (is_some x)
      some true x = refl
      some false x = refl

  -- a bucket that keeps its pairs leaves the local areas
  pub areas_kept : bucket.area ≡ (bucket_at key old).area → areas_in new ≡ areas_in old
  areas_kept same = cells.same_cells key_order key_order_total key_order_same _ _ (λ q.
      area_at q new
      ∙ ap (λ b. b.area) (has q)
      ∙ pick_bucket (λ b. b.area) (eq_by_cmp key_order q key) bucket (bucket_at q old)
      ∙ ap (λ r. cond (eq_by_cmp key_order q key) bucket.area r) (sym (area_at q old))
      ∙ ap (λ r. cond (eq_by_cmp key_order q key) r (get_cell key_order (areas_in old) q)) (same ∙ sym (area_at key old))
      ∙ cond_same (get_cell key_order (areas_in old)) q key (eq_by_cmp key_order q key) refl)

-- a bucket that may not be there, as one that may be fresh
bucket_cond : (b : Bool) (x : Bucket) (y : Option Bucket)
    → unwrap_or (cond b (Some x) y) fresh_bucket ≡ cond b x (unwrap_or y fresh_bucket)
bucket_cond true x y = refl
bucket_cond false x y = refl

none_cond : (b : Bool) (y : Option Bucket) → unwrap_or (cond b None y) fresh_bucket
    ≡ cond b fresh_bucket (unwrap_or y fresh_bucket)
none_cond true y = refl
none_cond false y = refl

fresh_parts : (bucket : Bucket) → is_fresh bucket ≡ true → (is_best_effort bucket.mode ≡ true) × (bucket.area ≡ [])
fresh_parts bucket is = at (is_best_effort bucket.mode) bucket.area is
  where
    at : (b : Bool) (pairs : List Pair) → (b && (length pairs == 0)) ≡ true → (b ≡ true) × (pairs ≡ [])
    at true [] is = (refl, refl)
    at true (x ∷ xs) is = grind (arith, nat_tests)
    at false pairs is = cc

module _ (cmp : StorageKey → StorageKey → Ordering)
    (alike : (a b : StorageKey) → cmp a b ≡ key_order (plain_key a) (plain_key b)) where
  -- the bucket of a key is that of its plain key
  pub bucket_found : (key : StorageKey) (shed : List (StorageKey × Bucket))
      → bucket_at_key cmp key shed ≡ bucket_at (plain_key key) shed
  bucket_found key shed = ap (λ o. unwrap_or o fresh_bucket) (found-key plain_key key_order key_order_total cmp alike key shed)

  pub bucket_put : (key : StorageKey) (bucket : Bucket) (shed : List (StorageKey × Bucket))
      → HasBucket (plain_key key) bucket shed (map_put cmp key bucket shed)
  bucket_put key bucket shed = λ q.
      ap (λ o. unwrap_or o fresh_bucket) (found-put plain_key key_order key_order_total cmp alike q key bucket shed)
      ∙ bucket_cond (eq_by_cmp key_order q (plain_key key)) bucket (found q shed)

  pub bucket_set : (key : StorageKey) (bucket : Bucket) (shed : List (StorageKey × Bucket))
      → is_some (map_get cmp key shed) ≡ true
      → HasBucket (plain_key key) bucket shed (map_set cmp key bucket shed)
  bucket_set key bucket shed there = λ q.
      ap (λ o. unwrap_or o fresh_bucket) (found-set plain_key key_order key_order_total cmp alike q key bucket shed there)
      ∙ bucket_cond (eq_by_cmp key_order q (plain_key key)) bucket (found q shed)

  pub bucket_removed : (key : StorageKey) (shed : List (StorageKey × Bucket))
      → HasBucket (plain_key key) fresh_bucket shed (map_remove cmp key shed)
  bucket_removed key shed = λ q.
      ap (λ o. unwrap_or o fresh_bucket) (found-removed plain_key key_order key_order_total cmp alike q key shed)
      ∙ none_cond (eq_by_cmp key_order q (plain_key key)) (found q shed)

  missing : (b : Bool) (o : Option Bucket) → is_some o ≡ b → b ≡ false → unwrap_or o fresh_bucket ≡ fresh_bucket
  missing b None is none = refl
  missing b (Some x) is none = cc

  -- room for a key
  pub made_same : (key : StorageKey) (shed : List (StorageKey × Bucket))
      → (areas_in (made cmp key shed) ≡ areas_in shed) × (keys_in (made cmp key shed) ≡ keys_in shed)
  made_same key shed = at (is_some (map_get cmp key shed)) refl
    where
      at : (b : Bool) → is_some (map_get cmp key shed) ≡ b
          → (areas_in (cond b shed (map_put cmp key fresh_bucket shed)) ≡ areas_in shed)
          × (keys_in (cond b shed (map_put cmp key fresh_bucket shed)) ≡ keys_in shed)
      at true is = (refl, refl)
      at false is =
          let fresh : fresh_bucket ≡ bucket_at (plain_key key) shed =
          sym (missing false (map_get cmp key shed) is refl) ∙ bucket_found key shed in (
            areas_kept (plain_key key) fresh_bucket shed _ (bucket_put key fresh_bucket shed) (ap (λ b. b.area) fresh),
            modes_kept (plain_key key) fresh_bucket shed _ (bucket_put key fresh_bucket shed)
                (ap (λ b. is_best_effort b.mode) fresh),
          )

  has_fresh_bucket : (o : Option Bucket) → unwrap_or (option_map is_fresh o) false ≡ true
      → is_fresh (unwrap_or o fresh_bucket) ≡ true
  has_fresh_bucket None is = cc
  has_fresh_bucket (Some x) is = is

  -- a fresh bucket is dropped
  pub dropped_same : (key : StorageKey) (shed : List (StorageKey × Bucket))
      → (areas_in (without_fresh cmp key shed) ≡ areas_in shed) × (keys_in (without_fresh cmp key shed) ≡ keys_in shed)
  dropped_same key shed = at (has_fresh cmp key shed) refl
    where
      at : (b : Bool) → has_fresh cmp key shed ≡ b
          → (areas_in (cond b (map_remove cmp key shed) shed) ≡ areas_in shed)
          × (keys_in (cond b (map_remove cmp key shed) shed) ≡ keys_in shed)
      at true is =
          let parts = fresh_parts (bucket_at_key cmp key shed) (has_fresh_bucket (map_get cmp key shed) is) in (
            areas_kept (plain_key key) fresh_bucket shed _ (bucket_removed key shed)
                (sym (ap (λ b. b.area) (sym (bucket_found key shed)) ∙ parts.1)),
            modes_kept (plain_key key) fresh_bucket shed _ (bucket_removed key shed)
                (sym (ap (λ b. is_best_effort b.mode) (sym (bucket_found key shed)) ∙ parts.0)),
          )
      at false is = (refl, refl)

  -- the pairs that a key has are those of its plain key
  pub held_found : (key : StorageKey) (shed : List (StorageKey × Bucket))
      → pairs_at cmp key shed ≡ get_cell key_order (areas_in shed) (plain_key key)
  held_found key shed = ap (λ b. b.area) (bucket_found key shed) ∙ sym (area_at (plain_key key) shed)

  -- an area that was lent, and is written
  pub pairs_written : (key : StorageKey) (pairs : List Pair) (shed : List (StorageKey × Bucket))
      → is_some (map_get cmp key shed) ≡ true
      → (areas_in (with_pairs cmp key pairs shed) ≡ set_cell key_order (plain_key key) pairs (areas_in shed))
      × (keys_in (with_pairs cmp key pairs shed) ≡ keys_in shed)
  pairs_written key pairs shed there =
      let bucket : Bucket = record { mode = mode_at_key cmp key shed; area = pairs } in (
        area_written (plain_key key) bucket shed _ (bucket_set key bucket shed there),
        modes_kept (plain_key key) bucket shed _ (bucket_set key bucket shed there)
            (ap (λ b. is_best_effort b.mode) (bucket_found key shed)),
      )

  -- a bucket that is there is made persistent
  pub persisted_keys : (key : StorageKey) (shed : List (StorageKey × Bucket)) → is_some (map_get cmp key shed) ≡ true
      → (areas_in (persisted cmp key shed) ≡ areas_in shed)
      × (keys_in (persisted cmp key shed) ≡ finite.insert (keys_in shed) (plain_key key) tt)
  persisted_keys key shed there =
      let bucket : Bucket = persistent_bucket (bucket_at_key cmp key shed) in (
        areas_kept (plain_key key) bucket shed _ (bucket_set key bucket shed there) (ap (λ b. b.area) (bucket_found key shed)),
        mode_made (plain_key key) bucket shed _ (bucket_set key bucket shed there) refl,
      )

  -- the mode that a key has says whether its plain key is persistent
  pub mode_found : (key : StorageKey) (shed : List (StorageKey × Bucket))
      → not (is_best_effort (mode_at_key cmp key shed)) ≡ finite.contains_key (keys_in shed) (plain_key key)
  mode_found key shed = ap (λ b. not (is_best_effort b.mode)) (bucket_found key shed) ∙ sym (mode_at (plain_key key) shed)

  -- a key without a bucket has no pairs, and is not persistent
  pub no_area : (key : StorageKey) (shed : List (StorageKey × Bucket)) → is_some (map_get cmp key shed) ≡ false
      → (get_cell key_order (areas_in shed) (plain_key key) ≡ []) × (finite.contains_key (keys_in shed) (plain_key key) ≡ false)
  no_area key shed is =
      let fresh : bucket_at_key cmp key shed ≡ fresh_bucket = missing false (map_get cmp key shed) is refl in (
        sym (held_found key shed) ∙ ap (λ b. b.area) fresh,
        sym (mode_found key shed) ∙ ap (λ b. not (is_best_effort b.mode)) fresh,
      )

  -- a key has a bucket once there is room for a key of the same plain key
  pub made_there : (key own : StorageKey) (shed : List (StorageKey × Bucket)) → plain_key own ≡ plain_key key
      → is_some (map_get cmp key (made cmp own shed)) ≡ true
  made_there key own shed same =
      ap is_some (found-key plain_key key_order key_order_total cmp alike key (made cmp own shed)
      ∙ ap (λ q. found q (made cmp own shed)) (sym same)) ∙ at (is_some (map_get cmp own shed)) refl
    where
      at : (b : Bool) → is_some (map_get cmp own shed) ≡ b
          → is_some (found (plain_key own) (cond b shed (map_put cmp own fresh_bucket shed))) ≡ true
      at true is = ap is_some (sym (found-key plain_key key_order key_order_total cmp alike own shed)) ∙ is
      at false is =
          ap is_some (found-put plain_key key_order key_order_total cmp alike (plain_key own) own fresh_bucket shed)
          ∙ ap (λ b. is_some (cond b (Some fresh_bucket) (found (plain_key own) shed))) (ties (plain_key own))

-- what holds at Ok and at Err holds
pub either_way : {T E P : Type 0} (r : Result T E) → OnOk r P → OnErr r P → P
either_way (Ok v) p e = p
either_way (Err x) p e = e
