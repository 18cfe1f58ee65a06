-- A shed: a map from storage keys to buckets, as the list of its entries in the order of the keys.
-- Source: Storage Standard, "Storage sheds, shelves, buckets and bottles": a bucket's mode.
-- Our own choice: a shelf has one bucket and that bucket one bottle, the local area, so that a
-- shed maps keys to a mode and an area. An eviction takes a best-effort bucket out, with its key.
use Rattle.std.specs.Prelude.{ℕ, Bool, true, false, not, ◌&&◌, ◌||◌, List, [], count_by, filter, length, ◌==◌, Option, option_map, is_some, unwrap_or, if◌then◌else◌}
use Rattle.std.specs.declared.cmp.Ordering.{Ordering}
use Rattle.local_area.specs.Area.{Pair}
use Rattle.key_map.specs.Entries.{map_get, map_put, map_remove, map_set, is_among}
use Rattle.buckets.specs.declared.shed.Bucket.{Bucket}
use Rattle.buckets.specs.declared.shed.Mode.{Mode}
use Rattle.buckets.specs.declared.shed.Mode.TheVariants.{BestEffort, Persistent}

-- what the bucket of a key begins as
abbrev pub fresh_bucket : Bucket
fresh_bucket = record { mode = BestEffort; area = [] }

-- whether a bucket may be taken when storage is short
abbrev pub is_best_effort : Mode → Bool
is_best_effort BestEffort = true
is_best_effort Persistent = false

-- whether a bucket is best-effort and has pairs, so that an eviction takes pairs away
abbrev pub loses_pairs : Bucket → Bool
loses_pairs bucket = is_best_effort bucket.mode && not (length bucket.area == 0)

-- whether a bucket is as a key's begins
abbrev pub is_fresh : Bucket → Bool
is_fresh bucket = is_best_effort bucket.mode && (length bucket.area == 0)

-- the bucket, persistent
abbrev pub persistent_bucket : Bucket → Bucket
persistent_bucket bucket = record bucket { mode = Persistent }

-- whether a bucket stays where those stay whose keys pass a test. One that is as a key's begins
-- stands for none, and stays.
abbrev pub bucket_stays : {K : Type 0} → (K → Bool) → K → Bucket → Bool
bucket_stays test key bucket = is_fresh bucket || test key

module _ {K : Type 0} (cmp : K → K → Ordering) where
  -- the bucket of a key, which is a fresh one where there is none
  abbrev pub bucket_at : K → List (K × Bucket) → Bucket
  bucket_at key shed = unwrap_or (map_get cmp key shed) fresh_bucket

  -- the area of a key, if there is a bucket
  abbrev pub area_at : K → List (K × Bucket) → Option (List Pair)
  area_at key shed = option_map (λ bucket. bucket.area) (map_get cmp key shed)

  -- the pairs of a key: those of its area, and none where there is no bucket
  abbrev pub pairs_at : K → List (K × Bucket) → List Pair
  pairs_at key shed = (bucket_at key shed).area

  -- the mode of a key's bucket, which is best-effort where there is none
  abbrev pub mode_at : K → List (K × Bucket) → Mode
  mode_at key shed = (bucket_at key shed).mode

  -- the shed with these pairs in the area of a key that has a bucket, whose mode stays
  abbrev pub with_pairs : K → List Pair → List (K × Bucket) → List (K × Bucket)
  with_pairs key pairs shed =
      map_set cmp key (record { mode = mode_at key shed; area = pairs }) shed

  -- the shed with a bucket at the key: its own, or a fresh one
  abbrev pub made : K → List (K × Bucket) → List (K × Bucket)
  made key shed = if is_some (map_get cmp key shed) then shed else map_put cmp key fresh_bucket shed

  -- the shed with the bucket of a key persistent, where it has one
  abbrev pub persisted : K → List (K × Bucket) → List (K × Bucket)
  persisted key shed = map_set cmp key (persistent_bucket (bucket_at key shed)) shed

  -- whether the key has a bucket that is best-effort
  abbrev pub has_best_effort : K → List (K × Bucket) → Bool
  has_best_effort key shed =
      unwrap_or (option_map (λ bucket. is_best_effort bucket.mode) (map_get cmp key shed)) false

  -- whether the key has a bucket that is as it began
  abbrev pub has_fresh : K → List (K × Bucket) → Bool
  has_fresh key shed = unwrap_or (option_map is_fresh (map_get cmp key shed)) false

  -- the shed without the bucket of a key, where that is as it began
  abbrev pub without_fresh : K → List (K × Bucket) → List (K × Bucket)
  without_fresh key shed = if has_fresh key shed then map_remove cmp key shed else shed

  -- the shed without the best-effort buckets of these keys
  abbrev pub evicted : List K → List (K × Bucket) → List (K × Bucket)
  evicted keys shed = filter (λ e. not (is_among cmp keys e.0 && is_best_effort e.1.mode)) shed

  -- how many buckets of these keys lose pairs by it
  abbrev pub count_evicted : List K → List (K × Bucket) → ℕ
  count_evicted keys shed = count_by (λ e. is_among cmp keys e.0 && loses_pairs e.1) shed
