-- What a shed holds by plain keys, and how each call changes it.
use Rattle.std.proofs.Common.{◌≡◌, Bool, true, false, cond, not, List, [], ◌∷◌, Option, Some, None, refl, sym, ap, ◌∙◌}
use Rattle.std.specs.Prelude.{unwrap_or, is_some}
use Rattle.std.specs.Ordering.{eq_by_cmp}
use Rattle.std.specs.FinMap as finite
use Rattle.std.specs.FinMap.{get-empty, get-insert, get-remove}
use Rattle.unwinding.specs.FiniteCells.{get_cell, list_of}
use Rattle.unwinding.proofs.FiniteCellsLemmas as cells
use Rattle.storage_key.specs.Key.{PlainKey, key_order}
use Rattle.storage_key.specs.Plain.{plain_key}
use Rattle.storage_key.specs.declared.key.StorageKey.{StorageKey}
use Rattle.storage_key.proofs.OrderLemmas.{key_order_total, key_order_same}
use Rattle.key_map.proofs.PlainKeyLemmas as plain
use Rattle.buckets.specs.declared.shed.Bucket.{Bucket}
use Rattle.buckets.specs.Shed.{is_best_effort, fresh_bucket}
use Rattle.web_storage.specs.Stored.{areas_in, keys_in}

-- the value that a plain key has
abbrev pub found : {V : Type 0} → PlainKey → List (StorageKey × V) → Option V
found key es = plain.found plain_key key_order key es

-- ---- buckets

-- the bucket of a plain key, which is empty and best-effort where there is none
abbrev pub bucket_at : PlainKey → List (StorageKey × Bucket) → Bucket
bucket_at key shed = unwrap_or (found key shed) fresh_bucket

area_cond : (b : Bool) (x : Bucket) (y : Option Bucket)
    → (unwrap_or (cond b (Some x) y) fresh_bucket).area ≡ cond b x.area (unwrap_or y fresh_bucket).area
area_cond true x y = refl
area_cond false x y = refl

-- the local area of a plain key
pub area_at : (key : PlainKey) (shed : List (StorageKey × Bucket))
    → get_cell key_order (areas_in shed) key ≡ (bucket_at key shed).area
unfolding get_cell
area_at key [] = ap list_of (get-empty key_order key)
area_at key (e ∷ es) =
    cells.get_set key_order key_order_total key_order_same key (plain_key e.0) e.1.area (areas_in es)
    ∙ ap (λ r. cond (eq_by_cmp key_order key (plain_key e.0)) e.1.area r) (area_at key es)
    ∙ sym (area_cond (eq_by_cmp key_order key (plain_key e.0)) e.1 (found key es))

mode_cond : (b : Bool) (x : Bucket) (y : Option Bucket)
    → not (is_best_effort (unwrap_or (cond b (Some x) y) fresh_bucket).mode)
    ≡ cond b (not (is_best_effort x.mode)) (not (is_best_effort (unwrap_or y fresh_bucket).mode))
mode_cond true x y = refl
mode_cond false x y = refl

-- whether a plain key is among those kept, after the bucket of another was looked at
kept_after : (key : PlainKey) (e : StorageKey × Bucket) (keys : finite.FinMap key_order (Unit {0})) (b : Bool)
    → is_best_effort e.1.mode ≡ b
    → finite.contains_key (cond b (finite.remove keys (plain_key e.0)) (finite.insert keys (plain_key e.0) tt)) key
    ≡ cond (eq_by_cmp key_order key (plain_key e.0)) (not b) (finite.contains_key keys key)
kept_after key e keys true is = ap is_some (get-remove key_order_total keys (plain_key e.0) key)
    ∙ none (eq_by_cmp key_order key (plain_key e.0)) (finite.get keys key)
  where
    none : (c : Bool) (x : Option (Unit {0})) → is_some (cond c None x) ≡ cond c false (is_some x)
    none true x = refl
    none false x = refl
kept_after key e keys false is = ap is_some (get-insert key_order_total keys (plain_key e.0) tt key)
    ∙ some (eq_by_cmp key_order key (plain_key e.0)) (finite.get keys key)
  where
    some : (c : Bool) (x : Option (Unit {0})) → is_some (cond c (Some tt) x) ≡ cond c true (is_some x)
    some true x = refl
    some false x = refl

-- whether the bucket of a plain key is persistent
pub mode_at : (key : PlainKey) (shed : List (StorageKey × Bucket))
    → finite.contains_key (keys_in shed) key ≡ not (is_best_effort (bucket_at key shed).mode)
mode_at key [] = ap is_some (get-empty key_order key)
mode_at key (e ∷ es) =
    kept_after key e (keys_in es) (is_best_effort e.1.mode) refl
    ∙ ap (λ r. cond (eq_by_cmp key_order key (plain_key e.0)) (not (is_best_effort e.1.mode)) r) (mode_at key es)
    ∙ sym (mode_cond (eq_by_cmp key_order key (plain_key e.0)) e.1 (found key es))
