-- What a shed holds of what it held, where the buckets stay whose keys pass a test.
use Rattle.std.proofs.Common.{◌≡◌, Bool, true, false, cond, not, List, [], ◌∷◌, Option, Some, None, refl, sym, ap, ◌∙◌}
use Rattle.std.specs.Prelude.{◌&&◌, ◌||◌, is_some, unwrap_or}
use Rattle.std.specs.FinMap as finite
use Rattle.std.specs.List.{list_all}
use Rattle.std.specs.List.Sorted.{IsStrictlySortedBy}
use Rattle.std.specs.Map.{keys_of}
use Rattle.std.proofs.lemmas.Bool.{and_parts, or_left, or_right, true≢false}
use Rattle.std.proofs.lemmas.Map.Entries.{option_filter}
use Rattle.unwinding.specs.FiniteCells.{Full, get_cell, list_of, restrict_cells}
use Rattle.unwinding.proofs.FiniteCellsLemmas as cells
use Rattle.storage_key.specs.Key.{PlainKey, key_order}
use Rattle.storage_key.specs.Plain.{plain_key}
use Rattle.storage_key.specs.declared.key.StorageKey.{StorageKey}
use Rattle.storage_key.proofs.OrderLemmas.{key_order_total, key_order_same}
use Rattle.local_area.specs.Area.{Pair}
use Rattle.key_map.specs.Retain.{all_pass, retain_entries}
use Rattle.key_map.proofs.PlainKeyLemmas as plain
use Rattle.key_map.proofs.RetainLemmas.{all_had, both_ways, each_had, some_length}
use Rattle.buckets.specs.declared.shed.Bucket.{Bucket}
use Rattle.buckets.specs.declared.shed.Mode.{Mode}
use Rattle.buckets.specs.declared.shed.Mode.TheVariants.{BestEffort, Persistent}
use Rattle.buckets.specs.Shed.{bucket_stays, fresh_bucket, is_best_effort, is_fresh}
use Rattle.web_storage.specs.Evicting.{key_cmp}
use Rattle.web_storage.specs.Stored.{areas_in, keys_in}
use Rattle.web_storage.proofs.OrderOfKeys.{alike, order}
use Rattle.web_storage.proofs.ShedLemmas.{area_at, bucket_at, found, mode_at}
use Rattle.web_storage.proofs.WriteLemmas.{same_keys}

-- ---- fresh buckets

fresh_is : (mode : Mode) (area : List Pair) → is_fresh (record { mode = mode; area = area }) ≡ true
    → ◌≡◌ {A = Bucket} (record { mode = mode; area = area }) fresh_bucket
fresh_is BestEffort [] is = refl
fresh_is BestEffort (p ∷ ps) is = absurd (true≢false (sym is ∙ some_length p ps))
fresh_is Persistent area is = cc

-- a bucket that has pairs or is persistent is not fresh
some_pairs : (mode : Mode) (area : List Pair) → (area ≡ [] → ⊥) → is_fresh (record { mode = mode; area = area }) ≡ false
some_pairs BestEffort [] some = absurd (some refl)
some_pairs BestEffort (p ∷ ps) some = some_length p ps
some_pairs Persistent area some = refl

kept_mode : (mode : Mode) (area : List Pair) → not (is_best_effort mode) ≡ true → is_fresh (record { mode = mode; area = area }) ≡ false
kept_mode BestEffort area is = cc
kept_mode Persistent area is = refl

-- one that is not fresh has pairs or is persistent
data Holding (bucket : Bucket) : Type 0 where
  HasPairs : (bucket.area ≡ [] → ⊥) → Holding bucket
  IsKept : not (is_best_effort bucket.mode) ≡ true → Holding bucket

no_pairs : (p : Pair) (ps : List Pair) → ◌≡◌ {A = List Pair} (p ∷ ps) [] → ⊥
no_pairs p ps is = cc

holding : (mode : Mode) (area : List Pair) → is_fresh (record { mode = mode; area = area }) ≡ false → Holding (record { mode = mode; area = area })
holding BestEffort [] is = cc
holding BestEffort (p ∷ ps) is = HasPairs (no_pairs p ps)
holding Persistent area is = IsKept refl

module _ (stays : PlainKey → Bool) where
  -- a bucket stays where its key does, or where it is fresh
  abbrev pub test : StorageKey → Bucket → Bool
  test = bucket_stays (λ key. stays (plain_key key))

  abbrev plain_test : PlainKey → Bucket → Bool
  plain_test = bucket_stays stays

  abbrev pub left : List (StorageKey × Bucket) → List (StorageKey × Bucket)
  left shed = retain_entries test shed

  fresh_either : (s : Bool) (bucket : Bucket) → bucket ≡ fresh_bucket → bucket ≡ cond s bucket fresh_bucket
  fresh_either true bucket is = refl
  fresh_either false bucket is = is

  passed : (s : Bool) (o : Option Bucket) (q : PlainKey) → stays q ≡ s
      → unwrap_or (option_filter (plain_test q) o) fresh_bucket ≡ cond s (unwrap_or o fresh_bucket) fresh_bucket
  passed true None q is = refl
  passed false None q is = refl
  passed s (Some bucket) q is = at (is_fresh bucket) refl
    where
      at : (f : Bool) → is_fresh bucket ≡ f → unwrap_or (cond (is_fresh bucket || stays q) (Some bucket) None) fresh_bucket ≡ cond s bucket fresh_bucket
      at true fresh =
          ap (λ b. unwrap_or (cond (b || stays q) (Some bucket) None) fresh_bucket) fresh ∙ fresh_either s bucket (fresh_is bucket.mode bucket.area fresh)
      at false some =
          (λ i. unwrap_or (cond (some i || is i) (Some bucket) None) fresh_bucket) ∙ by s
        where
          by : (s : Bool) → unwrap_or (cond s (Some bucket) None) fresh_bucket ≡ cond s bucket fresh_bucket
          by true = refl
          by false = refl

  module _ (shed : List (StorageKey × Bucket)) (sorted : IsStrictlySortedBy key_cmp (keys_of shed)) where
    -- the bucket of a plain key afterwards
    bucket_left : (q : PlainKey) → bucket_at q (left shed) ≡ cond (stays q) (bucket_at q shed) fresh_bucket
    bucket_left q =
        ap (λ o. unwrap_or o fresh_bucket)
        (plain.found-retained plain_key key_order key_order_total order alike key_order_same test plain_test (λ k v. refl) q shed sorted)
        ∙ passed (stays q) (found q shed) q refl

    pick_area : (s : Bool) (x : Bucket) → (cond s x fresh_bucket).area ≡ cond s x.area []
    pick_area true x = refl
    pick_area false x = refl

    pub areas_left : areas_in (left shed) ≡ finite.retain_keys (areas_in shed) stays
    unfolding restrict_cells
    areas_left = cells.same_cells key_order key_order_total key_order_same _ _ (λ q.
        area_at q (left shed)
        ∙ ap (λ b. b.area) (bucket_left q)
        ∙ pick_area (stays q) (bucket_at q shed)
        ∙ ap (λ pairs. cond (stays q) pairs []) (sym (area_at q shed))
        ∙ sym (cells.get_restrict key_order key_order_total key_order_same stays (areas_in shed) q))

    pick_mode : (s : Bool) (x : Bucket) → not (is_best_effort (cond s x fresh_bucket).mode) ≡ cond s (not (is_best_effort x.mode)) false
    pick_mode true x = refl
    pick_mode false x = refl

    some_kept : (s : Bool) (o : Option (Unit {0})) → is_some (cond s o None) ≡ cond s (is_some o) false
    some_kept true o = refl
    some_kept false o = refl

    pub modes_left : keys_in (left shed) ≡ finite.retain_keys (keys_in shed) stays
    modes_left = same_keys _ _ (λ q.
        mode_at q (left shed)
        ∙ ap (λ b. not (is_best_effort b.mode)) (bucket_left q)
        ∙ pick_mode (stays q) (bucket_at q shed)
        ∙ ap (λ b. cond (stays q) b false) (sym (mode_at q shed))
        ∙ sym (some_kept (stays q) (finite.get (keys_in shed) q))
        ∙ sym (ap is_some (cells.get_kept key_order key_order_same stays (keys_in shed) q)))

    -- ---- which keys there are

    pairs_had : (m : Option (Full Pair)) → is_some m ≡ true → list_of m ≡ [] → ⊥
    pairs_had None had none = cc
    pairs_had (Some pairs) had none = cc

    had_pairs : (m : Option (Full Pair)) → (list_of m ≡ [] → ⊥) → is_some m ≡ true
    had_pairs None some = absurd (some refl)
    had_pairs (Some pairs) some = refl

    -- where all entries pass, a key stays whose bucket is not fresh
    stays_by : all_pass test shed ≡ true → (q : PlainKey) (o : Option Bucket) → found q shed ≡ o → is_fresh (unwrap_or o fresh_bucket) ≡ false → stays q ≡ true
    stays_by all q None is some = cc
    stays_by all q (Some bucket) is some =
        ap (λ f. f || stays q) (sym some)
        ∙ plain.passes_at plain_key key_order key_order_total order alike key_order_same test plain_test (λ k v. refl) shed all q bucket is

    area_had : (q : PlainKey) → finite.contains_key (areas_in shed) q ≡ true → is_fresh (bucket_at q shed) ≡ false
    unfolding get_cell
    area_had q had = some_pairs (bucket_at q shed).mode (bucket_at q shed).area (λ none. pairs_had (finite.get (areas_in shed) q) had (area_at q shed ∙ none))

    mode_had : (q : PlainKey) → finite.contains_key (keys_in shed) q ≡ true → is_fresh (bucket_at q shed) ≡ false
    mode_had q had = kept_mode (bucket_at q shed).mode (bucket_at q shed).area (sym (mode_at q shed) ∙ had)

    -- where each key stays that has an area, or a persistent bucket, an entry passes
    passes_by : list_all stays (finite.keys (areas_in shed)) ≡ true → list_all stays (finite.keys (keys_in shed)) ≡ true
        → (q : PlainKey) (bucket : Bucket) → found q shed ≡ Some bucket → plain_test q bucket ≡ true
    unfolding get_cell
    passes_by areas modes q bucket is = at (is_fresh bucket) refl
      where
        here : bucket_at q shed ≡ bucket
        here = ap (λ o. unwrap_or o fresh_bucket) is

        by : Holding bucket → stays q ≡ true
        by (HasPairs some) =
            each_had key_order key_order_total key_order_same stays (areas_in shed) areas q
            (had_pairs (finite.get (areas_in shed) q) (λ none. some (sym (ap (λ b. b.area) here) ∙ sym (area_at q shed) ∙ none)))
        by (IsKept kept) =
            each_had key_order key_order_total key_order_same stays (keys_in shed) modes q
            (mode_at q shed ∙ ap (λ b. not (is_best_effort b.mode)) here ∙ kept)

        at : (f : Bool) → is_fresh bucket ≡ f → (is_fresh bucket || stays q) ≡ true
        at true fresh = or_left (is_fresh bucket) _ fresh
        at false some = or_right (is_fresh bucket) _ (by (holding bucket.mode bucket.area some))

    -- all entries pass where each key that has an area, or a persistent bucket, stays, and only there
    pub all_stay_by : all_pass test shed ≡ (list_all stays (finite.keys (areas_in shed)) && list_all stays (finite.keys (keys_in shed)))
    all_stay_by = both_ways _ _
        (λ all i.
        all_had key_order key_order_total key_order_same stays (areas_in shed) (λ q had. stays_by all q (found q shed) refl (area_had q had)) i
        && all_had key_order key_order_total key_order_same stays (keys_in shed) (λ q had. stays_by all q (found q shed) refl (mode_had q had)) i)
        (λ all.
        let parts = and_parts _ _ all in
        plain.all_found plain_key key_order key_order_total order alike key_order_same test plain_test (λ k v. refl) shed sorted (passes_by parts.0 parts.1))
