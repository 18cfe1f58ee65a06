-- Evictions: one key after another, and the counts of what was lost.
use Rattle.std.proofs.Common.{◌≡◌, ℕ, ◌+◌, Bool, true, false, cond, List, [], ◌∷◌, ◌++◌, Some, None, refl, ap, ◌∙◌, sym, arith}
use Rattle.std.specs.Prelude.{◌&&◌, ◌||◌, not, length, ◌==◌, unwrap_or}
use Rattle.std.specs.List.{AllByRecursion}
use Rattle.std.specs.List.Sorted.{IsStrictlySortedBy}
use Rattle.std.specs.Cmp.{IsTotalOrder}
use Rattle.std.specs.Map.{keys_of}
use Rattle.std.specs.Ordering.{is_eq}
use Rattle.std.specs.declared.cmp.Ordering.{Ordering}
use Rattle.std.specs.declared.cmp.Ordering.TheVariants.{Less}
use Rattle.std.proofs.Math.Bool.{or-false}
use Rattle.std.proofs.lemmas.List.Folds.{list_any-append}
use Rattle.std.proofs.lemmas.List.Sums.{sum_by-cons}
use Rattle.key_map.specs.Entries.{map_get, map_remove, is_among}
use Rattle.key_map.proofs.EntriesLemmas.{apart-behind, map_remove-apart}
use Rattle.buckets.specs.declared.shed.Bucket.{Bucket}
use Rattle.buckets.specs.Shed.{is_best_effort, loses_pairs, fresh_bucket, bucket_at, evicted, count_evicted}
use Rattle.buckets.specs.Evicting.{evicted_one, count_evicted_one}

-- 1 for true, 0 for false
abbrev pub as_number : Bool → ℕ
as_number b = cond b 1 0

module _ {K : Type 0} (cmp : K → K → Ordering) where
  pub none-evicted : (key : K) (shed : List (K × Bucket)) → AllByRecursion (λ k. is_eq (cmp key k) ≡ false) (keys_of shed) → evicted_one cmp key shed ≡ shed
  none-evicted key [] none = refl
  none-evicted key (e ∷ es) none = rw none.0 (ap (λ r. e ∷ r) (none-evicted key es none.1))

  pub none-counted : (key : K) (shed : List (K × Bucket)) → AllByRecursion (λ k. is_eq (cmp key k) ≡ false) (keys_of shed) → count_evicted_one cmp key shed ≡ 0
  none-counted key [] none = refl
  none-counted key (e ∷ es) none =
      sum_by-cons (λ (d : K × Bucket). as_number (is_eq (cmp key d.0) && loses_pairs d.1)) e es
      ∙ (rw none.0 (omega (arith, none-counted key es none.1)))

  missing_step : (key : K) (e : K × Bucket) (es : List (K × Bucket)) (b : Bool) → cond b (Some e.1) (map_get cmp key es) ≡ None
      → (b ≡ false) × (map_get cmp key es ≡ None)
  missing_step key e es true missing = absurd (cc missing)
  missing_step key e es false missing = (refl, missing)

  -- a key without a bucket has no entry
  pub apart-missing : (key : K) (shed : List (K × Bucket)) → map_get cmp key shed ≡ None
      → AllByRecursion (λ k. is_eq (cmp key k) ≡ false) (keys_of shed)
  apart-missing key [] missing = tt
  apart-missing key (e ∷ es) missing =
      let none = missing_step key e es (is_eq (cmp key e.0)) missing in
      (none.0, apart-missing key es none.1)

  removed_step : IsTotalOrder cmp → (key : K) (e : K × Bucket) (es : List (K × Bucket)) (b : Bool) → is_eq (cmp key e.0) ≡ b
      → AllByRecursion (λ k. cmp e.0 k ≡ Less) (keys_of es)
      → (is_best_effort (bucket_at cmp key es).mode ≡ true → map_remove cmp key es ≡ evicted_one cmp key es)
      → is_best_effort (unwrap_or (cond b (Some e.1) (map_get cmp key es)) fresh_bucket).mode ≡ true
      → cond (not b) (e ∷ map_remove cmp key es) (map_remove cmp key es) ≡ cond (not (b && is_best_effort e.1.mode)) (e ∷ evicted_one cmp key es) (evicted_one cmp key es)
  removed_step order key e es true same below rest best =
      let none : AllByRecursion (λ k. is_eq (cmp key k) ≡ false) (keys_of es) = apart-behind cmp order key e.0 (keys_of es) same below in
      rw best (map_remove-apart cmp order key es none ∙ sym (none-evicted key es none))
  removed_step order key e es false same below rest best = ap (λ r. e ∷ r) (rest best)

  -- a best-effort bucket that is taken out is evicted
  pub removed-evicted : IsTotalOrder cmp → (key : K) (shed : List (K × Bucket)) → IsStrictlySortedBy cmp (keys_of shed)
      → is_best_effort (bucket_at cmp key shed).mode ≡ true → map_remove cmp key shed ≡ evicted_one cmp key shed
  unfolding IsStrictlySortedBy
  removed-evicted order key [] sorted best = refl
  removed-evicted order key (e ∷ es) sorted best =
      removed_step order key e es (is_eq (cmp key e.0)) refl sorted.0 (removed-evicted order key es sorted.1) best

  kept_step : IsTotalOrder cmp → (key : K) (e : K × Bucket) (es : List (K × Bucket)) (b : Bool) → is_eq (cmp key e.0) ≡ b
      → AllByRecursion (λ k. cmp e.0 k ≡ Less) (keys_of es)
      → (is_best_effort (bucket_at cmp key es).mode ≡ false → evicted_one cmp key es ≡ es)
      → is_best_effort (unwrap_or (cond b (Some e.1) (map_get cmp key es)) fresh_bucket).mode ≡ false
      → cond (not (b && is_best_effort e.1.mode)) (e ∷ evicted_one cmp key es) (evicted_one cmp key es) ≡ e ∷ es
  kept_step order key e es true same below rest best = rw best (ap (λ r. e ∷ r) (none-evicted key es (apart-behind cmp order key e.0 (keys_of es) same below)))
  kept_step order key e es false same below rest best = ap (λ r. e ∷ r) (rest best)

  -- a persistent bucket stays
  pub persistent-kept : IsTotalOrder cmp → (key : K) (shed : List (K × Bucket)) → IsStrictlySortedBy cmp (keys_of shed)
      → is_best_effort (bucket_at cmp key shed).mode ≡ false → evicted_one cmp key shed ≡ shed
  unfolding IsStrictlySortedBy
  persistent-kept order key [] sorted best = refl
  persistent-kept order key (e ∷ es) sorted best =
      kept_step order key e es (is_eq (cmp key e.0)) refl sorted.0 (persistent-kept order key es sorted.1) best

  counted_step : IsTotalOrder cmp → (key : K) (bucket : Bucket) (e : K × Bucket) (es : List (K × Bucket)) (b : Bool) → is_eq (cmp key e.0) ≡ b
      → AllByRecursion (λ k. cmp e.0 k ≡ Less) (keys_of es)
      → (map_get cmp key es ≡ Some bucket → count_evicted_one cmp key es ≡ as_number (loses_pairs bucket))
      → cond b (Some e.1) (map_get cmp key es) ≡ Some bucket
      → as_number (b && loses_pairs e.1) + count_evicted_one cmp key es ≡ as_number (loses_pairs bucket)
  counted_step order key bucket e es true same below rest found =
      let here : e.1 ≡ bucket = cc found in
      let none : count_evicted_one cmp key es ≡ 0 = none-counted key es (apart-behind cmp order key e.0 (keys_of es) same below) in
      rw (none, here) (omega arith)
  counted_step order key bucket e es false same below rest found = omega (arith, rest found)

  -- what the eviction of a key counts
  pub counted-found : IsTotalOrder cmp → (key : K) (bucket : Bucket) (shed : List (K × Bucket)) → IsStrictlySortedBy cmp (keys_of shed)
      → map_get cmp key shed ≡ Some bucket → count_evicted_one cmp key shed ≡ as_number (loses_pairs bucket)
  unfolding IsStrictlySortedBy
  counted-found order key bucket [] sorted found = absurd (cc found)
  counted-found order key bucket (e ∷ es) sorted found =
      sum_by-cons (λ (d : K × Bucket). as_number (is_eq (cmp key d.0) && loses_pairs d.1)) e es
      ∙ counted_step order key bucket e es (is_eq (cmp key e.0)) refl sorted.0 (counted-found order key bucket es sorted.1) found

  -- a persistent bucket loses nothing
  pub persistent-uncounted : IsTotalOrder cmp → (key : K) (bucket : Bucket) (shed : List (K × Bucket)) → IsStrictlySortedBy cmp (keys_of shed)
      → map_get cmp key shed ≡ Some bucket → is_best_effort bucket.mode ≡ false → count_evicted_one cmp key shed ≡ 0
  persistent-uncounted order key bucket shed sorted found best =
      counted-found order key bucket shed sorted found ∙ ap (λ b. as_number (b && not (length bucket.area == 0))) best

  -- a best-effort bucket loses its pairs
  pub best_effort-counted : IsTotalOrder cmp → (key : K) (bucket : Bucket) (shed : List (K × Bucket)) → IsStrictlySortedBy cmp (keys_of shed)
      → map_get cmp key shed ≡ Some bucket → is_best_effort bucket.mode ≡ true → count_evicted_one cmp key shed ≡ as_number (not (length bucket.area == 0))
  best_effort-counted order key bucket shed sorted found best =
      counted-found order key bucket shed sorted found ∙ ap (λ b. as_number (b && not (length bucket.area == 0))) best

  push_step : (k : K) (e : K × Bucket) (one two : List (K × Bucket)) (a q b : Bool) → is_eq (cmp k e.0) ≡ q → is_best_effort e.1.mode ≡ b
      → two ≡ evicted_one cmp k one
      → cond (not ((a || q) && b)) (e ∷ two) two ≡ evicted_one cmp k (cond (not (a && b)) (e ∷ one) one)
  push_step k e one two true q true is best later = later
  push_step k e one two true q false is best later = rw (is, best) (and_step q later)
    where
      and_step : (q : Bool) → two ≡ evicted_one cmp k one → e ∷ two ≡ cond (not (q && false)) (e ∷ evicted_one cmp k one) (evicted_one cmp k one)
      and_step true later = ap (λ r. e ∷ r) later
      and_step false later = ap (λ r. e ∷ r) later
  push_step k e one two false q b is best later = rw (is, best) (either (not (q && b)))
    where
      either : (c : Bool) → cond c (e ∷ two) two ≡ cond c (e ∷ evicted_one cmp k one) (evicted_one cmp k one)
      either true = ap (λ r. e ∷ r) later
      either false = later

  -- one key more
  pub evicted-push : (ks : List K) (k : K) (shed : List (K × Bucket)) → evicted cmp (ks ++ k ∷ []) shed ≡ evicted_one cmp k (evicted cmp ks shed)
  evicted-push ks k [] = refl
  evicted-push ks k (e ∷ es) =
      rw (list_any-append (λ q. is_eq (cmp q e.0)) ks (k ∷ []), or-false (is_eq (cmp k e.0)))
      (push_step k e (evicted cmp ks es) (evicted cmp (ks ++ k ∷ []) es) (is_among cmp ks e.0) (is_eq (cmp k e.0)) (is_best_effort e.1.mode) refl refl (evicted-push ks k es))

  count_step : (k : K) (e : K × Bucket) (one : List (K × Bucket)) (a q b l : Bool) → is_eq (cmp k e.0) ≡ q → is_best_effort e.1.mode ≡ b → not (length e.1.area == 0) ≡ l
      → as_number ((a || q) && (b && l)) + count_evicted_one cmp k one
      ≡ as_number (a && (b && l)) + count_evicted_one cmp k (cond (not (a && b)) (e ∷ one) one)
  count_step k e one true q true l is best some = refl
  count_step k e one true q false l is best some =
      let more : count_evicted_one cmp k (e ∷ one) ≡ as_number (q && (false && l)) + count_evicted_one cmp k one =
      sum_by-cons (λ (d : K × Bucket). as_number (is_eq (cmp k d.0) && loses_pairs d.1)) e one
      ∙ (λ i. as_number (is i && (best i && some i)) + count_evicted_one cmp k one) in
      let none = nothing q more in
      omega (arith, none)
    where
      nothing : (q : Bool) → count_evicted_one cmp k (e ∷ one) ≡ as_number (q && false) + count_evicted_one cmp k one
          → count_evicted_one cmp k one ≡ count_evicted_one cmp k (e ∷ one)
      nothing true more = omega (arith, more)
      nothing false more = omega (arith, more)
  count_step k e one false q b l is best some =
      let more : count_evicted_one cmp k (e ∷ one) ≡ as_number (q && (b && l)) + count_evicted_one cmp k one =
      sum_by-cons (λ (d : K × Bucket). as_number (is_eq (cmp k d.0) && loses_pairs d.1)) e one
      ∙ (λ i. as_number (is i && (best i && some i)) + count_evicted_one cmp k one) in
      omega (arith, more)

  pub counted-push : (ks : List K) (k : K) (shed : List (K × Bucket))
      → count_evicted cmp (ks ++ k ∷ []) shed ≡ count_evicted cmp ks shed + count_evicted_one cmp k (evicted cmp ks shed)
  counted-push ks k [] = omega arith
  counted-push ks k (e ∷ es) =
      let here : as_number (is_among cmp (ks ++ k ∷ []) e.0 && loses_pairs e.1) + count_evicted_one cmp k (evicted cmp ks es)
      ≡ as_number (is_among cmp ks e.0 && loses_pairs e.1) + count_evicted_one cmp k (evicted cmp ks (e ∷ es)) =
      rw (list_any-append (λ q. is_eq (cmp q e.0)) ks (k ∷ []), or-false (is_eq (cmp k e.0)))
      (count_step k e (evicted cmp ks es) (is_among cmp ks e.0) (is_eq (cmp k e.0)) (is_best_effort e.1.mode) (not (length e.1.area == 0)) refl refl refl) in
      omega (
        arith,
        here,
        counted-push ks k es,
        sum_by-cons (λ (d : K × Bucket). as_number (is_among cmp (ks ++ k ∷ []) d.0 && loses_pairs d.1)) e es,
        sum_by-cons (λ (d : K × Bucket). as_number (is_among cmp ks d.0 && loses_pairs d.1)) e es,
      )

  -- an eviction of no keys
  pub evicted-nil : (shed : List (K × Bucket)) → evicted cmp [] shed ≡ shed
  evicted-nil [] = refl
  evicted-nil (e ∷ es) = ap (λ r. e ∷ r) (evicted-nil es)

  pub counted-nil : (shed : List (K × Bucket)) → count_evicted cmp [] shed ≡ 0
  counted-nil [] = refl
  counted-nil (e ∷ es) =
      sum_by-cons (λ (d : K × Bucket). as_number (is_among cmp [] d.0 && loses_pairs d.1)) e es ∙ omega (arith, counted-nil es)
