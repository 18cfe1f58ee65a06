-- One step of an eviction.
use Rattle.std.specs.Prelude.{ℕ, ◌&&◌, not, List, count_by, filter}
use Rattle.std.specs.Ordering.{is_eq}
use Rattle.std.specs.declared.cmp.Ordering.{Ordering}
use Rattle.buckets.specs.declared.shed.Bucket.{Bucket}
use Rattle.buckets.specs.Shed.{is_best_effort, loses_pairs}

module _ {K : Type 0} (cmp : K → K → Ordering) where
  -- the shed without one key's bucket, where that is best-effort
  abbrev pub evicted_one : K → List (K × Bucket) → List (K × Bucket)
  evicted_one key shed = filter (λ e. not (is_eq (cmp key e.0) && is_best_effort e.1.mode)) shed

  -- how many buckets of the key lose pairs by it
  abbrev pub count_evicted_one : K → List (K × Bucket) → ℕ
  count_evicted_one key shed = count_by (λ e. is_eq (cmp key e.0) && loses_pairs e.1) shed
