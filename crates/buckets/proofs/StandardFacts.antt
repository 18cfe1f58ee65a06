-- Values worked out by hand from the standard's steps and from this repository's own choices.
use Rattle.std.proofs.Common.{◌≡◌, ℕ, refl, List, [], ◌∷◌, Some, None}
use Rattle.std.specs.Prelude.{codes}
use Rattle.std.specs.Ordering.{nat_cmp}
use Rattle.local_area.specs.Area.{Pair}
use Rattle.buckets.specs.declared.shed.Bucket.{Bucket}
use Rattle.buckets.specs.declared.shed.Mode.TheVariants.{BestEffort, Persistent}
use Rattle.std.specs.Prelude.{true, false}
use Rattle.std.specs.Prelude.{nat_lt}
use Rattle.key_map.specs.Retain.{all_pass, retain_entries}
use Rattle.buckets.specs.Shed.{area_at, pairs_at, mode_at, made, persisted, has_best_effort, with_pairs, without_fresh, evicted, count_evicted, fresh_bucket, bucket_stays}

abbrev one : List Pair
one = record { name = codes "k"; value = codes "v" } ∷ []

abbrev kept : Bucket
kept = record { mode = Persistent; area = one }

abbrev held : Bucket
held = record { mode = BestEffort; area = one }

-- 3 is best-effort with a pair, 5 is persistent with a pair, 7 is best-effort without
abbrev three : List (ℕ × Bucket)
three = (3, held) ∷ (5, kept) ∷ (7, fresh_bucket) ∷ []

area_of_bucket : area_at nat_cmp 7 three ≡ Some []
area_of_bucket = refl

area_of_none : area_at nat_cmp 4 three ≡ None
area_of_none = refl

pairs_of_none : pairs_at nat_cmp 4 three ≡ []
pairs_of_none = refl

mode_of_bucket : mode_at nat_cmp 5 three ≡ Persistent
mode_of_bucket = refl

mode_of_none : mode_at nat_cmp 4 three ≡ BestEffort
mode_of_none = refl

made_is_fresh : made nat_cmp 4 ((5, kept) ∷ []) ≡ (4, fresh_bucket) ∷ (5, kept) ∷ []
made_is_fresh = refl

made_stays : made nat_cmp 5 three ≡ three
made_stays = refl

persisted_keeps_pairs : persisted nat_cmp 3 three ≡ (3, kept) ∷ (5, kept) ∷ (7, fresh_bucket) ∷ []
persisted_keeps_pairs = refl

persisted_makes_none : persisted nat_cmp 4 three ≡ three
persisted_makes_none = refl

changed_by_persist : has_best_effort nat_cmp 3 three ≡ true
changed_by_persist = refl

persistent_before : has_best_effort nat_cmp 5 three ≡ false
persistent_before = refl

pairs_in_place : with_pairs nat_cmp 5 [] three ≡ (3, held) ∷ (5, record { mode = Persistent; area = [] }) ∷ (7, fresh_bucket) ∷ []
pairs_in_place = refl

fresh_goes : without_fresh nat_cmp 7 three ≡ (3, held) ∷ (5, kept) ∷ []
fresh_goes = refl

pairs_stay : without_fresh nat_cmp 3 three ≡ three
pairs_stay = refl

persistent_stays : evicted nat_cmp (3 ∷ 5 ∷ 9 ∷ []) three ≡ (5, kept) ∷ (7, fresh_bucket) ∷ []
persistent_stays = refl

named_twice_counts_once : count_evicted nat_cmp (3 ∷ 5 ∷ 7 ∷ 3 ∷ []) three ≡ 1
named_twice_counts_once = refl

unnamed_stays : evicted nat_cmp (7 ∷ []) three ≡ (3, held) ∷ (5, kept) ∷ []
unnamed_stays = refl

-- a fresh bucket stays, whatever its key
retained_by_key : retain_entries (bucket_stays (λ key. nat_lt key 5)) three ≡ (3, held) ∷ (7, fresh_bucket) ∷ []
retained_by_key = refl

persistent_goes : all_pass (bucket_stays (λ key. nat_lt key 5)) three ≡ false
persistent_goes = refl

fresh_is_none : all_pass (bucket_stays (λ key. nat_lt key 7)) three ≡ true
fresh_is_none = refl
