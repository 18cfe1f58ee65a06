-- What is in place, range by range.
use Rattle.std.proofs.Common.{◌≡◌, ◌⊎◌, ⊎_elim, ℕ, ◌+◌, ◌≤◌, ◌<◌, max, List, [], ◌∷◌, ◌++◌, length, slice_index, arith, refl, sym, ◌∙◌, ap}
use Rattle.std.specs.Prelude.{nat_lt, if◌then◌else◌}
use Rattle.std.proofs.lemmas.Bool.Decides.{nat_tests}
use Rattle.std.proofs.lemmas.List.{get_or_past}
use Rattle.disk_model.specs.Disk.{Written}
use Rattle.disk_model.specs.ImageLaws.{outside_push, outside_front}
use Rattle.disk_model.specs.Recovery.{placed_end}
use Rattle.disk_model.specs.MediumBuffers.{IsPlaced}

pub place_cases : (i at n : ℕ) → ((i < at) ⊎ (at + n ≤ i)) ⊎ ((at ≤ i) × (i < at + n))
place_cases i at n = first_of (grind arith, omega arith)

placed_end-push : (len : ℕ) (ranges : List (ℕ × ℕ)) (at n : ℕ) → placed_end len (ranges ++ (at, n) ∷ []) ≡ max (if nat_lt 0 n then at + n else 0) (placed_end len ranges)
placed_end-push len [] at n = refl
placed_end-push len (r ∷ ranges) at n = let rest = placed_end-push len ranges at n in rw rest (max_swap _ _ _)
  where
    max_swap : (a b c : ℕ) → max a (max b c) ≡ max b (max a c)
    max_swap a b c = omega arith

pub placed_least : (len : ℕ) (ranges : List (ℕ × ℕ)) → len ≤ placed_end len ranges
placed_least len [] = omega arith
placed_least len (r ∷ ranges) = omega (arith, placed_least len ranges)

pub placed_shorter : (synced contents file : List ℕ) (ranges : List (ℕ × ℕ)) → IsPlaced synced contents ranges file → length synced ≤ length file
placed_shorter synced contents file ranges placed = omega (arith, placed.len, placed_least (length synced) ranges)

-- one range more is in place
pub placed_push : (synced contents mid new : List ℕ) (ranges : List (ℕ × ℕ)) (at n : ℕ) → IsPlaced synced contents ranges mid
    → length new ≡ max (if nat_lt 0 n then at + n else 0) (length mid)
    → ((i : ℕ) → at ≤ i → i < at + n → slice_index new i ≡ slice_index contents i) → ((i : ℕ) → (i < at) ⊎ (at + n ≤ i) → slice_index new i ≡ slice_index mid i)
    → IsPlaced synced contents (ranges ++ (at, n) ∷ []) new
placed_push synced contents mid new ranges at n placed size within beside = record {
  len = size ∙ ap (λ (k : ℕ). max (if nat_lt 0 n then at + n else 0) k) placed.len ∙ sym (placed_end-push (length synced) ranges at n);
  outside = λ i out. let parts = outside_front i ranges at n out in beside i parts.1 ∙ placed.outside i parts.0;
  inside = λ i not_out. ⊎_elim
      (λ (o : (i < at) ⊎ (at + n ≤ i)). beside i o ∙ placed.inside i (λ out. not_out (outside_push i ranges at n out o)))
      (λ (m : (at ≤ i) × (i < at + n)). within i m.0 m.1)
      (place_cases i at n);
}

pub none_placed : (synced contents : List ℕ) → IsPlaced synced contents [] synced
none_placed synced contents = record { len = refl; outside = λ i out. refl; inside = λ i not_out. absurd (not_out tt) }

-- a write leaves the contents in place, with its range
module _ (synced contents new : List ℕ) (ranges : List (ℕ × ℕ)) (at : ℕ) (bytes : List ℕ) (place : at ≤ length contents) (written : Written at bytes contents new) where
  ends : (len n : ℕ) → at ≤ len → max len (at + n) ≡ max (if nat_lt 0 n then at + n else 0) len
  ends len n le = grind (arith, nat_tests)

  beside : (i : ℕ) → (i < at) ⊎ (at + length bytes ≤ i) → slice_index new i ≡ slice_index contents i
  beside i o = ⊎_elim
      (λ (within : i < length contents). ⊎_elim
      (λ (low : i < at). written.below i within low)
      (λ (high : at + length bytes ≤ i). written.above i within high)
      o)
      (λ (past : length contents ≤ i). get_or_past new i 0 (omega (arith, written.len)) ∙ sym (get_or_past contents i 0 past))
      (sides i (length contents))
    where
      sides : (m n : ℕ) → (m < n) ⊎ (n ≤ m)
      sides m n = grind arith

  pub placed_write : IsPlaced synced contents ranges contents → IsPlaced synced new (ranges ++ (at, length bytes) ∷ []) new
  placed_write placed = record {
    len = written.len ∙ ends (length contents) (length bytes) place
        ∙ ap (λ (k : ℕ). max (if nat_lt 0 (length bytes) then at + length bytes else 0) k) placed.len ∙ sym (placed_end-push (length synced) ranges at (length bytes));
    outside = λ i out. let parts = outside_front i ranges at (length bytes) out in beside i parts.1 ∙ placed.outside i parts.0;
    inside = λ i not_out. refl;
  }
