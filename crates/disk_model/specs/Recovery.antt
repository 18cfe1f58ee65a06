-- What a disk in memory holds after the power came back, by the pick of the cut.
-- Source: none.
-- Our own choice: four picks. 0 leaves what was synced, 1 every range in place, 2 every range
-- spoiled by the byte A5, 3 the first half of every range.
use Rattle.std.specs.Prelude.{◌≡◌, ℕ, zero, suc, ◌+◌, ◌/◌, ◌<◌, max, nat_lt, List, [], ◌∷◌, length}
use Rattle.std.specs.Prelude.{slice_index, if◌then◌else◌}
use Rattle.disk_model.specs.Image.{IsOutside}
use Rattle.disk_model.specs.History.{Held}

-- pick 2: the byte A5 in each range, and the contents elsewhere
pub record IsSpoiled (contents : List ℕ) (ranges : List (ℕ × ℕ)) (file : List ℕ) : Type 0 where
  pub len : length file ≡ length contents
  pub outside : (i : ℕ) → i < length contents → IsOutside i ranges
      → slice_index file i ≡ slice_index contents i
  pub inside : (i : ℕ) → i < length contents → (IsOutside i ranges → ⊥) → slice_index file i ≡ 165

-- the first half of each range, rounded up
abbrev pub halves : List (ℕ × ℕ) → List (ℕ × ℕ)
halves [] = []
halves (r ∷ ranges) = (r.0, (r.1 + 1) / 2) ∷ halves ranges

-- the greatest end of these ranges and of a length, where an empty range has no end
abbrev pub placed_end : ℕ → List (ℕ × ℕ) → ℕ
placed_end len [] = len
placed_end len (r ∷ ranges) = max (if nat_lt 0 r.1 then r.0 + r.1 else 0) (placed_end len ranges)

-- pick 3: the first half of each range in place, and elsewhere what was synced. The file reaches
-- to the last byte in place; what was never placed past the synced end is 0.
pub record IsHalved (synced contents : List ℕ) (ranges : List (ℕ
    × ℕ)) (file : List ℕ) : Type 0 where
  pub len : length file ≡ placed_end (length synced) (halves ranges)
  pub outside : (i : ℕ) → IsOutside i (halves ranges) → slice_index file i ≡ slice_index synced i
  pub inside : (i : ℕ) → (IsOutside i (halves ranges) → ⊥)
      → slice_index file i ≡ slice_index contents i

-- the contents after a restart, by the pick
abbrev pub Recovered : ℕ → Held → List ℕ → Type 0
Recovered zero h file = file ≡ h.synced
Recovered (suc zero) h file = file ≡ h.contents
Recovered (suc (suc zero)) h file = IsSpoiled h.contents h.ranges file
Recovered (suc (suc (suc more))) h file = IsHalved h.synced h.contents h.ranges file
