-- The images of a file: what a cut may leave of what was synced and of the writes since.
-- Source: none.
-- Our own choice: an image is what was synced, but for any bytes in the ranges written since the
-- last sync and past the synced end, up to the greatest end written.
use Rattle.std.specs.Prelude.{◌≡◌, ◌⊎◌, ℕ, ◌+◌, ◌<◌, ◌≤◌, max, List, [], ◌∷◌, length, slice_index}

-- a place outside each of these ranges, of an offset and a length each
abbrev pub IsOutside : ℕ → List (ℕ × ℕ) → Type 0
IsOutside i [] = Unit {0}
IsOutside i (r ∷ ranges) = ((i < r.0) ⊎ (r.0 + r.1 ≤ i)) × IsOutside i ranges

-- the greatest end of these ranges and of a length
abbrev pub greatest_end : ℕ → List (ℕ × ℕ) → ℕ
greatest_end len [] = len
greatest_end len (r ∷ ranges) = max (r.0 + r.1) (greatest_end len ranges)

-- what a cut may leave
pub record IsImage (synced : List ℕ) (ranges : List (ℕ × ℕ)) (file : List ℕ) : Type 0 where
  pub no_shorter : length synced ≤ length file
  pub no_longer : length file ≤ greatest_end (length synced) ranges
  pub outside : (i : ℕ) → i < length synced → IsOutside i ranges
      → slice_index file i ≡ slice_index synced i
