-- A block behind a gate byte, as the images of an append have it.
-- Source: none.
use Rattle.std.specs.Prelude.{◌≡◌, ◌⊎◌, ℕ, ◌+◌, ◌<◌, ◌≤◌, List, ◌∷◌, length, slice_index, nat_le}
use Rattle.std.specs.Prelude.{if◌then◌else◌}
use Rattle.disk_model.specs.Disk.{Holds, Torn, Written}

-- the bytes from a on, below b, are there and the same
pub record Same (a b : ℕ) (old new : List ℕ) : Type 0 where
  pub there : b ≤ length new
  pub each : (i : ℕ) → a ≤ i → i < b → slice_index new i ≡ slice_index old i

-- A cut during an append leaves the gate as it was, and anything in the place of the block;
-- or the block whole, behind any gate. What is outside both stays.
abbrev pub IsAppending : ℕ → List ℕ → List ℕ → List ℕ → Type 0
IsAppending gate block old new = Torn (gate + 1) (length block) old new
    ⊎ (Torn gate (length block + 1) old new × Holds new (gate + 1) block)

-- a cut during two writes: each may be torn
abbrev pub IsStaging : ℕ → ℕ → ℕ → ℕ → List ℕ → List ℕ → Type 0
IsStaging at n slot m old new = (mid : List ℕ) × Torn at n old mid × Torn slot m mid new

-- two writes, one after the other
abbrev pub IsStaged : ℕ → List ℕ → ℕ → List ℕ → List ℕ → List ℕ → Type 0
IsStaged at block slot piece old new = (mid : List ℕ) × Written at block old mid
    × Written slot piece mid new

-- a file of more than one byte stays, and another has a closed byte
abbrev pub IsReady : List ℕ → List ℕ → Type 0
IsReady old new = ((1 < length old) × (new ≡ old))
    ⊎ ((length old ≤ 1) × (length new ≡ 1) × (slice_index new 0 ≡ 0))

-- a cut meanwhile leaves the file, or a byte of a file that had at most one
abbrev pub IsSettling : List ℕ → List ℕ → Type 0
IsSettling old new = (new ≡ old) ⊎ ((length old ≤ 1) × (length new ≤ 1))

-- the file was made ready, and then had a block written to it behind an open gate
abbrev pub IsMade : List ℕ → List ℕ → List ℕ → Type 0
IsMade block old new = (mid : List ℕ) × IsReady old mid × Written 0 (1 ∷ block) mid new

-- how many changing calls it takes to make a file ready: for a file of at most one byte a write and
-- a sync
abbrev pub settle_calls : List ℕ → ℕ
settle_calls file = if nat_le (length file) 1 then 2 else 0
