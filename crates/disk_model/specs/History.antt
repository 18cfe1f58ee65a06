-- The past of a disk in memory: what it held at each moment since it was made or last restarted.
-- Source: none.
-- Our own choice: the record has what the file was at first, and then each write, failed ones too,
-- each sync that succeeded and each that failed.
use Rattle.std.specs.Prelude.{◌≡◌, ◌⊎◌, ℕ, ◌+◌, ◌-◌, ◌^◌, ◌≤◌, nat_le, List, [], ◌∷◌, ◌++◌, length}
use Rattle.std.specs.Prelude.{take, drop, if◌then◌else◌}
use Rattle.disk_model.specs.Image.{IsImage}

-- what a read returns, what was synced, and the ranges written since
pub record Held : Type 0 where
  pub contents : List ℕ
  pub synced : List ℕ
  pub ranges : List (ℕ × ℕ)

-- a write, also one that failed; a sync that succeeded; one that failed
pub data Event : Type 0 where
  wrote : ℕ → List ℕ → Event
  synced : Event
  missed : Event

-- a file with these bytes at this offset, which is within it or at its end
unfoldable pub overlaid : List ℕ → ℕ → List ℕ → List ℕ
overlaid file at bytes =
    if nat_le at (length file) then take at file ++ bytes ++ drop (at + length bytes) file else file

-- what is held after one event more
abbrev pub after : Held → Event → Held
after h (wrote at bytes) = record {
  contents = overlaid h.contents at bytes;
  synced = h.synced;
  ranges = h.ranges ++ (at, length bytes) ∷ [];
}
after h synced = record { contents = h.contents; synced = h.contents; ranges = [] }
after h missed = h

-- what is held after these events
abbrev pub replay : Held → List Event → Held
replay h [] = h
replay h (e ∷ events) = replay (after h e) events

-- a file, all of it on the disk
abbrev pub at_first : List ℕ → Held
at_first file = record { contents = file; synced = file; ranges = [] }

-- what a cut may leave of what is held
abbrev pub ImageOf : Held → List ℕ → Type 0
ImageOf h file = IsImage h.synced h.ranges file

-- an image at some moment from t on; the moments before the first event end at base
abbrev pub Since : List ℕ → List Event → ℕ → ℕ → List ℕ → Type 0
Since first events base t file =
    (k : ℕ) × (k ≤ length events) × (t ≤ base + k)
    × ImageOf (replay (at_first first) (take k events)) file

-- the bytes and the record of a disk in memory, with the room that was made
pub record Past : Type 0 where
  -- the contents when the record began
  pub first : List ℕ
  pub events : List Event
  -- so many writes that end at most there take no memory
  pub room_end : ℕ
  pub room_writes : ℕ

-- what is held now
abbrev pub held : Past → Held
held p = replay (at_first p.first) p.events

-- one event more, or none where so many were recorded that a count may stand at its last value
abbrev pub IsNext : List Event → List Event → Type 0
IsNext old new = ((e : Event) × (new ≡ old ++ e ∷ [])) ⊎ ((new ≡ old) × (2 ^ 64 - 1 ≤ length old))

-- the past has grown by an event, and what is held now
pub record Grows (old new : Past) (now : Held) : Type 0 where
  pub first : new.first ≡ old.first
  pub events : IsNext old.events new.events
  pub stands : held new ≡ now
