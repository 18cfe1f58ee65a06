-- The first fault of the head of a file that is not unborn.
-- Source: none.
-- Our own choice: the rows and their order. Each row holds only where none before it does.
use Rattle.std.specs.Prelude.{◌≡◌, ◌⊎◌, ℕ, ◌+◌, ◌^◌, ◌<◌, ◌≤◌, Bool, List, length, replicate}
use Rattle.std.specs.Prelude.{if◌then◌else◌}
use Rattle.disk_model.specs.Disk.{Holds}
use Rattle.journal.specs.Store.{IsOpen, IsClosed, IsOlder, magic, slot_at, other_at, slot_bytes}
use Rattle.journal.specs.Frame.{version_offset}
use Rattle.journal.specs.Store.{padding_offset, padding_len, first_slot}
use Rattle.journal.specs.Store.{second_slot, zeros_offset, zeros_len, head_len}

-- what stands before the slots is right
pub record IsFront (file : List ℕ) : Type 0 where
  pub long : head_len + 1 ≤ length file
  pub name : Holds file 1 magic
  pub padding : Holds file padding_offset (replicate padding_len 0)

-- the slot is live: it is open, and the other one is closed or has the number before
pub record IsLive (file : List ℕ) (live : Bool) (number begin : ℕ) : Type 0 where
  pub slot : IsOpen file (slot_at live)
  pub says : Holds file (slot_at live + 1) (slot_bytes number begin)
  pub older : IsOlder file (other_at live) number

-- where the live slot's begin stands
abbrev pub begin_at : Bool → ℕ
begin_at live = if live then second_slot + 9 else first_slot + 9

-- no slot is open; both are, and neither number is the one after the other; the zeros are not
-- zero; the live slot's begin lies in the head or past the end
abbrev pub IsSlotFault : List ℕ → ℕ → Type 0
IsSlotFault file offset =
    (IsClosed file first_slot × IsClosed file second_slot × (offset ≡ first_slot))
    ⊎ ((IsOpen file first_slot × IsOpen file second_slot × ((live : Bool) (number begin : ℕ)
    → IsLive file live number begin → ⊥) × (offset ≡ second_slot))
    ⊎ (((live : Bool) × (number : ℕ) × (begin : ℕ) × IsLive file live number begin
    × (Holds file zeros_offset (replicate zeros_len 0) → ⊥) × (offset ≡ zeros_offset))
    ⊎ ((live : Bool) × (number : ℕ) × (begin : ℕ) × IsLive file live number begin
    × Holds file zeros_offset (replicate zeros_len 0) × (begin < 2 ^ 64)
    × ((begin < head_len) ⊎ (length file ≤ begin)) × (offset ≡ begin_at live))))

-- the file is shorter than a head and a gate; its name; the zeros behind its version, which are
-- told at the version's place; its slots
abbrev pub IsHeadFault : List ℕ → ℕ → Type 0
IsHeadFault file offset =
    ((length file < head_len + 1) × (offset ≡ 0))
    ⊎ (((head_len + 1 ≤ length file) × (Holds file 1 magic → ⊥) × (offset ≡ 1))
    ⊎ (((head_len + 1 ≤ length file) × Holds file 1 magic
    × (Holds file padding_offset (replicate padding_len 0) → ⊥) × (offset ≡ version_offset))
    ⊎ (IsFront file × IsSlotFault file offset)))
