-- What is kept of the calls that are left, and what holds between it and the bytes.
-- Source: none.
use Rattle.std.specs.Prelude.{◌≡◌, ℕ, ◌+◌, ◌*◌, ◌<◌, ◌≤◌, Bool, false, true, List, [], ◌∷◌}
use Rattle.std.specs.Prelude.{take, drop, None}
use Rattle.disk_model.specs.Disk.{IsSettled}
use Rattle.disk_model.specs.History.{Event, wrote, synced}
use Rattle.disk_model.specs.MemDisk.{MemView, view_of}
use Rattle.carried_disk.specs.declared.call_list.ListedCall.{ListedCall}
use Rattle.carried_disk.specs.declared.call_list.ListedCall.TheVariants as listed

-- the calls, and the room for more of them and for their bytes
pub record CallList : Type 0 where
  pub left : List Event
  pub room : ℕ
  pub byte_room : ℕ

-- the calls with their bytes, which stand behind one another
abbrev pub events_of : List ListedCall → List ℕ → List Event
events_of [] bytes = []
events_of (listed.Write at len ∷ calls) bytes =
    wrote at (take len bytes) ∷ events_of calls (drop len bytes)
events_of (listed.Sync ∷ calls) bytes = synced ∷ events_of calls bytes

-- how many bytes they write
abbrev pub written : List ListedCall → ℕ
written [] = 0
written (listed.Write at len ∷ calls) = len + written calls
written (listed.Sync ∷ calls) = written calls

-- a disk in memory whose power is never cut, with nothing pending after a sync
pub record IsSteady (disk : MemView) (unsynced : Bool) : Type 0 where
  pub settled : unsynced ≡ false → IsSettled (view_of disk)
  pub cuts : disk.plan.cuts ≡ []
  pub fails : disk.plan.fails ≡ []
  pub powered : disk.plan.off ≡ None

-- the room in which writes take no memory, each with a sync behind it
pub record KeepsRoom (disk : MemView) (calls : CallList) (end writes : ℕ) : Type 0 where
  pub in_disk : 0 < writes → end ≤ disk.past.room_end
  pub writes_in_disk : writes ≤ disk.past.room_writes
  pub in_bytes : writes * end ≤ calls.byte_room

-- and the room for the calls themselves
abbrev pub HasCallRoom : Bool → ℕ → ℕ → Type 0
HasCallRoom true writes room = writes * 2 + 1 ≤ room
HasCallRoom false writes room = writes * 2 ≤ room
