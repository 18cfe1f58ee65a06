-- The changing calls of a disk that its owner carries out, and what a cut may leave meanwhile.
-- Source: none.
-- Our own choice: a call that is under way counts as carried out where it is a write, whose bytes
-- may be torn until the next sync, and as not carried out where it is a sync.
use Rattle.std.specs.Prelude.{◌≡◌, ℕ, ◌≤◌, Bool, false, List, drop, length, take, Some, None}
use Rattle.disk_model.specs.Disk.{View}
use Rattle.disk_model.specs.History.{Held, Event, wrote, synced, replay, ImageOf}
use Rattle.disk_model.specs.MemDisk.{MemView, view_of}
use Rattle.carried_disk.specs.declared.call_list.CarriedCall.{CarriedCall}
use Rattle.carried_disk.specs.declared.call_list.CarriedCall.TheVariants as call

-- what a call does to a file
abbrev pub event_of : CarriedCall → Event
event_of (call.Write at bytes) = wrote at bytes.now
event_of call.Sync = synced

-- the bytes with their past, as of a disk in memory, and the calls that are left, in order
pub record CarriedView : Type 0 where
  pub disk : MemView
  pub left : List Event
  -- whether anything was written since the last sync
  pub unsynced : Bool
  pub faults : ℕ
  pub changing : ℕ
  -- so many writes that end at most there take no memory
  pub room_end : ℕ
  pub room_writes : ℕ

-- what it tells: of the bytes what a disk in memory tells, and its own counts and room
abbrev pub view_told : CarriedView → View
view_told d = record (view_of d.disk) {
  faults = d.faults;
  changing = d.changing;
  room_end = d.room_end;
  room_writes = d.room_writes;
  off = false;
  failures = d.faults;
  cuts = None;
}

-- what a cut may leave of a file while these calls are carried out on it, one after another
abbrev pub CutLeaves : Held → List Event → List ℕ → Type 0
CutLeaves file calls c =
    (k : ℕ) × (k ≤ length calls) × ImageOf (replay file (take k calls)) c

-- the owner's file, of which this is held: after the calls that are left it has the contents and no
-- other images, and what a cut leaves of it meanwhile was told since that moment
pub record FileStands (file : Held) (since : ℕ) (d : CarriedView) : Type 0 where
  pub past : since ≤ (view_told d).moment
  pub contents : (view_told d).contents ≡ Some (replay file d.left).contents
  pub images : (c : List ℕ) → ImageOf (replay file d.left) c → (view_told d).may_leave c
  pub any_moment : (c : List ℕ) → CutLeaves file d.left c → (view_told d).left_since since c

-- a file that stood stands
abbrev pub StillStands : CarriedView → CarriedView → Type 0
StillStands old new = (file : Held) (since : ℕ) → FileStands file since old
    → FileStands file since new

-- The first of the calls left is carried out, and nothing else changes. Where none is left, nothing
-- does. The owner's file stands that has carried it out.
pub record CarriesOut (old new : CarriedView) : Type 0 where
  pub left : new.left ≡ drop 1 old.left
  pub file : (file : Held) (since : ℕ) → FileStands file since old
      → FileStands (replay file (take 1 old.left)) since new
  pub same : new ≡ record old { left = new.left }
