-- A checkpoint between its two parts.
-- Source: none.
use Rattle.std.specs.Prelude.{◌≡◌, ◌⊎◌, ℕ, ◌+◌, ◌%◌, ◌^◌, ◌<◌, ◌≤◌, Bool, true, not, List, []}
use Rattle.std.specs.Prelude.{◌∷◌, ◌++◌, length, Some, Result, OnOk}
use Rattle.disk_model.specs.Disk.{View, IsSettled, LeavesOnly}
use Rattle.journal.specs.Frame.{Frame, IsSecond, AreSound}
use Rattle.journal.specs.Store.{IsClosed, IsStore, Head, FramesAt}
use Rattle.journal.specs.Frame.{region_digest, frames_len, encoded, digest_len}
use Rattle.journal.specs.Store.{other_at}
use Rattle.journal.specs.Journal.{IsBeforeOrSnapshot}

-- a live region of these frames in a file of version 2, up to its closed gate
pub record IsRegion (digest file : List ℕ) (live : Bool) (number begin end : ℕ)
    (frames : List Frame) : Type 0 where
  pub kept : List ℕ
  pub head : Head kept file live number begin
  pub from : 128 ≤ begin
  pub fits : begin < 2 ^ 64
  pub frames_at : FramesAt file begin frames
  pub sound : AreSound file frames
  pub second : IsSecond file
  pub under : digest ≡ region_digest kept frames
  pub ends : end ≡ begin + frames_len frames

-- a store of version 2 with these frames
abbrev pub IsStillStore : List ℕ → List Frame → List ℕ → Type 0
IsStillStore digest frames file = IsSecond file × IsStore digest file frames

-- the disk is settled, its file has a head, and a block of so many bytes at `to` and this number of
-- writes take no memory
pub record TakesBlock (view : View) (to len number : ℕ) : Type 0 where
  pub settled : IsSettled view
  pub place : (c : List ℕ) → view.contents ≡ Some c → (to ≤ length c) × (129 ≤ length c)
  pub room : to + len ≤ view.room_end
  pub head_room : 129 ≤ view.room_end
  pub writes : number ≤ view.room_writes

-- the snapshot's frame lies between the head and the region, or behind the region's closed gate
abbrev pub IsApart : ℕ → ℕ → ℕ → ℕ → Type 0
IsApart to len begin end = (128 ≤ to) × ((to + len ≤ begin) ⊎ (to ≡ end + 1))

-- the old region is live, the other slot's gate is closed, and the snapshot's frame stands whole
pub record IsBetween (digest file : List ℕ) (live : Bool) (number begin : ℕ) (frames : List Frame)
    (to : ℕ) (f : Frame) : Type 0 where
  pub kept : List ℕ
  pub head : Head kept file live number begin
  pub from : 128 ≤ begin
  pub frames_at : FramesAt file begin frames
  pub shut : IsClosed file (other_at live)
  pub fits : begin < 2 ^ 64
  pub sound : AreSound file frames
  pub second : IsSecond file
  pub under : digest ≡ region_digest kept frames
  pub behind : 128 ≤ to
  pub snapshot_at : FramesAt file to (f ∷ [])

-- the frame of a snapshot that names a list, with its open gate, and a closed gate behind it
pub record IsBlock (f : Frame) (block : List ℕ) : Type 0 where
  pub bytes : block ≡ 1 ∷ encoded f ++ 0 ∷ []
  pub last : f.last < 2 ^ 64
  pub size : length f.list + length f.body < 2 ^ 64
  pub snapshot : f.snapshot ≡ true
  pub list : length f.list ≡ digest_len

-- what a switch to a snapshot's frame at `to` leaves of each store that the disk may tell
pub record Switches {T E : Type 0} (result : Result T E) (old new : View)
    (live : Bool) (number to : ℕ) (block : List ℕ) : Type 0 where
  pub settled : OnOk result (IsSettled new)
  pub any_moment : (c digest : List ℕ) (begin end : ℕ) (frames : List Frame) (f : Frame)
      → old.contents ≡ Some c → IsRegion digest c live number begin end frames
      → IsApart to (length block) begin end → IsBlock f block
      → LeavesOnly old new (IsBeforeOrSnapshot digest frames f)
  pub switched : OnOk result ((c digest : List ℕ) (begin end : ℕ) (frames : List Frame) (f : Frame)
      → old.contents ≡ Some c → IsRegion digest c live number begin end frames
      → IsApart to (length block) begin end → IsBlock f block
      → (d : List ℕ) × (new.contents ≡ Some d) × IsSecond d
      × ((kept : List ℕ) × Head kept d (not live) ((number + 1) % 2 ^ 64) to)
      × FramesAt d to (f ∷ []))
