-- A journal, as contracts see it, and what it and its disk owe each other between two calls.
-- Source: none.
-- Our own choice: the journal keeps no frames. `StandsInFile` says of a file which frames it has.
use Rattle.std.specs.Prelude.{◌≡◌, ℕ, ◌+◌, ◌-◌, ◌%◌, ◌^◌, ◌<◌, ◌≤◌, nat_le, if◌then◌else◌, Bool}
use Rattle.std.specs.Prelude.{true, false, List, [], ◌∷◌, ◌++◌, ◌⊎◌, Some}
use Rattle.disk_model.specs.Disk.{View, IsSettled}
use Rattle.journal.specs.Frame.{Frame, IsSecond, AreSound, frames_len}
use Rattle.journal.specs.Store.{IsStore, Head, FramesAt}
use Rattle.journal.specs.Frame.{region_digest, last_of, base_of, front_len, digest_len}
use Rattle.journal.specs.Store.{head_len}

-- what an open journal knows of its file, and the room it has for a frame
pub record JournalView : Type 0 where
  -- the digest of the suffix list under which the live region stands
  pub digest : List ℕ
  -- the live slot: the second or the first; its number; where its region begins
  pub live : Bool
  pub number : ℕ
  pub begin : ℕ
  -- where the live region's closed gate stands
  pub end : ℕ
  -- the number of changes since the store was made, and when the live region began
  pub changes : ℕ
  pub base : ℕ
  -- a device call failed: no call may follow
  pub shut : Bool
  -- a frame of so many bytes takes no memory
  pub room : ℕ

-- the number of changes in the frames of the live region that are no snapshot, modulo 2^64
abbrev pub since_of : JournalView → ℕ
since_of journal = (journal.changes + (2 ^ 64 - journal.base)) % 2 ^ 64

-- the file is the journal's store, of version 2, with these frames
pub record StandsInFile (journal : JournalView) (file : List ℕ) (frames : List Frame) : Type 0 where
  pub kept : List ℕ
  pub head : Head kept file journal.live journal.number journal.begin
  pub from : head_len ≤ journal.begin
  pub fits : journal.begin < 2 ^ 64
  pub frames_at : FramesAt file journal.begin frames
  pub sound : AreSound file frames
  pub second : IsSecond file
  pub under : journal.digest ≡ region_digest kept frames
  pub end : journal.end ≡ journal.begin + frames_len frames
  pub last : journal.changes ≡ last_of 0 frames
  pub base : journal.base ≡ base_of frames

-- the disk is as the journal left it: nothing is pending, and what it tells is the journal's store
pub record IsAtRest (journal : JournalView) (view : View) : Type 0 where
  pub settled : IsSettled view
  pub stands : (c : List ℕ) → view.contents ≡ Some c → (frames : List Frame)
      × StandsInFile journal c frames

-- a commit or a checkpoint with a body of so many bytes takes no memory: neither for a snapshot's
-- digest and body with its front and a closed gate, nor for the file up to there
pub record HasRoom (journal : JournalView) (view : View) (body : ℕ) : Type 0 where
  pub block : body + (front_len + digest_len + 1) ≤ journal.room
  pub end : journal.end + body + (front_len + digest_len + 2) ≤ view.room_end
  pub head : head_len + 1 ≤ view.room_end
  pub fits : journal.end + body + (head_len + front_len + digest_len + 2) < 2 ^ 64
  pub writes : 4 ≤ view.room_writes

-- where a checkpoint puts a snapshot with a body of so many bytes: behind the head, where its frame
-- with both gates ends before the live region, and else behind that region's closed gate
abbrev pub snapshot_at : JournalView → ℕ → ℕ
snapshot_at journal body =
    if nat_le (head_len + (body + (front_len + digest_len + 1))) journal.begin then head_len
    else journal.end + 1

-- the frame that a commit writes
abbrev pub next_frame : JournalView → List ℕ → ℕ → Frame
next_frame journal body changes = record {
  snapshot = false;
  last =
      (journal.changes + changes) % 2 ^ 64;
  list = [];
  body = body;
}

-- the frame that a checkpoint writes, under a list of this digest
abbrev pub snapshot_frame : JournalView → (digest body : List ℕ) → Frame
snapshot_frame journal digest body = record {
  snapshot = true;
  last = journal.changes;
  list = digest;
  body = body;
}

-- a store of version 2 with these frames, or with one more
abbrev pub IsBeforeOrAfter : List ℕ → List Frame → Frame → List ℕ → Type 0
IsBeforeOrAfter digest frames f file =
    IsSecond file × (IsStore digest file frames ⊎ IsStore digest file (frames ++ f ∷ []))

-- a store of version 2 with these frames under a list's digest, or with the snapshot alone, under
-- the digest that it names
abbrev pub IsBeforeOrSnapshot : List ℕ → List Frame → Frame → List ℕ → Type 0
IsBeforeOrSnapshot digest frames f file =
    IsSecond file × (IsStore digest file frames ⊎ IsStore f.list file (f ∷ []))
