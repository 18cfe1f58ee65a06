-- What a file of the system does, which may read or write a part of what it is asked.
-- Source: none.
-- Our own choice: a call that succeeds has read or written at least one byte, the first ones.
use Rattle.std.specs.Prelude.{◌≡◌, ℕ, ◌+◌, ◌-◌, ◌^◌, ◌<◌, ◌≤◌, max, false, All, List, length}
use Rattle.std.specs.Prelude.{None, Result, slice_index}
use Rattle.agent_base.specs.Counts.{HasCause}
use Rattle.disk_model.specs.Disk.{View, Torn, Elapses}

-- the first n of these bytes are those of the file at this offset
pub record HoldsFirst (file : List ℕ) (at n : ℕ) (bytes : List ℕ) : Type 0 where
  pub within : at + n ≤ length file
  pub each : (i : ℕ) → i < n → slice_index file (at + i) ≡ slice_index bytes i

-- the new file is the old one with the first n of these bytes at this offset
pub record WrittenFirst (at : ℕ) (bytes : List ℕ) (n : ℕ) (old new : List ℕ) : Type 0 where
  pub len : length new ≡ max (length old) (at + n)
  pub each : (i : ℕ) → i < n → slice_index new (at + i) ≡ slice_index bytes i
  pub below : (i : ℕ) → i < length old → i < at → slice_index new i ≡ slice_index old i
  pub above : (i : ℕ) → i < length old → at + n ≤ i → slice_index new i ≡ slice_index old i

-- the file counts a fault where a call fails, one at most, and none elsewhere
pub record CountsFault {T E : Type 0} (result : Result T E) (old new : View) : Type 0 where
  pub cause : HasCause old.faults new.faults result
  pub one : new.faults ≤ old.faults + 1

-- in this range a cut may leave any bytes: what is torn there of an image is an image
abbrev pub IsTornIn : ℕ → ℕ → (List ℕ → Type 0) → Type 0
IsTornIn at n images = (c d : List ℕ) → images c → Torn at n c d → images d

-- and it may do so still
abbrev pub StaysTorn : (List ℕ → Type 0) → (List ℕ → Type 0) → Type 0
StaysTorn old new = (at n : ℕ) → IsTornIn at n old → IsTornIn at n new

-- in each of these ranges, of an offset and a length each, where it is not empty
abbrev pub AreTorn : List (ℕ × ℕ) → (List ℕ → Type 0) → Type 0
AreTorn ranges images = All (λ r. 0 < r.1 → IsTornIn r.0 r.1 images) ranges

-- what was written again where a cut may have left any bytes: a cut leaves as much as before
pub record WritesBack (old new : View) : Type 0 where
  pub no_more : (c : List ℕ) → new.may_leave c → old.may_leave c
  pub no_fewer : (c : List ℕ) → old.may_leave c → new.may_leave c
  pub time : Elapses old new
  pub tells : new.tells ≡ old.tells

-- a disk over a file: its count of changing calls, and the ranges that were written since the last
-- sync that succeeded
pub record FileView (F : Type 0) : Type 0 where
  pub file : F
  pub calls : ℕ
  pub ranges : List (ℕ × ℕ)

-- the most ranges that it remembers
abbrev pub most_ranges : ℕ
most_ranges = 8

-- what it tells: of the bytes and of the faults what the file tells, and its own count of changing
-- calls. A write takes the place of a range and no memory, and the file's power is not ours to cut.
abbrev pub over_file : View → ℕ → ℕ → View
over_file file calls ranges = record file {
  changing = calls;
  room_end = 2 ^ 64;
  room_writes = most_ranges - ranges;
  off = false;
  failures = file.faults;
  cuts = None;
}

-- what such a disk tells, by what its file tells
abbrev pub told_by : {F : Type 0} → (F → View) → FileView F → View
told_by view disk = over_file (view disk.file) disk.calls (length disk.ranges)
