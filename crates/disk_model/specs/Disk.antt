-- What the calls of a disk do to its file, and what a cut of the power may leave at each moment.
-- Source: none.
-- Our own choice: the model of a device. Between two syncs any byte may stand after a cut in each
-- range that was written, also by a write that failed, and past the old end. All other bytes stay.
-- After a sync that succeeded a cut leaves what a read returns. That a real device keeps to this
-- is an assumption: that its sync reaches the medium, and that a write spoils no neighbouring byte.
use Rattle.std.specs.Prelude.{Bool, true, false, ◌≡◌, ◌⊎◌, ℕ, ◌+◌, ◌-◌, ◌^◌, ◌<◌, ◌≤◌, max, min}
use Rattle.std.specs.Prelude.{List, [], ◌∷◌, length, slice_index, Option, Some, None, Result, OnOk}
use Rattle.std.specs.Prelude.{OnErr}
use Rattle.agent_base.specs.Counts.{Rose, HasCause}

-- the file has these bytes at this offset
pub record Holds (file : List ℕ) (at : ℕ) (bytes : List ℕ) : Type 0 where
  pub within : at + length bytes ≤ length file
  pub each : (i : ℕ) → i < length bytes → slice_index file (at + i) ≡ slice_index bytes i

-- the new file is the old one with these bytes at this offset
pub record Written (at : ℕ) (bytes old new : List ℕ) : Type 0 where
  pub len : length new ≡ max (length old) (at + length bytes)
  pub each : (i : ℕ) → i < length bytes → slice_index new (at + i) ≡ slice_index bytes i
  pub below : (i : ℕ) → i < length old → i < at → slice_index new i ≡ slice_index old i
  pub above : (i : ℕ) → i < length old → at + length bytes ≤ i
      → slice_index new i ≡ slice_index old i

-- after a write of n bytes that a cut may have torn: any bytes in the range and past the old end,
-- the same bytes elsewhere
pub record Torn (at n : ℕ) (old new : List ℕ) : Type 0 where
  pub no_shorter : length old ≤ length new
  pub no_longer : length new ≤ max (length old) (at + n)
  pub below : (i : ℕ) → i < length old → i < at → slice_index new i ≡ slice_index old i
  pub above : (i : ℕ) → i < length old → at + n ≤ i → slice_index new i ≡ slice_index old i

-- what a disk tells; one that tells nothing of its content has no contents and no images
pub record View : Type 1 where
  -- whether it tells its contents; no call changes this
  pub tells : Bool
  -- the bytes that a read returns
  pub contents : Option (List ℕ)
  -- the images: what a cut at this moment may leave
  pub may_leave : List ℕ → Type 0
  -- the clock, which goes on from call to call up to a restart
  pub moment : ℕ
  -- what a cut at some moment from that one on might have left, back to the last restart
  pub left_since : ℕ → List ℕ → Type 0
  -- how many calls have failed, and how many changing calls were made
  pub faults : ℕ
  pub changing : ℕ
  -- so many writes that end at most there take no memory
  pub room_end : ℕ
  pub room_writes : ℕ
  -- whether the power is off, and how many calls have failed while it was on
  pub off : Bool
  pub failures : ℕ
  -- the numbers of the changing calls in which the power is still to be cut, where it is told that
  -- no other call fails while the power is on
  pub cuts : Option (List ℕ)

-- what is told goes on by a step, and what is not told stays untold
abbrev pub Goes : (List ℕ → List ℕ → Type 0) → Option (List ℕ) → Option (List ℕ) → Type 0
Goes step None new = new ≡ None
Goes step (Some c) new = (d : List ℕ) × (new ≡ Some d) × step c d

-- each new image is an old image after a step
abbrev pub Follows : (List ℕ → List ℕ → Type 0) → (List ℕ → Type 0) → (List ℕ → Type 0) → Type 0
Follows step old new = (c : List ℕ) → new c → (d : List ℕ) × old d × step d c

-- nothing is pending: a cut leaves what a read returns
abbrev pub IsSettled : View → Type 0
IsSettled view = (c : List ℕ) → view.may_leave c → view.contents ≡ Some c

-- time goes on by a changing call
pub record Elapses (old new : View) : Type 0 where
  pub later : old.moment ≤ new.moment
  pub nothing_else : (t : ℕ) (c : List ℕ) → t ≤ old.moment → new.left_since t c → old.left_since t c
      ⊎ new.may_leave c
  pub keeps : (t : ℕ) (c : List ℕ) → t ≤ old.moment → old.left_since t c → new.left_since t c

-- nothing that is told changes, but the counts of faults and the room
pub record Stays (old new : View) : Type 0 where
  pub contents : new.contents ≡ old.contents
  pub moment : new.moment ≡ old.moment
  pub no_more : (c : List ℕ) → new.may_leave c → old.may_leave c
  pub no_fewer : (c : List ℕ) → old.may_leave c → new.may_leave c
  pub no_more_since : (t : ℕ) (c : List ℕ) → new.left_since t c → old.left_since t c
  pub no_fewer_since : (t : ℕ) (c : List ℕ) → old.left_since t c → new.left_since t c
  pub changing : new.changing ≡ old.changing
  pub tells : new.tells ≡ old.tells

-- the power is on before and after, and no call has failed
pub record IsPowered (old new : View) : Type 0 where
  pub before : old.off ≡ false
  pub after : new.off ≡ false
  pub failures : new.failures ≡ old.failures
  pub cuts : new.cuts ≡ old.cuts

-- where cuts are told, the call of this number is the next of them, and it is taken out
abbrev pub IsNextCut : Option (List ℕ) → Option (List ℕ) → ℕ → Type 0
IsNextCut None new call = new ≡ None
IsNextCut (Some []) new call = ⊥
IsNextCut (Some (cut ∷ cuts)) new call = (new ≡ Some cuts) × (call ≡ cut)

-- a call found the power off
pub record WasOff (old new : View) : Type 0 where
  pub before : old.off ≡ true
  pub after : new.off ≡ true
  pub failures : new.failures ≡ old.failures
  pub cuts : new.cuts ≡ old.cuts

-- a call failed while the power was on, and it was a cut where cuts are told
pub record FailedPowered (old new : View) : Type 0 where
  pub before : old.off ≡ false
  pub counted : Rose old.failures new.failures
  pub one : new.failures ≤ old.failures + 1
  pub cut : IsNextCut old.cuts new.cuts new.changing

-- a call that failed found the power off, or is one failure more while the power was on
abbrev pub HasFailed : View → View → Type 0
HasFailed old new = WasOff old new ⊎ FailedPowered old new

-- the count of faults rises at `Err` and stays at `Ok`, and a disk that tells goes on telling
pub record Faults {T E : Type 0} (result : Result T E) (old new : View) : Type 0 where
  pub cause : HasCause old.faults new.faults result
  pub tells : new.tells ≡ old.tells
  pub ok : OnOk result (IsPowered old new)
  pub err : OnErr result (HasFailed old new)

-- at most n changing calls were counted, and at `Ok` all of them, up to the last value
pub record Makes {T E : Type 0} (n : ℕ) (result : Result T E) (old new : View) : Type 0 where
  pub later : old.changing ≤ new.changing
  pub most : new.changing ≤ old.changing + n
  pub all : OnOk result (min (old.changing + n) (2 ^ 64 - 1) ≤ new.changing)

-- room for so many writes less
pub record UsesRoom (n : ℕ) (old new : View) : Type 0 where
  pub end : old.room_end ≤ new.room_end
  pub writes : old.room_writes ≤ new.room_writes + n

-- what n changing calls, k of them writes, leave of a disk but for its bytes
pub record Device {T E : Type 0} (n k : ℕ) (result : Result T E) (old new : View) : Type 0 where
  pub faults : Faults result old new
  pub calls : Makes n result old new
  pub room : UsesRoom k old new

-- a cut at any moment since `old` leaves a file that has P
pub record LeavesOnly (old new : View) (P : List ℕ → Type 0) : Type 0 where
  pub later : old.moment ≤ new.moment
  pub each : (c : List ℕ) → new.left_since old.moment c → P c
  -- the same for a span that began earlier
  pub before : (t : ℕ) (c : List ℕ) → t ≤ old.moment → new.left_since t c → old.left_since t c ⊎ P c
