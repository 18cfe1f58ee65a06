-- What an opening does to a file, and why it is refused.
-- Source: none.
-- Our own choice: a store over 1,073,741,824 bytes is refused where a limit is asked for; this is
-- looked at first. Then comes whether the file is unborn, then the head, then the region. A store
-- opens under whichever list it was written: the list that is given says no more than what an
-- unborn file becomes. A store of version 1 becomes one of version 2 once nothing is at fault: its
-- byte 8 is written as 2, and nothing else.
use Rattle.std.specs.Prelude.{◌≡◌, ◌⊎◌, ℕ, ◌+◌, ◌-◌, ◌^◌, ◌<◌, ◌≤◌, max, min, Bool, true, List}
use Rattle.std.specs.Prelude.{[], ◌∷◌, length, slice_index, nat_le, nat_eq, if◌then◌else◌}
use Rattle.std.specs.Prelude.{Result, IsErrOf, OnOk}
use Rattle.agent_base.specs.Counts.{Rose}
use Rattle.disk_model.specs.Disk.{View, Torn, Written, IsPowered, HasFailed}
use Rattle.journal.specs.Frame.{Frame, IsFirst, IsSecond, version_offset}
use Rattle.journal.specs.Store.{IsOpen, IsStore, IsUnborn, Head}
use Rattle.journal.specs.Store.{head_len}
use Rattle.journal.specs.Region.{TakesOf, RefusesOf, IsFault, StandsForState}
use Rattle.journal.specs.HeadFault.{IsHeadFault}
use Rattle.journal.specs.declared.open_fault.OpenFault.{OpenFault}
use Rattle.journal.specs.declared.open_fault.OpenFault.TheVariants.{DeviceFault, NotAStore}
use Rattle.journal.specs.declared.open_fault.OpenFault.TheVariants.{TooLarge, NoMemory}

-- the greatest length under a limit
abbrev pub limit : ℕ
limit = 1073741824

-- the file may be looked at: no limit is asked for, or it keeps to it
abbrev pub IsWithin : Bool → List ℕ → Type 0
IsWithin limited file = limited ≡ true → length file ≤ limit

-- a limit is asked for, and the file is over it
abbrev pub IsOver : Bool → List ℕ → Type 0
IsOver limited file = (limited ≡ true) × (limit < length file)

-- why such a file is refused: its length, or that a call of the disk failed. Neither takes memory,
-- so that want of it is no answer here.
abbrev pub IsLimitRefusal : List ℕ → OpenFault → Type 0
IsLimitRefusal file why = (why ≡ TooLarge (length file)) ⊎ (why ≡ DeviceFault)

-- the file is no store, and this is its first fault
abbrev pub IsStoreFault : {S : Type 0} → TakesOf S → RefusesOf S → S → List ℕ → ℕ → Type 0
IsStoreFault {S} takes refuses empty file offset =
    IsHeadFault file offset
    ⊎ ((kept : List ℕ) × (live : Bool) × (number : ℕ) × (begin : ℕ)
    × Head kept file live number begin × (128 ≤ begin)
    × (begin < length file) × (begin < 2 ^ 64)
    × IsFault takes refuses file begin empty offset)

-- want of memory, and a device fault: they say nothing of the file
abbrev pub IsExcused : OpenFault → Type 0
IsExcused DeviceFault = Unit {0}
IsExcused NoMemory = Unit {0}
IsExcused (NotAStore offset) = ⊥
IsExcused (TooLarge len) = ⊥

-- the other refusals are of a file
abbrev pub IsOfFile : OpenFault → Type 0
IsOfFile DeviceFault = ⊥
IsOfFile NoMemory = ⊥
IsOfFile (NotAStore offset) = Unit {0}
IsOfFile (TooLarge len) = Unit {0}

-- each refusal but a device fault comes before anything is written
abbrev pub LeavesAlone : OpenFault → Type 0
LeavesAlone DeviceFault = ⊥
LeavesAlone NoMemory = Unit {0}
LeavesAlone (NotAStore offset) = Unit {0}
LeavesAlone (TooLarge len) = Unit {0}

-- nothing was written: what is told of the file stays, and what a cut may leave of it, it might
-- have left before
pub record LeavesNoMore (old new : View) : Type 0 where
  pub contents : new.contents ≡ old.contents
  pub images : (file : List ℕ) → new.may_leave file → old.may_leave file

-- why an opening is refused
abbrev pub IsRefusal : {S : Type 0} → TakesOf S → RefusesOf S → S → Bool → List ℕ → OpenFault
    → Type 0
IsRefusal takes refuses empty limited file (TooLarge len) = (limited ≡ true)
    × (len ≡ length file) × (limit < len)
IsRefusal takes refuses empty limited file (NotAStore offset) =
    IsWithin limited file × IsOpen file 0 × (1 < length file)
    × IsStoreFault takes refuses empty file offset
IsRefusal takes refuses empty limited file DeviceFault = Unit {0}
IsRefusal takes refuses empty limited file NoMemory = Unit {0}

-- the file had version 1, and at most the byte that says so has changed
pub record IsUpgrade (old new : List ℕ) : Type 0 where
  pub first : IsFirst old
  pub torn : Torn version_offset 1 old new

-- what an opening makes of a born file: 2 stands in the place of version 1, and else it stays
abbrev pub IsUpgraded : List ℕ → List ℕ → Type 0
IsUpgraded old new =
    (IsFirst old × Written version_offset (2 ∷ []) old new) ⊎ (IsSecond old × (new ≡ old))

-- what an opening makes of a file's length: a store keeps it, and a file that is made one has at
-- least a head and a gate
abbrev pub IsGrown : List ℕ → List ℕ → Type 0
IsGrown old new = length new ≡ max (length old) (head_len + 1)

-- what a cut during an opening leaves: the file as it was; of one of version 1 the file but for
-- that byte; or of an unborn file an unborn one, or a store without frames under the given list
abbrev pub IsOpening : (given old new : List ℕ) → Type 0
IsOpening given old new = (new ≡ old)
    ⊎ (IsUpgrade old new ⊎ (IsUnborn old × (IsUnborn new ⊎ IsStore given new [])))

-- the digest of the list under which a file opens: a store's own, whichever list is given, and the
-- given one for an unborn file
abbrev pub OpensUnder : (given file digest : List ℕ) → Type 0
OpensUnder given file digest =
    ((frames : List Frame) × IsStore digest file frames) ⊎ (IsUnborn file × (digest ≡ given))

-- what a file stands for, and under the digest of which list: a store, under its own alone, for
-- what its frames lead to, and an unborn file, under any, for the empty state with 0 changes
abbrev pub FileMeans : {S : Type 0} → TakesOf S → S → List ℕ → List ℕ → S → ℕ → Type 0
FileMeans takes empty digest file s n =
    StandsForState takes empty digest file s n ⊎ (IsUnborn file × (s ≡ empty) × (n ≡ 0))

-- no call of the disk has failed
pub record HasNoFault (old new : View) : Type 0 where
  pub faults : new.faults ≡ old.faults
  pub off : new.off ≡ old.off
  pub failures : new.failures ≡ old.failures
  pub cuts : new.cuts ≡ old.cuts

-- an opening answers a device fault exactly where a call of the disk failed
pub record Opens {T : Type 0} (result : Result T OpenFault) (old new : View) : Type 0 where
  pub tells : new.tells ≡ old.tells
  pub later : old.faults ≤ new.faults
  pub counted : IsErrOf result DeviceFault → Rose old.faults new.faults
  pub failed : IsErrOf result DeviceFault → HasFailed old new
  pub only : IsErrOf result DeviceFault ⊎ HasNoFault old new
  pub ok : OnOk result (IsPowered old new)

-- how many changing calls an opening makes: for a file that is made a store, for one of version 1,
-- and for any other
abbrev pub opening_calls : List ℕ → ℕ
opening_calls file =
    if nat_le (length file) 1 then 7 else if nat_eq (slice_index file 0) 0 then 5 else if nat_eq
    (slice_index file version_offset) 1 then 3 else 1

-- the answer by the cuts to come, of an opening of so many calls while the power is on: at `Ok` the
-- first lies past them, and a device fault is that cut, within them; with none there is no fault
abbrev pub AnswersByCuts : {T : Type 0} → Result T OpenFault → (before calls : ℕ) → List ℕ → Type 0
AnswersByCuts result before calls [] = IsErrOf result DeviceFault → ⊥
AnswersByCuts result before calls (cut ∷ cuts) =
    OnOk result (min (before + calls) (2 ^ 64 - 1) < cut)
    × (IsErrOf result DeviceFault → (before < cut) × (cut ≤ before + calls))
