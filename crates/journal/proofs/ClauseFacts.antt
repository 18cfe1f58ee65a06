-- What the words of an opening's clauses say of the least files, and what they leave out, so that a
-- word that says less does not check.
use Rattle.std.proofs.Common.{◌≡◌, refl, ℕ, ◌+◌, ◌∷◌, [], ◌++◌, List, length, ◌⊎◌, inl, inr, arith}
use Rattle.std.specs.Prelude.{codes, true, false, replicate, Result, IsErrOf}
use Rattle.agent_base.specs.Counts.{Rose}
use Rattle.disk_model.specs.Disk.{View}
use Rattle.journal.specs.Frame.{Frame, IsSecond}
use Rattle.journal.specs.Journal.{IsBeforeOrAfter, IsBeforeOrSnapshot}
use Rattle.journal.specs.Opening.{IsLimitRefusal, LeavesAlone, IsExcused, IsOfFile, IsGrown, OpensUnder, Opens}
use Rattle.journal.specs.declared.open_fault.OpenFault.{OpenFault}
use Rattle.journal.specs.declared.open_fault.OpenFault.TheVariants.{DeviceFault, NotAStore, TooLarge, NoMemory}

-- a file over the limit is told with its length, and never as want of memory
told_with_its_length : IsLimitRefusal (7 ∷ 7 ∷ []) (TooLarge 2)
told_with_its_length = inl refl

not_with_another : IsLimitRefusal (7 ∷ 7 ∷ []) (TooLarge 3) → ⊥
not_with_another why = elim why [ inl is ↦ cc | inr is ↦ cc ]

not_as_want_of_memory : IsLimitRefusal (7 ∷ 7 ∷ []) NoMemory → ⊥
not_as_want_of_memory why = elim why [ inl is ↦ cc | inr is ↦ cc ]

-- want of memory comes before anything is written, and a device fault may come behind it
before_anything_is_written : LeavesAlone NoMemory
before_anything_is_written = tt

perhaps_behind : LeavesAlone DeviceFault → ⊥
perhaps_behind is = is

-- what says nothing of the file, and what does
device_is_excused : IsExcused DeviceFault
device_is_excused = tt

fault_is_not_excused : IsExcused (NotAStore 1) → ⊥
fault_is_not_excused is = is

device_is_not_of_the_file : IsOfFile DeviceFault → ⊥
device_is_not_of_the_file is = is

length_is_of_the_file : IsOfFile (TooLarge 2)
length_is_of_the_file = tt

-- a file that is made a store has 129 bytes, or as many as it had
head_and_gate : IsGrown [] (replicate 129 0)
head_and_gate = refl

one_is_too_many : ◌≡◌ {A = ℕ} 130 129 → ⊥
one_is_too_many is = omega (arith, is)

no_byte_more : IsGrown [] (replicate 130 0) → ⊥
no_byte_more is = one_is_too_many is

longer_stays : IsGrown (replicate 130 0) (replicate 130 0)
longer_stays = refl

-- no file opens under another list than the given one where it is none yet
empty_under_the_given : (given digest : List ℕ) → OpensUnder given [] digest → digest ≡ given
empty_under_the_given given digest under = elim under [
  | inl store ↦ absurd (omega (arith, store.1.head.gate.0))
  | inr unborn ↦ unborn.1
]

-- a device fault of an opening is counted by the disk
fault_is_counted : {T : Type 0} (result : Result T OpenFault) (old new : View)
    → Opens result old new → IsErrOf result DeviceFault → Rose old.faults new.faults
fault_is_counted result old new opens = opens.counted

-- at each moment of a commit and of a checkpoint the file has version 2
version_in_a_commit : (digest : List ℕ) (frames : List Frame) (f : Frame) (file : List ℕ)
    → IsBeforeOrAfter digest frames f file → IsSecond file
version_in_a_commit digest frames f file is = is.0

version_in_a_checkpoint : (digest : List ℕ) (frames : List Frame) (f : Frame) (file : List ℕ)
    → IsBeforeOrSnapshot digest frames f file → IsSecond file
version_in_a_checkpoint digest frames f file is = is.0
