-- What an opening after a cut of the power finds.
-- Source: none.
use Rattle.std.specs.Prelude.{◌≡◌, ◌⊎◌, ℕ, true, false, List, Some, IsErrOf, OnOk, Result}
use Rattle.agent_base.specs.Counts.{Rose}
use Rattle.disk_model.specs.Disk.{HasFailed, IsNextCut, View, WasOff}
use Rattle.journal.specs.Opening.{FileMeans, IsOpening, OpensUnder}
use Rattle.journal.specs.Region.{StandsForState, TakesOf}
use Rattle.journal.specs.Frame.{IsSecond}
use Rattle.journal.specs.declared.open_fault.OpenFault.{OpenFault}
use Rattle.journal.specs.declared.open_fault.OpenFault.TheVariants.{DeviceFault}

-- whatever a cut leaves of a disk that tells its contents is a store of version 2 that stands for
-- some state
abbrev pub LeavesStores : {S : Type 0} → TakesOf S → S → (digest : List ℕ) → View → Type 0
LeavesStores {S} takes empty digest view =
    view.tells ≡ true → (file : List ℕ) → view.may_leave file
    → IsSecond file × ((base : S) × (last : ℕ) × StandsForState takes empty digest file base last)

-- a cut may leave a store that stands for this, after so many changes
abbrev pub IsFound : {S : Type 0} → TakesOf S → S → (digest : List ℕ) → View → S → ℕ → Type 0
IsFound takes empty digest view base last =
    (file : List ℕ) × view.may_leave file × StandsForState takes empty digest file base last

-- a cut may leave a file that stands for this, after so many changes, under the list of a digest:
-- a store under its own, and an unborn file under the given one
abbrev pub IsStood : {S : Type 0} → TakesOf S → S → (given digest : List ℕ) → View → S → ℕ → Type 0
IsStood takes empty given digest view base last =
    (file : List ℕ) × view.may_leave file × OpensUnder given file digest
    × FileMeans takes empty digest file base last

-- what an opening leaves of a file that a cut might have left: that file, one of version 1 but for
-- its version, or of an unborn one what is made of it
abbrev pub IsReopening : (digest : List ℕ) → View → List ℕ → Type 0
IsReopening digest view file = (was : List ℕ) × view.may_leave was × IsOpening digest was file

-- the disk's own restart failed, and no call followed it: what a cut may leave, it might have left
-- before
pub record FailedAtOnce {T : Type 0} (result : Result T OpenFault) (old new : View) : Type 0 where
  pub answer : IsErrOf result DeviceFault
  pub failed : HasFailed old new
  pub calls : new.changing ≡ old.changing
  pub fewer : (file : List ℕ) → new.may_leave file → old.may_leave file

-- A cut at any moment from the disk's own restart on leaves a file that has P. The past that is
-- told begins there, but where that restart failed.
abbrev pub LeavesAnew : {T : Type 0} → Result T OpenFault → (old new : View) → (List ℕ → Type 0)
    → Type 0
LeavesAnew result old new P =
    FailedAtOnce result old new
    ⊎ ((moment : ℕ) (file : List ℕ) → new.left_since moment file → P file)

-- a restart answers a device fault exactly where a call of the disk failed
pub record Reopens {T : Type 0} (result : Result T OpenFault) (old new : View) : Type 0 where
  pub tells : new.tells ≡ old.tells
  pub counted : IsErrOf result DeviceFault → Rose old.faults new.faults
  -- the disk's own restart found the power off still, or the call that failed was a cut
  pub failed : IsErrOf result DeviceFault
      → WasOff old new ⊎ IsNextCut old.cuts new.cuts new.changing
  -- and where the disk tells its cuts, it was a cut
  pub cut : (cuts : List ℕ) → old.cuts ≡ Some cuts → IsErrOf result DeviceFault
      → IsNextCut old.cuts new.cuts new.changing
  pub others : IsErrOf result DeviceFault
      ⊎ ((new.faults ≡ old.faults) × (new.failures ≡ old.failures) × (new.cuts ≡ old.cuts))
  pub on : OnOk result (new.off ≡ false)
