-- What a host tells of its lists and its stores, and how its counts of faults rise.
-- Source: none; the outside is our own model.
-- Our own choice: a store that is opened is the disk after a cut of the power, and what it may be
-- is told by images. A store that is not there is an empty one.
use Rattle.std.specs.Prelude.{◌≡◌, ℕ, ◌+◌, ◌-◌, ◌^◌, min, List, Option, Some, None}
use Rattle.std.specs.Prelude.{Result, Ok, Err}
use Rattle.agent_base.specs.Counts.{Rose}
use Rattle.agent_base.specs.declared.refusals.Fault.{Fault}
use Rattle.agent_base.specs.declared.refusals.Fault.TheVariants.{Failed, NoMemory}
use Rattle.disk_model.specs.Disk.{View}
use Rattle.hosts.specs.declared.store_fault.StoreFault.{StoreFault}
use Rattle.hosts.specs.declared.store_fault.StoreFault.TheVariants as store

-- ---- counts

-- a count that rose by so many, and stays at its last value once it is there
abbrev pub raised : (faults before : ℕ) → ℕ
raised faults before = before + min faults (2 ^ 64 - 1 - before)

-- a count of faults rose where opening a list failed, and stays else
abbrev pub HasOpenCause : {T : Type 0} → (before now : ℕ) → Result T Fault → Type 0
HasOpenCause before now (Ok opened) = now ≡ before
HasOpenCause before now (Err Failed) = Rose before now
HasOpenCause before now (Err NoMemory) = now ≡ before

-- and where opening a store failed, one that is open elsewhere too
abbrev pub HasStoreCause : {T : Type 0} → (before now : ℕ) → Result T StoreFault → Type 0
HasStoreCause before now (Ok opened) = now ≡ before
HasStoreCause before now (Err store.InUse) = Rose before now
HasStoreCause before now (Err store.Failed) = Rose before now
HasStoreCause before now (Err store.NoMemory) = now ≡ before

-- ---- lists

-- a list that is opened has left what the host told of it, where it told anything
abbrev pub HasLeft : Option (List ℕ) → Option (List ℕ) → Type 0
HasLeft None left = Unit {0}
HasLeft (Some told) left = left ≡ Some told

-- what a host tells of every other path stands as it stood
abbrev pub LeavesOthers : (path : List ℕ) → (before now : List ℕ → Option (List ℕ)) → Type 0
LeavesOthers path before now = (other : List ℕ) → (other ≡ path → ⊥) → now other ≡ before other

-- ---- stores

-- the images that were told and those that are told now are the same
pub record SameImages (before now : List ℕ → Type 0) : Type 0 where
  pub no_more : (file : List ℕ) → now file → before file
  pub no_fewer : (file : List ℕ) → before file → now file

-- what a host tells of every store stands as it stood
abbrev pub LeavesStores : (before now : List ℕ → List ℕ → Type 0) → Type 0
LeavesStores before now = (path : List ℕ) → SameImages (before path) (now path)

-- what a host tells of the store of every other path stands as it stood
abbrev pub LeavesOtherStores : (path : List ℕ) → (before now : List ℕ → List ℕ → Type 0) → Type 0
LeavesOtherStores path before now =
    (other : List ℕ) → (other ≡ path → ⊥) → SameImages (before other) (now other)

-- a disk tells its contents, and they are one of these images
abbrev pub HoldsOneOf : (images : List ℕ → Type 0) → View → Type 0
HoldsOneOf images view = (file : List ℕ) × (view.contents ≡ Some file) × images file
