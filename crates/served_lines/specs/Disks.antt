-- Serving over a disk, from the opening of its store on.
-- Source: none; these are the words of the promise.
use Rattle.std.specs.Prelude.{◌≡◌, ◌⊎◌, ℕ, true, List, [], Option, Some}
use Rattle.agent_base.specs.Counts.{Rose}
use Rattle.agent_base.specs.Streams.{Takes}
use Rattle.disk_model.specs.Disk.{View}
use Rattle.journal.specs.Opening.{IsOfFile, IsRefusal}
use Rattle.journal.specs.declared.open_fault.OpenFault.{OpenFault}
use Rattle.journal.specs.declared.open_fault.OpenFault.TheVariants as fault
use Rattle.suffix_list.specs.ListText.{RuleList}
use Rattle.durable_model.specs.Histories.{opened_at}
use Rattle.durable_model.specs.Migrate.{IsUnder}
use Rattle.durable_model.specs.Saved.{IsValid, Saved, nothing_saved}
use Rattle.row_store.specs.Bodies.{Refuses}
use Rattle.row_store.specs.Bodies as bodies
use Rattle.store_runs.specs.Disks.{IsMeantBy}
use Rattle.agent_core.specs.AgentView.{list_of}
use Rattle.line_session.specs.SessionView.{SessionView}
use Rattle.line_session.specs.StandsFor.{StandsFor}
use Rattle.served_lines.specs.Serving.{Serves}
use Rattle.served_lines.specs.declared.ending.Served.{Served}
use Rattle.served_lines.specs.declared.ending.Served.TheVariants.{Device, Store, NoMemory}

-- a file is no store, for this, or it is not to blame
abbrev pub IsRefusedFile : (file : List ℕ) → OpenFault → Type 0
IsRefusedFile file why = IsRefusal bodies.Takes Refuses nothing_saved true file why

-- how serving ends where the store was not opened, for this
abbrev pub ended_by : OpenFault → Served
ended_by fault.DeviceFault = Device
ended_by fault.NoMemory = NoMemory
ended_by (fault.NotAStore offset) = Store (fault.NotAStore offset)
ended_by (fault.TooLarge len) = Store (fault.TooLarge len)

-- The store was not opened, for this. Nothing was read or written, and a file that is no store is
-- as it was.
pub record IsUnopened (why : OpenFault) (ended : Served) (old new : View)
    (before after taken took : Option (List ℕ)) : Type 0 where
  pub ends : ended ≡ ended_by why
  pub cause : (c : List ℕ) → old.contents ≡ Some c → IsRefusedFile c why
  pub device : why ≡ fault.DeviceFault → Rose old.faults new.faults
  pub unchanged : IsOfFile why → new.contents ≡ old.contents
  pub unread : after ≡ before
  pub text : Takes taken took []

-- The store was opened, and lines were served over it: from what stays, under the list, of the
-- durable state that the disk's bytes stand for, which is a valid one, with no line and no text
-- behind it. The disk that is handed back is the session's.
pub record IsServedOver {D : Type 0} (tell : D → View) (ended : Served) (list : RuleList)
    (start checkpoint : ℕ) (old new : D) (before after taken took : Option (List ℕ))
    : Type 0 where
  pub base : Saved
  pub valid : IsValid base
  pub fits : IsUnder list.rules base
  pub meant : IsMeantBy list (tell old) base
  pub first : SessionView D
  pub last : SessionView D
  pub under : list_of first.agent ≡ list
  pub due : first.agent.checkpoint ≡ checkpoint
  pub tells : (tell first.agent.disk).tells ≡ (tell old).tells
  pub begins : StandsFor tell first (opened_at start base) [] []
  pub serves : Serves tell ended first last before after taken took
  pub left : new ≡ last.agent.disk

-- the one or the other
abbrev pub ServesOn : {D : Type 0} → (tell : D → View) → Served → RuleList → (start checkpoint : ℕ)
    → (old new : D) → (before after taken took : Option (List ℕ)) → Type 0
ServesOn tell ended list start checkpoint old new before after taken took =
    ((why : OpenFault)
    × IsUnopened why ended (tell old) (tell new) before after taken took)
    ⊎ IsServedOver tell ended list start checkpoint old new before after taken took

-- what is told of a store is a fault of its file
abbrev pub IsStoreEnd : Served → Type 0
IsStoreEnd (Store why) = IsOfFile why
IsStoreEnd ending = Unit {0}

-- a call of the disk failed, or memory was wanting: these say nothing of the file
abbrev pub IsExcusedEnd : Served → Type 0
IsExcusedEnd ended = (ended ≡ Device) ⊎ (ended ≡ NoMemory)
