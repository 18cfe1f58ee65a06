-- What a host tells of the store of a path, and an opening of it.
-- Source: none; these are the words of the promise.
use Rattle.std.specs.Prelude.{◌≡◌, ◌⊎◌, ℕ, true, List, [], Option}
use Rattle.agent_base.specs.Streams.{Takes}
use Rattle.journal.specs.Opening.{IsOfFile, IsRefusal}
use Rattle.journal.specs.declared.open_fault.OpenFault.{OpenFault}
use Rattle.suffix_list.specs.ListText.{RuleList}
use Rattle.durable_model.specs.Saved.{nothing_saved}
use Rattle.row_store.specs.Bodies as bodies
use Rattle.row_opening.specs.Under.{IsOpeningUnder}
use Rattle.store_runs.specs.Endings.{ending_of}
use Rattle.store_runs.specs.declared.ending.Ending.{Ending}
use Rattle.store_runs.specs.declared.ending.Ending.TheVariants as ending
use Rattle.replay.specs.BeforeAfter.{BeforeAfter}

-- what a host tells of a store: the images that an opening may find
abbrev pub Images : Type 1
Images = List ℕ → Type 0

-- a file is no store, for this, or it is not to blame
abbrev pub IsRefused : List ℕ → OpenFault → Type 0
IsRefused file why = IsRefusal bodies.Takes bodies.Refuses nothing_saved true file why

-- memory was wanting, or a call of the disk failed: these say nothing of the file
abbrev pub IsExcusedEnding : Ending → Type 0
IsExcusedEnding ended = (ended ≡ ending.Device) ⊎ (ended ≡ ending.Memory)

-- each of these images is one that an opening, under a list, of the store in this file may leave
abbrev pub LeavesOpening : RuleList → (file : List ℕ) → (after : Images) → Type 0
LeavesOpening list file after = (now : List ℕ) → after now → IsOpeningUnder list file now

-- the store in a file was not opened: for a fault of the file, which leaves the file as it is, or
-- for one that says nothing of it
pub record Unopened (list : RuleList) (file : List ℕ) (ended : Ending)
    (taken : BeforeAfter (Option (List ℕ))) (after : Images) : Type 0 where
  pub why : OpenFault
  pub ends : ended ≡ ending_of why
  pub cause : IsRefused file why
  pub text : Takes taken.before taken.after []
  pub left : LeavesOpening list file after
  pub alone : IsOfFile why → (now : List ℕ) → after now → now ≡ file
