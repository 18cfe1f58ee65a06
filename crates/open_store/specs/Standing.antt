-- A store that stands for a state, by the meaning that bodies have.
-- Source: none.
use Rattle.std.specs.Prelude.{◌≡◌, ℕ, true, false, List, Some}
use Rattle.disk_model.specs.Disk.{Stays, View}
use Rattle.journal.specs.Journal.{IsAtRest, JournalView, StandsInFile}
use Rattle.journal.specs.Opening.{HasNoFault}
use Rattle.journal.specs.Region.{Runs, TakesOf}
use Rattle.journal.specs.Frame.{Frame}

-- a call of the store may follow
pub record IsReady (journal : JournalView) (view : View) : Type 0 where
  pub usable : journal.shut ≡ false
  pub rests : IsAtRest journal view

-- the store stands for a state, and nothing is pending on its disk
pub record StandsAt {S : Type 0} (takes : TakesOf S) (empty : S) (journal : JournalView)
    (view : View) (base : S) : Type 0 where
  pub rests : IsAtRest journal view
  pub usable : journal.shut ≡ false
  pub stands : (c : List ℕ) → view.contents ≡ Some c
      → (frames : List Frame) × StandsInFile journal c frames
      × Runs takes true empty 0 frames base journal.changes

-- a store is as it was, but for its room
pub record IsRoomier (was now : JournalView) (old new : View) : Type 0 where
  pub journal : now ≡ record was { room = now.room }
  pub stands : (c : List ℕ) (frames : List Frame) → StandsInFile was c frames
      → StandsInFile now c frames
  pub rests : IsAtRest was old → IsAtRest now new
  pub stays : Stays old new
  pub fine : HasNoFault old new
