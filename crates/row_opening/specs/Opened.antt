-- What an opening of a store gives.
-- Source: none.
use Rattle.std.specs.Prelude.{◌≡◌, ℕ, true, List}
use Rattle.disk_model.specs.Disk.{View}
use Rattle.journal.specs.Frame.{IsSecond}
use Rattle.journal.specs.Journal.{JournalView}
use Rattle.journal.specs.Region.{StandsForState}
use Rattle.open_store.specs.Reopens.{IsFound as IsOne}
use Rattle.open_store.specs.Standing.{StandsAt}
use Rattle.suffix_list.specs.ListText.{RuleList}
use Rattle.durable_model.specs.Migrate.{IsUnder}
use Rattle.durable_model.specs.Saved.{IsValid, Saved, nothing_saved}
use Rattle.spelled_model.specs.Rows.{IsReadSavedUnder}
use Rattle.row_store.specs.Bodies.{Takes}
use Rattle.row_store.specs.Laws.{IsSpelledStateUnder, IsStorable}
use Rattle.row_store.specs.Stored.{HasNoSession, saved_of}
use Rattle.row_store.specs.declared.parts.Parts.{Parts}
use Rattle.row_opening.specs.Under.{IsOpeningUnder}

-- the store stands for a state, and nothing is pending on its disk
abbrev pub IsAtBase : JournalView → View → Saved → Type 0
IsAtBase journal view base = StandsAt Takes nothing_saved journal view base

-- a store under a list is open, and these are the parts of the durable state that it stands for:
-- one under the list, of which a snapshot can be made
pub record IsOpened (list : RuleList) (journal : JournalView) (view : View) (parts : Parts)
    : Type 0 where
  pub at : IsAtBase journal view (saved_of parts)
  pub digest : journal.digest ≡ list.digest
  pub under : IsUnder list.rules (saved_of parts)
  pub valid : IsValid (saved_of parts)
  pub keys : IsReadSavedUnder list.rules (saved_of parts)
  pub storable : IsStorable (saved_of parts)
  pub spelled : IsSpelledStateUnder list.rules (saved_of parts)
  pub sessions : HasNoSession parts.storage

-- whatever a cut leaves of a disk that tells its contents is a store that stands for some state
-- under the list
abbrev pub LeavesUnder : RuleList → View → Type 0
LeavesUnder list view =
    view.tells ≡ true → (file : List ℕ) → view.may_leave file
    → IsSecond file × ((base : Saved) × (last : ℕ)
    × StandsForState Takes nothing_saved list.digest file base last
    × IsUnder list.rules base)

-- a cut may leave a store that stands for this, after so many changes
abbrev pub IsFound : (digest : List ℕ) → View → Saved → ℕ → Type 0
IsFound digest view d last = IsOne Takes nothing_saved digest view d last

-- what an opening leaves of a file that a cut might have left
abbrev pub IsReopeningUnder : RuleList → View → List ℕ → Type 0
IsReopeningUnder list view file =
    (was : List ℕ) × view.may_leave was × IsOpeningUnder list was file
