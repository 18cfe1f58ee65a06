-- What an opening under a suffix list makes of a file, whatever list the file stands under.
-- Source: none. What of a state stays under a list is defined in `Migrate` of `durable_model`.
-- Our own choice: where the file stands under another list, or some of its rows are none under the
-- list, what stays is written as one snapshot under the list. So a store is under its list from its
-- opening on, and the same opening again writes nothing.
use Rattle.std.specs.Prelude.{◌≡◌, ◌⊎◌, ℕ, ◌+◌, Bool, true, not, ◌&&◌, List, bytes_eq, Result}
use Rattle.std.specs.Prelude.{if◌then◌else◌}
use Rattle.disk_model.specs.Disk.{Makes, View}
use Rattle.journal.specs.Frame.{IsSecond}
use Rattle.journal.specs.Opening.{IsOpening, IsWithin, opening_calls}
use Rattle.journal.specs.Region.{StandsForState}
use Rattle.journal.specs.Store.{IsUnborn}
use Rattle.journal.specs.declared.open_fault.OpenFault.{OpenFault}
use Rattle.suffix_list.specs.ListText.{RuleList}
use Rattle.durable_model.specs.Migrate.{migrate, stays_whole}
use Rattle.durable_model.specs.Saved.{Saved, nothing_saved}
use Rattle.row_store.specs.Bodies.{Takes}

-- a file stands for a durable state after so many changes, under the list of this digest: a store
-- under its own, and an unborn file for nothing, under the one that is given
abbrev pub MeansUnder : (given kept : List ℕ) → List ℕ → Saved → ℕ → Type 0
MeansUnder given kept file d n =
    StandsForState Takes nothing_saved kept file d n
    ⊎ (IsUnborn file × (kept ≡ given) × (d ≡ nothing_saved) × (n ≡ 0))

-- the rows are written anew: they stand under another list, or some of them go
abbrev pub migrates : RuleList → (kept : List ℕ) → Saved → Bool
migrates list kept d = not (bytes_eq kept list.digest && stays_whole list.rules d)

-- the changing calls of the checkpoint that writes them
abbrev pub checkpoint_calls : ℕ
checkpoint_calls = 7

-- how many changing calls an opening makes of a file that stands for a state
abbrev pub calls_under : RuleList → (kept : List ℕ) → Saved → List ℕ → ℕ
calls_under list kept d file =
    opening_calls file + (if migrates list kept d then checkpoint_calls else 0)

-- how many an opening makes: those of the journal, and those of a checkpoint exactly where the file
-- stands for a state of which the rows are written anew
pub record MakesCalls {T : Type 0} (list : RuleList) (file : List ℕ)
    (result : Result T OpenFault) (old new : View) : Type 0 where
  pub exactly : (kept : List ℕ) (d : Saved) (n : ℕ) → IsWithin true file
      → MeansUnder list.digest kept file d n
      → Makes (calls_under list kept d file) result old new
  pub others : Makes (opening_calls file) result old new
      ⊎ ((kept : List ℕ) × (d : Saved) × (n : ℕ) × MeansUnder list.digest kept file d n
      × (migrates list kept d ≡ true)
      × Makes (opening_calls file + checkpoint_calls) result old new)

-- the rows of a store are written anew: it stands for its state still, or for what stays of it,
-- after as many changes, under the list
abbrev pub IsMigrating : RuleList → (old new : List ℕ) → Type 0
IsMigrating list old new =
    (kept : List ℕ) × (d : Saved) × (n : ℕ) × StandsForState Takes nothing_saved kept old d n
    × (migrates list kept d ≡ true) × IsSecond new
    × (StandsForState Takes nothing_saved kept new d n
    ⊎ StandsForState Takes nothing_saved list.digest new (migrate list.rules d) n)

-- what a cut during an opening under a list leaves: what one during the journal's leaves, or of a
-- store whose rows are written anew one of the two
abbrev pub IsOpeningUnder : RuleList → List ℕ → List ℕ → Type 0
IsOpeningUnder list old new = IsOpening list.digest old new ⊎ IsMigrating list old new
