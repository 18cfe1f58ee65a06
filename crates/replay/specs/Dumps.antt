-- What a dump writes, and leaves of the store of a path.
-- A clause on a store speaks of a host that tells what stores hold.
-- Source: none; these are the words of the promise.
use Rattle.std.specs.Prelude.{◌≡◌, ◌⊎◌, ℕ, Bool, true, List, Option, Some}
use Rattle.agent_base.specs.Streams.{Takes, TakesPrefix}
use Rattle.journal.specs.Opening.{IsOfFile, IsOver, IsWithin}
use Rattle.journal.specs.declared.open_fault.OpenFault.{OpenFault}
use Rattle.suffix_list.specs.ListText.{RuleList}
use Rattle.durable_model.specs.Migrate.{migrate}
use Rattle.durable_model.specs.Saved.{IsValid, Saved}
use Rattle.row_opening.specs.Under.{MeansUnder}
use Rattle.store_dumps.specs.Dump.{dump_text}
use Rattle.store_runs.specs.Endings.{IsLimitEnding, ending_of}
use Rattle.store_runs.specs.declared.ending.Ending.{Ending}
use Rattle.store_runs.specs.declared.ending.Ending.TheVariants as ending
use Rattle.command_line.specs.Words.{PlainCommand, Dump}
use Rattle.replay.specs.BeforeAfter.{BeforeAfter}
use Rattle.replay.specs.Openings.{Images, IsExcusedEnding, IsRefused, LeavesOpening, Unopened}
use Rattle.replay.specs.Runs.{ListRead, TakesNone, Written}
use Rattle.replay.specs.Stores.{LeftAlone}
use Rattle.replay.specs.declared.status.Status.{Status}

-- what the sink took of a text, by how the work ended
abbrev pub WritesRows : Ending → List ℕ → (taken : BeforeAfter (Option (List ℕ))) → Type 0
WritesRows ending.Done text taken = Takes taken.before taken.after text
WritesRows ending.Write text taken = TakesPrefix taken.before taken.after text
WritesRows ending.Memory text taken = TakesPrefix taken.before taken.after text
WritesRows ending.Device text taken = ⊥
WritesRows (ending.Store why) text taken = ⊥

-- The rows of the store of a path were to be written. It held this file, which is one of the images
-- that the host told of it before, and what the host tells afterwards is what an opening leaves.
-- The store was not opened; or the sink took the lines of what stays, under the list, of the state
-- that the file stands for. A file that is no store is refused, but for want of memory and a failed
-- call of the disk, and one over the limit of size is never told as want of memory.
pub record DumpedStore (taken : BeforeAfter (Option (List ℕ))) (before after : Images)
    (ended : Ending) (list : RuleList) : Type 0 where
  pub file : List ℕ
  pub found : before file
  pub wrote :
      Unopened list file ended taken after
      ⊎ ((kept : List ℕ) × (d : Saved) × (n : ℕ) × MeansUnder list.digest kept file d n
      × IsValid (migrate list.rules d)
      × WritesRows ended (dump_text (migrate list.rules d)) taken
      × LeavesOpening list file after)
  pub rows : (kept : List ℕ) (d : Saved) (n : ℕ) → IsWithin true file
      → MeansUnder list.digest kept file d n
      → WritesRows ended (dump_text (migrate list.rules d)) taken ⊎ IsExcusedEnding ended
  pub refused : (why : OpenFault) → IsOfFile why → IsRefused file why
      → (ended ≡ ending.Store why) ⊎ IsExcusedEnding ended
  pub limit : IsOver true file → IsLimitEnding file ended

-- whatever the host tells of its stores: the store was not opened, and the sink took nothing; or it
-- took the lines of a valid durable state
abbrev pub DumpedState : (taken : BeforeAfter (Option (List ℕ))) → Ending → Type 0
DumpedState taken ended =
    ((why : OpenFault) × (ended ≡ ending_of why) × TakesNone taken)
    ⊎ ((d : Saved) × IsValid d × WritesRows ended (dump_text d) taken)

-- both, the first where the host tells what stores hold
abbrev pub DumpedRows : (taken : BeforeAfter (Option (List ℕ))) → Bool → (before after : Images)
    → Ending → RuleList → Type 0
DumpedRows taken tells before after ended list =
    (tells ≡ true → DumpedStore taken before after ended list) × DumpedState taken ended

-- What the sink took of a dump that ended so, and what that leaves of the store. Of other commands
-- it says nothing.
abbrev pub Dumps : Option PlainCommand → Status → (lists : List ℕ → Option (List ℕ))
    → (tells : Bool) → (before after : List ℕ → Images)
    → (taken : BeforeAfter (Option (List ℕ))) → Type 0
Dumps (Some (Dump list store)) status lists tells before after taken =
    Written status (LeftAlone taken (before store) (after store))
    (λ ended. (read : ListRead (lists list))
    × DumpedRows taken tells (before store) (after store) ended read.list)
Dumps command status lists tells before after taken = Unit {0}
