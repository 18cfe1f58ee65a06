-- What a run over a disk writes and leaves, from the opening of its store on.
-- Source: none; these are the words of the promise.
use Rattle.std.specs.Prelude.{◌≡◌, ◌⊎◌, ℕ, ◌+◌, ◌≤◌, true, false, List, [], ◌∷◌, Option, Some}
use Rattle.std.specs.Prelude.{Result, Ok, Err}
use Rattle.agent_base.specs.Counts.{Rose}
use Rattle.agent_base.specs.Streams.{Takes}
use Rattle.disk_model.specs.Disk.{HasFailed, IsSettled, View}
use Rattle.disk_model.specs.MemDisk.{numbers_of}
use Rattle.disk_model.specs.declared.schedule.Cut.{Cut}
use Rattle.journal.specs.Opening.{AnswersByCuts, IsOfFile, IsRefusal, IsWithin, opening_calls}
use Rattle.journal.specs.Store.{IsUnborn}
use Rattle.journal.specs.declared.open_fault.OpenFault.{OpenFault}
use Rattle.journal.specs.declared.open_fault.OpenFault.TheVariants as fault
use Rattle.suffix_list.specs.ListText.{RuleList}
use Rattle.suffix_list.specs.Suffix.{Rule}
use Rattle.unwinding.specs.Admissible.{History}
use Rattle.script_actions.specs.Action.{PlainAction, PlainStep}
use Rattle.durable_model.specs.Histories.{AgentOpening, opened_at}
use Rattle.durable_model.specs.Migrate.{IsUnder, migrate}
use Rattle.durable_model.specs.Saved.{IsValid, Saved, nothing_saved}
use Rattle.row_store.specs.Bodies.{Refuses}
use Rattle.row_store.specs.Bodies as bodies
use Rattle.row_opening.specs.Under.{IsOpeningUnder, MeansUnder, calls_under, checkpoint_calls}
use Rattle.row_opening.specs.Under.{migrates}
use Rattle.printed_model.specs.Histories.{begins_at}
use Rattle.store_runs.specs.Endings.{ending_of}
use Rattle.store_runs.specs.CutBounds.{MeetsCuts, MeetsToldCuts, fault_places}
use Rattle.store_runs.specs.Faults.{RoseBy, faults_of}
use Rattle.store_runs.specs.Runs.{HasNoCuts, LeavesHistory, WritesLines}
use Rattle.store_runs.specs.declared.ending.Ending.{Ending}
use Rattle.store_runs.specs.declared.ending.Ending.TheVariants.{Device, Memory}

-- ---- what is left

-- What a run that ended so leaves of its disk, of which this was told before and that afterwards:
-- images that its history leaves, and a count that rose by its faults at least. Where the disk
-- tells its cuts and its power was on, the faults are at most as many, and each comes in time; so
-- many changing calls were made, or are due, before the first line.
abbrev pub LeavesDisk : Ending → RuleList → (batch : ℕ) → AgentOpening → (before : ℕ)
    → (old new : View) → (rest : List PlainStep) → History PlainAction → Type 0
LeavesDisk ending list batch opening before old new rest history =
    LeavesHistory list batch opening new.may_leave rest history
    × RoseBy (faults_of ending history) old.faults new.faults
    × MeetsToldCuts before old.cuts old.off (fault_places list.rules batch ending opening history)

-- ---- the first opening

-- An opening of this file answered so by the cuts to come, before which so many calls were made: a
-- device fault is the first of them, and at `Ok` that lies past the opening. Of a file that stands
-- for a state it is known how many calls that are; of any other, they are the journal's.
pub record AnswersUnder (list : RuleList) (file : List ℕ) (answer : Result (Unit {0}) OpenFault)
    (before : ℕ) (cuts : List ℕ) : Type 0 where
  pub exactly : (kept : List ℕ) (d : Saved) (n : ℕ) → IsWithin true file
      → MeansUnder list.digest kept file d n
      → AnswersByCuts answer before (calls_under list kept d file) cuts
  pub others : AnswersByCuts answer before (opening_calls file) cuts
      ⊎ ((kept : List ℕ) × (d : Saved) × (n : ℕ) × MeansUnder list.digest kept file d n
      × (migrates list kept d ≡ true)
      × AnswersByCuts answer before (opening_calls file + checkpoint_calls) cuts)

-- the first opening answered so by the cuts that are to come, where these are told and the power is
-- on
abbrev pub OpensByCuts : RuleList → Result (Unit {0}) OpenFault → View → Type 0
OpensByCuts list answer view =
    (c cuts : List ℕ) → view.contents ≡ Some c → view.off ≡ false → view.cuts ≡ Some cuts
    → AnswersUnder list c answer view.changing cuts

-- The first opening was refused so: the sink took nothing, and a file that is no store is as it
-- was. Where nothing was pending, a cut leaves what it leaves of an opening.
pub record IsRefusedOn (list : RuleList) (why : OpenFault) (old new : View)
    (before after : Option (List ℕ)) : Type 0 where
  pub text : Takes before after []
  pub cause : (c : List ℕ) → old.contents ≡ Some c
      → IsRefusal bodies.Takes Refuses nothing_saved true c why
  pub device : why ≡ fault.DeviceFault → Rose old.faults new.faults × HasFailed old new
  pub cuts : OpensByCuts list (Err why) old
  pub unchanged : IsOfFile why → new.contents ≡ old.contents
  pub images : IsSettled old → (c : List ℕ) → old.contents ≡ Some c → (file : List ℕ)
      → new.may_leave file → IsOpeningUnder list c file
  pub alone : IsOfFile why → (file : List ℕ) → new.may_leave file → old.may_leave file

-- a durable state is what stays, under a list, of the one that a file stands for under whichever
-- list, and no other is
pub record IsStateOf (list : RuleList) (file : List ℕ) (base : Saved) : Type 0 where
  pub stands : (kept : List ℕ) × (d : Saved) × (n : ℕ) × MeansUnder list.digest kept file d n
      × (base ≡ migrate list.rules d)
  pub alone : (kept : List ℕ) (d : Saved) (n : ℕ) → MeansUnder list.digest kept file d n
      → base ≡ migrate list.rules d

-- a durable state is what stays of the one that a disk's bytes stand for
abbrev pub IsMeantBy : RuleList → View → Saved → Type 0
IsMeantBy list view base = (c : List ℕ) → view.contents ≡ Some c → IsStateOf list c base

-- How many changing calls were made, or are due, before the first line: those of the opening, and
-- of a checkpoint, which may be due for the store that was found, but not for one that was made.
pub record BeginsWithin (list : RuleList) (before : ℕ) (old : View) : Type 0 where
  pub found : (c kept : List ℕ) (d : Saved) (n : ℕ) → old.contents ≡ Some c
      → MeansUnder list.digest kept c d n
      → before ≤ old.changing + calls_under list kept d c + 7
  pub made : IsSettled old → (c : List ℕ) → old.contents ≡ Some c → IsUnborn c
      → before ≤ old.changing + opening_calls c

-- A run over a disk ended so. The first opening was refused, or the lines ran from what stays of
-- the durable state that the disk's bytes stand for, which is a valid one under the list.
abbrev pub WritesOn : Ending → RuleList → (start batch checkpoint : ℕ) → View → List PlainStep
    → (before after : Option (List ℕ)) → View → Type 0
WritesOn ending list start batch checkpoint old steps before after new =
    ((why : OpenFault) × (ending ≡ ending_of why) × IsRefusedOn list why old new before after)
    ⊎ ((base : Saved) × IsValid base × IsUnder list.rules base × IsMeantBy list old base
    × OpensByCuts list (Ok tt) old × (calls : ℕ) × BeginsWithin list calls old
    × WritesLines ending list.rules batch checkpoint (opened_at start base) (HasNoCuts old) steps
    before after (LeavesDisk ending list batch (opened_at start base) calls old new))

-- ---- in memory

-- the power is cut while a store is made on an empty disk: the number of the first cut is at most
-- 7, for so many changing calls are made
abbrev pub CutsOpening : List Cut → Type 0
CutsOpening [] = ⊥
CutsOpening (cut ∷ cuts) = cut.call ≤ opening_calls []

-- no store was made on an empty disk: the power was cut before that, or memory was wanting
abbrev pub IsUnopened : Ending → List Cut → Type 0
IsUnopened Device cuts = CutsOpening cuts
IsUnopened Memory cuts = Unit {0}
IsUnopened ending cuts = ⊥

-- A run over a new store, whose power is cut so, ended so. The sink took nothing where the first
-- opening failed. It is not opened where a cut falls into the opening. The faults of its history
-- are at most as many as the cuts, and each comes in time, by the calls of the opening and of the
-- lines. Of what is left nothing is said, since the disk is gone.
abbrev pub WritesInMemory : Ending → List Rule → (start batch checkpoint : ℕ) → List Cut
    → List PlainStep → (before after : Option (List ℕ)) → Type 0
WritesInMemory ending rules start batch checkpoint cuts steps before after =
    (IsUnopened ending cuts × Takes before after [])
    ⊎ ((CutsOpening cuts → ⊥)
    × WritesLines ending rules batch checkpoint (begins_at start) (cuts ≡ []) steps before after
    (λ rest history. MeetsCuts (opening_calls []) (numbers_of cuts)
    (fault_places rules batch ending (begins_at start) history)))
