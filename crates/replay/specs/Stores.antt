-- A run over the store of a path, and what a run of a script writes.
-- A clause on a store speaks of a host that tells what stores hold.
-- Source: none; these are the words of the promise.
use Rattle.std.specs.Prelude.{◌≡◌, ◌⊎◌, ℕ, Bool, true, false, List, Option, Some, None}
use Rattle.journal.specs.Opening.{IsOfFile, IsOver}
use Rattle.journal.specs.declared.open_fault.OpenFault.{OpenFault}
use Rattle.suffix_list.specs.ListText.{RuleList}
use Rattle.unwinding.specs.Admissible.{History}
use Rattle.script_actions.specs.Action.{PlainAction, PlainStep}
use Rattle.script_lines.specs.Script.{PlainScript}
use Rattle.durable_model.specs.Histories.{AgentOpening, opened_at}
use Rattle.durable_model.specs.Migrate.{IsUnder}
use Rattle.durable_model.specs.Saved.{IsValid, Saved}
use Rattle.store_runs.specs.Disks.{IsStateOf}
use Rattle.store_runs.specs.Endings.{IsLimitEnding, ending_of}
use Rattle.store_runs.specs.Faults.{RoseBy, faults_of}
use Rattle.store_runs.specs.Fronts.{WritesFirst}
use Rattle.store_runs.specs.Runs.{LeavesHistory, WritesLines}
use Rattle.store_runs.specs.Tidy.{LeavesTidy}
use Rattle.store_runs.specs.declared.ending.Ending.{Ending}
use Rattle.store_runs.specs.declared.ending.Ending.TheVariants as ending
use Rattle.hosts.specs.Hosts.{LeavesOtherStores, LeavesStores, SameImages}
use Rattle.command_line.specs.Words.{PlainCommand, Replay}
use Rattle.replay.specs.BeforeAfter.{BeforeAfter}
use Rattle.replay.specs.Openings.{Images, IsExcusedEnding, IsRefused, Unopened}
use Rattle.replay.specs.Runs.{RanInMemory, TakesNone, WritesScript, steps_in}
use Rattle.replay.specs.declared.status.Status.{Status}

-- ---- a run

-- a durable state is valid, and is what stays, under a list, of what the bytes of a file stand for
pub record IsMeantBy (list : RuleList) (file : List ℕ) (base : Saved) : Type 0 where
  pub valid : IsValid base
  pub under : IsUnder list.rules base
  pub meant : IsStateOf list file base

-- what a history leaves of the store of a path, whose run ended so: what the host tells of it
-- afterwards are images that the history leaves, and the host's count of the stores' faults rose by
-- at least as many as the history has
abbrev pub LeavesStore : Ending → RuleList → ℕ → AgentOpening → (counts : BeforeAfter ℕ)
    → (after : Images) → (rest : List PlainStep) → History PlainAction → Type 0
LeavesStore ended list batch opening counts after rest history =
    LeavesHistory list batch opening after rest history
    × RoseBy (faults_of ended history) counts.before counts.after

-- Lines ran over the store of a path. It held this file, which is one of the images that the host
-- told of it before. The store was not opened; or a history of the lines went on from what stays,
-- under the list, of the state that the file stands for, and left this of the store. Where the file
-- is no store, that is what ends the run, but for want of memory and a failed call of the disk. A
-- file over the limit of size is told with its length, and never as want of memory. A run that is
-- done leaves a store for which no checkpoint is due.
pub record RanOverStore (start batch checkpoint : ℕ) (taken : BeforeAfter (Option (List ℕ)))
    (counts : BeforeAfter ℕ) (before after : Images) (ended : Ending) (list : RuleList)
    (steps : List PlainStep) : Type 0 where
  pub file : List ℕ
  pub found : before file
  pub wrote :
      Unopened list file ended taken after
      ⊎ ((base : Saved) × IsMeantBy list file base
      × WritesLines ended list.rules batch checkpoint (opened_at start base) ⊥ steps taken.before
      taken.after (LeavesStore ended list batch (opened_at start base) counts after))
  pub refused : (why : OpenFault) → IsOfFile why → IsRefused file why
      → TakesNone taken × ((ended ≡ ending.Store why) ⊎ IsExcusedEnding ended)
  pub limit : IsOver true file → IsLimitEnding file ended
  pub tidy : ended ≡ ending.Done → LeavesTidy checkpoint list.digest after

-- nothing was done: the sink took nothing, and what the host tells of the store of a path stands
abbrev pub LeftAlone : (taken : BeforeAfter (Option (List ℕ))) → (before after : Images) → Type 0
LeftAlone taken before after = TakesNone taken × SameImages before after

-- The same whatever the host tells of its stores. The store was not opened, and the sink took
-- nothing; or the lines ran from a valid durable state, which the opening gave, and up to the first
-- that opens the store again the sink took what is printed of a history from it. Where none does,
-- this is said of all lines, and the host's count rose by at least as many faults as they show.
abbrev pub RanFromOpening : (start batch checkpoint : ℕ)
    → (taken : BeforeAfter (Option (List ℕ))) → (counts : BeforeAfter ℕ) → Ending → RuleList
    → List PlainStep → Type 0
RanFromOpening start batch checkpoint taken counts ended list steps =
    ((why : OpenFault) × (ended ≡ ending_of why) × TakesNone taken)
    ⊎ ((base : Saved) × IsValid base
    × WritesFirst ended list.rules batch checkpoint (opened_at start base) ⊥ steps taken.before
    taken.after (λ rest history. RoseBy (faults_of ended history) counts.before counts.after))

-- both, the first where the host tells what stores hold
abbrev pub RanLines : (start batch checkpoint : ℕ) → (taken : BeforeAfter (Option (List ℕ)))
    → (counts : BeforeAfter ℕ) → Bool → (before after : Images) → Ending → RuleList
    → List PlainStep → Type 0
RanLines start batch checkpoint taken counts tells before after ended list steps =
    (tells ≡ true → RanOverStore start batch checkpoint taken counts before after ended list steps)
    × RanFromOpening start batch checkpoint taken counts ended list steps

-- the lines of a script ran over the store of a path
abbrev pub RanStored : (start batch checkpoint : ℕ) → (taken : BeforeAfter (Option (List ℕ)))
    → (counts : BeforeAfter ℕ) → Bool → (before after : Images) → Ending → RuleList → PlainScript
    → Type 0
RanStored start batch checkpoint taken counts tells before after ended list script =
    RanLines start batch checkpoint taken counts tells before after ended list (steps_in script)

-- ---- a command

-- what a host tells of every store but that of a path stands as it stood
abbrev pub LeavesAllBut : Option (List ℕ) → (before after : List ℕ → Images) → Type 0
LeavesAllBut None before after = LeavesStores before after
LeavesAllBut (Some path) before after = LeavesOtherStores path before after

-- What the sink took of a run of a script that ended so, and what that leaves of the store that it
-- names. The host told these lists, and of stores this before and that afterwards, with these
-- counts of their faults. Of other commands it says nothing.
abbrev pub Replays : Option PlainCommand → Status → (lists : List ℕ → Option (List ℕ))
    → (tells : Bool) → (before after : List ℕ → Images) → (counts : BeforeAfter ℕ)
    → (left taken : BeforeAfter (Option (List ℕ))) → Type 0
Replays (Some
    (Replay list None batch checkpoint start)) status lists tells before after counts left taken =
    WritesScript status true (lists list) left (TakesNone taken)
    (RanInMemory start batch checkpoint taken)
Replays (Some
    (Replay list
    (Some store) batch checkpoint start)) status lists tells before after counts left taken =
    WritesScript status false (lists list) left (LeftAlone taken (before store) (after store))
    (RanStored start batch checkpoint taken counts tells (before store) (after store))
Replays command status lists tells before after counts left taken = Unit {0}
