-- What a cut leaves at the moments of a line, and a line that did not run.
-- Source: none; these are the words of the general law.
use Rattle.std.specs.Prelude.{◌≡◌, ℕ, true, [], Result}
use Rattle.unwinding.specs.Admissible.{Acts, Reopens}
use Rattle.disk_model.specs.Disk.{LeavesOnly, View}
use Rattle.journal.specs.Opening.{IsOfFile}
use Rattle.journal.specs.declared.open_fault.OpenFault.{OpenFault}
use Rattle.open_store.specs.Reopens.{LeavesAnew}
use Rattle.script_actions.specs.Action.{PlainStep}
use Rattle.agent_core.specs.AgentView.{AgentView}
use Rattle.agent_core.specs.Means.{IsBeforeOrAfter, IsOneFound, after_line}
use Rattle.agent_core.specs.Seen.{AgentSeen, IsSeen}
use Rattle.store_runs.specs.Calls.{Called, ToldAt}
use Rattle.store_runs.specs.declared.ending.Ending.{Ending}
use Rattle.store_runs.specs.declared.ending.Ending.TheVariants.{Memory, Store}

-- At each moment of a line that acts a cut leaves what the store stood for when its batch began, or
-- what follows the batch. At each moment of a restart, from the disk's own restart on, it leaves a
-- store that it might have left before.
abbrev pub AnyMoment : {D : Type 0} → (tell : D → View) → (old new : AgentView D) → PlainStep
    → Type 0
AnyMoment tell old new (Acts l) =
    (a : AgentSeen) → IsSeen old (tell old.disk) a → a.up ≡ true → (tell old.disk).tells ≡ true
    → LeavesOnly (tell old.disk) (tell new.disk)
    (IsBeforeOrAfter old.memory.rules old.journal.digest a (after_line old.memory.rules a l))
AnyMoment tell old new Reopens =
    (a : AgentSeen) → IsSeen old (tell old.disk) a
    → (answer : Result ℕ OpenFault)
    × LeavesAnew answer (tell old.disk) (tell new.disk) (IsOneFound old (tell old.disk))

-- A line did not run. Where memory was wanting, what the agent stands for is as it was, but that a
-- restart leaves it not up. A disk that tells its contents has never a store that is refused, and
-- a line that acts opens none.
abbrev pub StopsBefore : {D : Type 0} → (tell : D → View) → (old new : AgentView D) → PlainStep
    → Ending → Type 0
StopsBefore tell old new step Memory =
    Called tell old new (ToldAt step (tell old.disk)) ⊥ [] []
StopsBefore tell old new step (Store why) =
    IsOfFile why × (step ≡ Reopens)
    × ((tell old.disk).tells ≡ true → (a : AgentSeen) → IsSeen old (tell old.disk) a → ⊥)
StopsBefore tell old new step other = ⊥
