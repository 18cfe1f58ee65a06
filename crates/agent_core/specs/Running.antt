-- A line of an agent that is up, as a whole.
-- Source: none.
use Rattle.std.specs.Prelude.{◌≡◌, ◌+◌, ◌≤◌, [], length, true}
use Rattle.disk_model.specs.Disk.{LeavesOnly, View}
use Rattle.script_actions.specs.Action.{PlainAction}
use Rattle.agent_core.specs.AgentView.{AgentView, may_of}
use Rattle.agent_core.specs.Flushing.{KeepsOptions}
use Rattle.agent_core.specs.Calls.{IsIdle, OutcomeDevice}
use Rattle.agent_core.specs.Means.{Fits, IsBeforeOrAfter, LineMeans, after_line}
use Rattle.agent_core.specs.Seen.{AgentSeen, IsSeen}
use Rattle.agent_core.specs.declared.outcome.Outcome.{Outcome}
use Rattle.agent_core.specs.declared.outcome.Outcome.TheVariants.{Down, Held, NoMemory}

-- a line that an agent runs which is up
pub record RunsLine {D : Type 0} (line : PlainAction) (old : AgentView D) (before : View)
    (new : AgentView D) (after : View) (result : Outcome) : Type 0 where
  pub means : (a : AgentSeen) → IsSeen old before a → Fits a
      → (b : AgentSeen) × IsSeen new after b
      × LineMeans old.memory.rules old.batch line a (may_of old before) b (may_of new after) result
  -- a cut at any moment leaves what the store stood for when the batch began, or what follows it
  pub any_moment : (a : AgentSeen) → IsSeen old before a → a.up ≡ true → before.tells ≡ true
      → LeavesOnly before after (IsBeforeOrAfter old.memory.rules old.journal.digest a
      (after_line old.memory.rules a line))
  pub rules : KeepsOptions old new
  pub device : OutcomeDevice 4 result before after
  -- no call is made where no line of the batch has a durable change, or where the line waits
  pub idle : (a : AgentSeen) → IsSeen old before a
      → (after_line old.memory.rules a line).pending ≡ [] → IsIdle old before new after
  pub waits : result ≡ Held → IsIdle old before new after
  -- nor where memory is wanting
  pub spares : result ≡ NoMemory → IsIdle old before new after
  -- a call failed in the commit of a batch, whose last line it is
  pub tried : result ≡ Down → old.batch ≤ length old.held + 1
