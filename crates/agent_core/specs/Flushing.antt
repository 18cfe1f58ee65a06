-- A flush of an agent that is up, as a whole, and what each call leaves as it was.
-- Source: none.
use Rattle.std.specs.Prelude.{◌≡◌, ℕ, [], true}
use Rattle.disk_model.specs.Disk.{LeavesOnly, View}
use Rattle.agent_core.specs.AgentView.{AgentView, may_of}
use Rattle.agent_core.specs.Calls.{IsIdle, IsTidy, OutcomeDevice}
use Rattle.agent_core.specs.Means.{FlushMeans, IsBeforeOrAfter}
use Rattle.agent_core.specs.Seen.{AgentSeen, IsSeen}
use Rattle.agent_core.specs.declared.outcome.Outcome.{Outcome}
use Rattle.agent_core.specs.declared.outcome.Outcome.TheVariants.{NoMemory}

-- the list of rules and its digest, the length of a batch, and when a checkpoint is due, stay
abbrev pub KeepsOptions : {D : Type 0} → (old new : AgentView D) → Type 0
KeepsOptions old new =
    (new.memory.rules ≡ old.memory.rules) × (new.journal.digest ≡ old.journal.digest)
    × (new.batch ≡ old.batch) × (new.checkpoint ≡ old.checkpoint)

-- a flush of an agent that is up, of so many changing calls at most
pub record Flushes {D : Type 0} (calls : ℕ) (old : AgentView D) (before : View)
    (new : AgentView D) (after : View) (result : Outcome) : Type 0 where
  pub means : (a : AgentSeen) → IsSeen old before a
      → (b : AgentSeen) × IsSeen new after b
      × FlushMeans old.memory.rules a (may_of old before) b (may_of new after) result
  -- a cut at any moment leaves what the store stood for when the batch began, or what follows it
  pub any_moment : (a : AgentSeen) → IsSeen old before a → a.up ≡ true → before.tells ≡ true
      → LeavesOnly before after (IsBeforeOrAfter old.memory.rules old.journal.digest a a)
  pub rules : KeepsOptions old new
  pub device : OutcomeDevice calls result before after
  -- where memory is wanting no call is made, and what is due stays
  pub spares : result ≡ NoMemory → IsIdle old before new after
  -- with nothing held no checkpoint is due afterwards
  pub tidy : old.held ≡ [] → IsTidy result new
