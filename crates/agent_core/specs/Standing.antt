-- What each agent keeps, whatever it stands for, and what the commit of its open batch makes of it.
-- Source: none.
use Rattle.std.specs.Prelude.{◌≡◌, ◌⊎◌, ℕ, ◌≤◌, List, [], map, length}
use Rattle.unwinding.specs.Course.{AtBase, IsAt}
use Rattle.disk_model.specs.Disk.{View}
use Rattle.journal.specs.Journal.{JournalView}
use Rattle.journal.specs.declared.open_fault.OpenFault.{OpenFault}
use Rattle.journal.specs.declared.open_fault.OpenFault.TheVariants as fault
use Rattle.access_grants.specs.Grant.{PlainGrants}
use Rattle.suffix_list.specs.ListText.{RuleList}
use Rattle.suffix_list.specs.Suffix.{Rule}
use Rattle.reply_lines.specs.Plain.{reply_of}
use Rattle.agent_model.specs.Isolation.{printed}
use Rattle.durable_model.specs.Keeping.{AgentDurable, durable_of}
use Rattle.durable_model.specs.Migrate.{IsUnder}
use Rattle.durable_model.specs.Saved.{Saved}
use Rattle.row_store.specs.Kept.{kept_of}
use Rattle.row_store.specs.Laws.{IsSpelledStateUnder, IsStorable}
use Rattle.row_store.specs.Stored.{saved_in}
use Rattle.row_opening.specs.Opened.{IsAtBase, LeavesUnder}
use Rattle.agent_memory.specs.AgentState.{AgentState}
use Rattle.agent_core.specs.AgentView.{AgentView, list_of, longest_batch}
use Rattle.agent_core.specs.Batch.{PlainBatch}
use Rattle.open_store.specs.Standing.{IsReady}
use Rattle.agent_core.specs.Means.{AgentMay, after_commit}
use Rattle.agent_core.specs.Seen.{AgentSeen, IsBatch, IsSeen}
use Rattle.agent_core.specs.declared.agent.Power.{Power}
use Rattle.agent_core.specs.declared.agent.Power.TheVariants.{Down, Spoilt, Up}
use Rattle.agent_core.specs.declared.outcome.Outcome.{Outcome}
use Rattle.agent_core.specs.declared.outcome.Outcome.TheVariants as outcome

-- its memory and its store are under its list, and its batches have at least one line and not too
-- many; where it is up a call of its store may follow
pub record IsStanding (list : RuleList) (memory : AgentState) (batch : PlainBatch) (power : Power)
    (journal : JournalView) (view : View) : Type 0 where
  pub rules : memory.rules ≡ list.rules
  pub digest : journal.digest ≡ list.digest
  pub least : 1 ≤ batch.size
  pub most : batch.size ≤ longest_batch
  pub ready : power ≡ Up → IsReady journal view

-- no line waits, so that there is no durable change
pub record HasNone {D : Type 0} (v : AgentView D) : Type 0 where
  pub held : v.held ≡ []
  pub changes : v.changes ≡ 0

-- what outlives a restart of what is in memory
abbrev pub kept_in : AgentState → Saved
kept_in memory =
    let grants : PlainGrants = record { rows = memory.grants; spare = 0 } in
    kept_of (saved_in memory.entries memory.cookies grants)

-- the open batch leads on from what the store stands for, a state under the list
pub record IsHeld {D : Type 0} (v : AgentView D) (view : View) (a : AgentSeen) : Type 0 where
  pub changes : v.changes ≡ length a.pending
  pub base : Saved
  pub storable : IsStorable base
  pub under : IsUnder v.memory.rules base
  pub spelled : IsSpelledStateUnder v.memory.rules base
  pub state : a.base.state ≡ durable_of base
  pub batch : IsBatch v.memory.rules base a.pending v.body a.world
  pub store : IsAtBase v.journal view base

-- the commit of an open batch, from what the agent stands for when its last line has run, and from
-- the clock that it told before
abbrev pub Finishes : {D : Type 0} → List Rule → ℕ → AgentSeen → AgentMay → AgentView D → View
    → AgentMay → Outcome → Type 0
Finishes rules now ran may new after may' (outcome.Replies given) =
    (map reply_of given.items ≡ map printed ran.held)
    × IsSeen new after (after_commit rules ran) × AtBase (after_commit rules ran).base may'
Finishes rules now ran may new after may' outcome.Down =
    (new.power ≡ Down) × (new.now ≡ now)
    × LeavesUnder (list_of new) after
    × ((d : AgentDurable) (n : ℕ) → may' d n → may d n ⊎ IsAt (after_commit rules ran).base d n)
Finishes rules now ran may new after may' outcome.Held = ⊥
Finishes rules now ran may new after may' outcome.NoMemory = ⊥

-- whether an agent is up after an opening that was refused so: it never is
abbrev pub power_of : OpenFault → Power
power_of fault.DeviceFault = Down
power_of (fault.NotAStore offset) = Spoilt
power_of (fault.TooLarge len) = Spoilt
power_of fault.NoMemory = Spoilt
