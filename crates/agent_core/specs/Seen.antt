-- What an agent over a disk stands for: a relation, for the state at the beginning of the open
-- batch is kept nowhere but in the store.
-- Source: none; these are the words of the general law.
use Rattle.std.specs.Prelude.{◌≡◌, ◌↔◌, ℕ, ◌+◌, ◌<◌, ◌^◌, true, List, map, length}
use Rattle.std.specs.List.{All}
use Rattle.unwinding.specs.Course.{Seen}
use Rattle.disk_model.specs.Disk.{View}
use Rattle.suffix_list.specs.Suffix.{Rule}
use Rattle.origin_site.specs.Site.{PlainSite}
use Rattle.row_changes.specs.Change.{PlainChange}
use Rattle.row_changes.specs.Laws.{IsWritable}
use Rattle.row_changes.specs.Spelled.{IsSpelledUnder}
use Rattle.agent_model.specs.Effects.{SharedCells}
use Rattle.agent_model.specs.Isolation.{printed}
use Rattle.agent_model.specs.Lines.{AgentWorld, Rest}
use Rattle.agent_model.specs.Partition.{Partition}
use Rattle.agent_model.specs.SiteEvent.{Answer}
use Rattle.durable_model.specs.Keeping.{AgentDurable, durable_of}
use Rattle.durable_model.specs.RowEdits.{AllAreValid, after_all}
use Rattle.durable_model.specs.Migrate.{IsUnder}
use Rattle.durable_model.specs.Saved.{IsValid, Saved}
use Rattle.durable_model.specs.Sound.{IsSavedOf, IsSoundWorld}
use Rattle.spelled_model.specs.Worlds.{IsReadWorld}
use Rattle.row_store.specs.Laws.{IsSpelledStateUnder, IsStorable}
use Rattle.row_opening.specs.Opened.{IsAtBase, LeavesUnder}
use Rattle.agent_memory.specs.AgentState.{world_of}
use Rattle.agent_memory.specs.Written.{AgentChange, body_of}
use Rattle.agent_core.specs.AgentView.{AgentView, list_of, since_opening}
use Rattle.agent_core.specs.declared.agent.Power.TheVariants.{Up}

-- what agents stand for, in the words of the general law: the world, what the store stands for,
-- the durable changes and the replies of the open batch, and whether the agent is up
abbrev pub AgentSeen : Type 0
AgentSeen = Seen PlainSite SharedCells Partition Rest Answer PlainChange AgentDurable

-- the open batch: its body is its durable changes, each can be read back, and each row change is
-- one under the list, and valid in the state before it, so that they lead to what is kept of the
-- world
pub record IsBatch (rules : List Rule) (base : Saved) (pending : List AgentChange) (body : List ℕ)
    (world : AgentWorld) : Type 0 where
  pub bytes : body ≡ body_of pending
  pub writable : All (λ one. IsWritable one.changes) pending
  pub under : All (λ one. All (IsSpelledUnder rules) one.changes) pending
  pub valid : AllAreValid base pending
  pub saved : IsSavedOf rules world (after_all base pending)

-- An agent that is up stands for this. The number of changes since the opening does not wrap, and a
-- snapshot can be made of what the store stands for, which is a state under the agent's list.
pub record IsUp {D : Type 0} (v : AgentView D) (view : View) (a : AgentSeen) : Type 0 where
  pub world : a.world ≡ world_of v.memory
  pub sound : IsSoundWorld a.world
  pub read : IsReadWorld v.memory.rules a.world
  pub held : map printed a.held ≡ v.held
  pub changes : v.changes ≡ length a.pending
  pub count : a.base.count ≡ since_opening v.journal.changes v.opened
  pub fits : a.base.count + length a.pending < 2 ^ 64
  pub base : Saved
  pub valid : IsValid base
  pub storable : IsStorable base
  pub under : IsUnder v.memory.rules base
  pub spelled : IsSpelledStateUnder v.memory.rules base
  pub state : a.base.state ≡ durable_of base
  pub batch : IsBatch v.memory.rules base a.pending v.body a.world
  pub store : IsAtBase v.journal view base

-- An agent whose disk tells this stands for that. Of one that is not up the clock is told, and that
-- a restart finds a store of a state under its list. Where it is up, less lines are held than a
-- batch has.
pub record IsSeen {D : Type 0} (v : AgentView D) (view : View) (a : AgentSeen) : Type 0 where
  pub up : (a.up ≡ true) ↔ (v.power ≡ Up)
  pub clock : a.world.rest.now ≡ v.now
  pub stores : LeavesUnder (list_of v) view
  pub standing : a.up ≡ true → IsUp v view a
  pub short : a.up ≡ true → length v.held < v.batch
