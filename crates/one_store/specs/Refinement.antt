-- One store for all sites is the partitions of the world, laid over each other: what a line makes
-- of the store, seen at each site, is what the world makes of that site's partition.
use Rattle.std.specs.Prelude.{◌≡◌, ℕ, List, [], ◌∷◌}
use Rattle.unwinding.specs.Durable.{line_changes}
use Rattle.unwinding.specs.World.{SiteReply, line_reply, world_step}
use Rattle.suffix_list.specs.Suffix.{Rule}
use Rattle.origin_site.specs.Site.{PlainSite}
use Rattle.script_actions.specs.Action.{PlainAction}
use Rattle.agent_model.specs.Lines.{AgentWorld}
use Rattle.agent_model.specs.SiteEvent.{Answer}
use Rattle.agent_model.specs.TheMachine.{machine}
use Rattle.agent_model.specs.Isolation.{replies_to}
use Rattle.one_store.specs.WholeWorld.{IsPlaced, whole_world}
use Rattle.one_store.specs.Store.{Store, Step, empty_store, store_step}

-- the world that a store stands for: each site has its part of what is held
abbrev pub world_of : Store → AgentWorld
world_of store = whole_world store.now store.places store.cells store.held

-- a step of the store is the line's step of the world, with its reply and its durable change; and
-- each tab is where its top document is
pub record IsStep (rules : List Rule) (store : Store) (line : PlainAction) (step : Step) : Type 0
  where
    pub world : world_step (machine rules) (world_of store) line ≡ world_of step.store
    pub reply : line_reply (machine rules) (world_of store) line ≡ step.reply
    pub changes : line_changes (machine rules) (world_of store) line ≡ step.changes
    pub places : IsPlaced step.store.places step.store.held

-- every line, on every store whose tabs are where their top documents are
abbrev pub AreSteps : Type 0
AreSteps = (rules : List Rule) (store : Store) (line : PlainAction)
    → IsPlaced store.places store.held → IsStep rules store line (store_step rules store line)

-- the replies to lines, in their order
unfoldable pub store_replies : List Rule → Store → List PlainAction
    → List (SiteReply PlainSite Answer)
store_replies rules store [] = []
store_replies rules store (line ∷ lines) =
    let step = store_step rules store line in
    step.reply ∷ store_replies rules step.store lines

-- the replies of a run are those of one store
abbrev pub AreReplies : Type 0
AreReplies = (rules : List Rule) (start : ℕ) (lines : List PlainAction)
    → replies_to rules start lines ≡ store_replies rules (empty_store start) lines
