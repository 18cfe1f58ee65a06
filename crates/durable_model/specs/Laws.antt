-- The laws of what is durable: row changes and restarts, seen at each site.
-- Source: none; they are about our own definitions.
use Rattle.std.specs.Prelude.{◌≡◌, ℕ, List, [], ◌∷◌}
use Rattle.unwinding.specs.World.{world_step}
use Rattle.unwinding.specs.Durable.{apply_changes, line_changes}
use Rattle.unwinding.specs.Facts.{DurableFacts, Facts, KeepingFacts}
use Rattle.unwinding.specs.Setting.{Setting}
use Rattle.unwinding.specs.Laws.{RestartProjects}
use Rattle.suffix_list.specs.Suffix.{Rule}
use Rattle.origin_site.specs.Site.{PlainSite}
use Rattle.script_actions.specs.Action.{PlainAction}
use Rattle.row_changes.specs.Change.{PlainChange}
use Rattle.agent_model.specs.CookieCells.{CookieCells, Cookies, Domain}
use Rattle.agent_model.specs.Partition.{Partition}
use Rattle.agent_model.specs.Effects.{SharedCells}
use Rattle.agent_model.specs.SiteEvent.{Answer, TimedEvent}
use Rattle.agent_model.specs.Lines.{AgentWorld, Rest}
use Rattle.agent_model.specs.TheMachine.{machine}
use Rattle.durable_model.specs.Saved.{IsValid, Saved, SiteRows}
use Rattle.durable_model.specs.RowEdits.{AllAreValid, after_all, after_change}
use Rattle.durable_model.specs.Keeping.{durable_of, keeping}
use Rattle.durable_model.specs.Sound.{IsSavedOf, IsSoundWorld, IsValidState}
use Rattle.durable_model.specs.Histories.{reopened_world}

-- the machine under a list of rules, with what is kept of it, as the general law takes it
abbrev pub setting : List Rule → Setting
setting rules =
    record {
      Site = PlainSite;
      Cell = Domain;
      Cells = SharedCells;
      Partition = Partition;
      Content = Cookies;
      Rest = Rest;
      Line = PlainAction;
      Event = TimedEvent;
      Reply = Answer;
      Change = PlainChange;
      KeptPartition = SiteRows;
      KeptCell = Cookies;
      KeptCells = CookieCells;
      machine = machine rules;
      keeping = keeping;
      IsSound = IsSoundWorld;
      IsValid = IsValidState;
    }

-- ---- what each line owes

-- What the general law asks of the machine, under every list of rules. Of the row changes of an
-- event it is three things: `other_partition`, that they leave what is kept at every other site;
-- `other_cell`, that they leave each cell which the event does not consult; and `new_partition`
-- with `new_cell`, that they make of what was kept what is kept afterwards.
pub record HasFacts : Type 0 where
  pub facts : (rules : List Rule) → Facts (machine rules) IsSoundWorld
  pub restarts : (rules : List Rule)
      → KeepingFacts (machine rules) keeping IsSoundWorld IsValidState
  pub durable : (rules : List Rule)
      → DurableFacts (machine rules) keeping IsSoundWorld IsValidState

-- ---- one state for all sites

-- a row change of the state of all sites is one of what each site has of it
abbrev pub ChangesProject : Type 0
ChangesProject = (d : Saved) (change : PlainChange)
    → durable_of (after_change d change) ≡ apply_changes keeping (change ∷ []) (durable_of d)

-- row changes keep a state valid
abbrev pub ChangesKeepValid : Type 0
ChangesKeepValid = (d : Saved) (change : PlainChange) → IsValid d → IsValid (after_change d change)

-- a valid state is what is kept of the world that a restart opens with it, which is sound
abbrev pub OpensKept : Type 0
OpensKept = (rules : List Rule) (now : ℕ) (d : Saved) → IsValid d
    → IsSoundWorld (reopened_world now d) × IsSavedOf rules (reopened_world now d) d

-- the durable state follows the world: the row changes of each line make of what was kept what is
-- kept afterwards
abbrev pub LinesKeep : Type 0
LinesKeep = (rules : List Rule) (world : AgentWorld) (line : PlainAction) (d : Saved)
    → IsSoundWorld world → IsSavedOf rules world d
    → IsSoundWorld (world_step (machine rules) world line)
    × IsSavedOf rules (world_step (machine rules) world line)
    (after_all d (line_changes (machine rules) world line))

-- each row change of a line is valid in the state before it, so that none is passed over
abbrev pub LinesAreValid : Type 0
LinesAreValid = (rules : List Rule) (world : AgentWorld) (line : PlainAction) (d : Saved)
    → IsSoundWorld world → IsSavedOf rules world d
    → AllAreValid d (line_changes (machine rules) world line)

-- a restart commutes with the projection to a site, under every list of rules
abbrev pub RestartsProject : Type 0
RestartsProject = (rules : List Rule) → RestartProjects (setting rules)
