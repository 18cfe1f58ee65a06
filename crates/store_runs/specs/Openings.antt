-- Where a run over an agent begins, and what it leaves of the agent.
-- Source: none; these are the words of the general law.
use Rattle.std.specs.Prelude.{◌≡◌, ℕ, ◌+◌, ◌<◌, List, true}
use Rattle.unwinding.specs.Course.{AtBase}
use Rattle.unwinding.specs.CourseSteps.{reopened}
use Rattle.disk_model.specs.Disk.{View}
use Rattle.suffix_list.specs.Suffix.{Rule}
use Rattle.agent_model.specs.TheMachine.{machine}
use Rattle.durable_model.specs.Histories.{AgentOpening}
use Rattle.durable_model.specs.Keeping.{keeping}
use Rattle.agent_core.specs.AgentView.{AgentView, may_of}
use Rattle.agent_core.specs.Calls.{checkpoint_calls}
use Rattle.agent_core.specs.Seen.{AgentSeen, IsSeen}

-- what an agent stands for that was just opened
abbrev pub just_opened : List Rule → AgentOpening → AgentSeen
just_opened rules opening = reopened (machine rules) keeping opening.rest opening.state

-- an agent was just opened so: a restart would find what it was opened with
pub record IsJustOpened {D : Type 0} (agent : AgentView D) (view : View) (opening : AgentOpening)
    : Type 0 where
  pub batch : 0 < agent.batch
  pub seen : IsSeen agent view (just_opened agent.memory.rules opening)
  pub base : AtBase (just_opened agent.memory.rules opening).base (may_of agent view)

-- the same over a disk that tells its contents
pub record IsOpenedAt {D : Type 0} (agent : AgentView D) (view : View) (opening : AgentOpening)
    : Type 0 where
  pub tells : view.tells ≡ true
  pub just : IsJustOpened agent view opening

-- how many changing calls were made, or are due, when an agent was just opened
abbrev pub calls_before : {D : Type 0} → AgentView D → View → ℕ
calls_before agent view = view.changing + checkpoint_calls agent

-- a run changes neither the list nor the length of a batch, nor when a checkpoint is due, and the
-- disk goes on telling
pub record GoesOn {D : Type 0} (tell : D → View) (old new : AgentView D) : Type 0 where
  pub rules : new.memory.rules ≡ old.memory.rules
  pub digest : new.journal.digest ≡ old.journal.digest
  pub batch : new.batch ≡ old.batch
  pub checkpoint : new.checkpoint ≡ old.checkpoint
  pub tells : (tell new.disk).tells ≡ (tell old.disk).tells
