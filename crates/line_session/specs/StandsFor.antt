-- The history and the text that a session stands for.
-- Source: none; these are the words of the general law.
-- Our own choice: each line is a batch of its own, so that none waits for its reply.
use Rattle.std.specs.Prelude.{◌≡◌, ℕ, ◌+◌, ◌<◌, ◌^◌, List, [], ◌∷◌, ◌++◌, length}
use Rattle.unwinding.specs.Course.{Course, course_steps}
use Rattle.disk_model.specs.Disk.{View}
use Rattle.script_actions.specs.Action.{PlainAction, PlainStep}
use Rattle.durable_model.specs.Histories.{AgentOpening}
use Rattle.agent_core.specs.AgentView.{AgentView, may_of}
use Rattle.agent_core.specs.Seen.{AgentSeen, IsSeen}
use Rattle.store_runs.specs.Calls.{ToldAt}
use Rattle.store_runs.specs.Courses.{On, text_on}
use Rattle.store_runs.specs.Moments.{AnyMoment}
use Rattle.store_runs.specs.Openings.{GoesOn}
use Rattle.line_session.specs.SessionView.{SessionView}

-- Since an opening these lines ran, and this is the text of their replies: the agent stands where
-- a course of the lines does, of which the text is printed.
pub record StandsFor {D : Type 0} (tell : D → View) (session : SessionView D)
    (opening : AgentOpening) (steps : List PlainStep) (text : List ℕ) : Type 0 where
  pub one : session.agent.batch ≡ 1
  pub seen : AgentSeen
  pub stands : IsSeen session.agent (tell session.agent.disk) seen
  pub course : Course PlainAction
  pub on : On session.agent.memory.rules session.agent.batch opening course seen
      (may_of session.agent (tell session.agent.disk))
  pub lines : course_steps course ≡ steps
  pub replies : text_on session.agent.memory.rules opening course ≡ text

-- what is known of these steps: where one opens the store again, over a disk that tells its
-- contents alone
abbrev pub AreTold : View → List PlainStep → Type 0
AreTold view [] = Unit {0}
AreTold view (step ∷ more) = ToldAt step view × AreTold view more

-- A call of a session, asked for these steps, ran those and gave this text. The session stands for
-- the history with them behind it, and the text with that behind it. Of fewer than 2^64 lines.
pub record GoesBy {D : Type 0} (tell : D → View) (old new : SessionView D)
    (asked ran : List PlainStep) (given : List ℕ) : Type 0 where
  pub goes_on : GoesOn tell old.agent new.agent
  pub means : (opening : AgentOpening) (steps : List PlainStep) (text : List ℕ)
      → StandsFor tell old opening steps text → length steps + 2 < 2 ^ 64
      → AreTold (tell old.agent.disk) asked
      → StandsFor tell new opening (steps ++ ran) (text ++ given)

-- at the moments of a line that ran, what a cut leaves is what it leaves of an agent's
abbrev pub LineMoments : {D : Type 0} → (tell : D → View) → (old new : AgentView D)
    → (asked : List PlainStep) → Type 0
LineMoments tell old new [] = ⊥
LineMoments tell old new (step ∷ more) = AnyMoment tell old new step
