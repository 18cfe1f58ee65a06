-- What a run of lines writes and leaves, and what each ending means.
-- A clause on bytes speaks of a sink that tells its bytes; one that tells none has `None`.
-- Source: none; these are the words of the promise.
use Rattle.std.specs.Prelude.{◌≡◌, ◌≢◌, ◌⊎◌, ℕ, true, false, List, [], ◌++◌, Option, Some}
use Rattle.unwinding.specs.Admissible.{History, KeepsAcknowledged, KeepsTried}
use Rattle.agent_base.specs.Streams.{Takes, TakesPrefix}
use Rattle.disk_model.specs.Disk.{View}
use Rattle.journal.specs.Region.{StandsForState}
use Rattle.suffix_list.specs.ListText.{RuleList}
use Rattle.suffix_list.specs.Suffix.{Rule}
use Rattle.script_actions.specs.Action.{PlainAction, PlainStep}
use Rattle.agent_model.specs.TheMachine.{machine}
use Rattle.durable_model.specs.Histories.{AgentOpening}
use Rattle.durable_model.specs.Keeping.{AgentDurable, durable_of}
use Rattle.durable_model.specs.Migrate.{IsUnder}
use Rattle.durable_model.specs.Saved.{Saved, nothing_saved}
use Rattle.row_store.specs.Bodies as bodies
use Rattle.printed_model.specs.Histories.{EndsDown, EndsUp, IsHistoryOf, history_text}
use Rattle.printed_model.specs.Left.{IsLeft, end_epoch, end_world}
use Rattle.store_runs.specs.declared.ending.Ending.{Ending}
use Rattle.store_runs.specs.declared.ending.Ending.TheVariants.{Done, Device, Store, Write, Memory}

-- ---- the disk

-- no call of a disk can fail: the power is on, and no cut is to come
abbrev pub HasNoCuts : View → Type 0
HasNoCuts view = (view.off ≡ false) × (view.cuts ≡ Some [])

-- ---- the history of a run

-- A durable state that a history leaves whose run had this rest of its lines. What waits for its
-- batch is committed by itself behind the last line alone: where lines are left, the store has what
-- was acknowledged, or a whole batch more that met a fault.
pub record IsLeftWith (rules : List Rule) (batch : ℕ) (opening : AgentOpening)
    (rest : List PlainStep) (history : History PlainAction) (d : AgentDurable) : Type 0 where
  pub left : IsLeft rules batch opening history d
  pub whole : (rest ≡ [] → ⊥)
      → KeepsAcknowledged (machine rules) (end_world rules opening history)
      (end_epoch history left.kept)
      ⊎ KeepsTried (machine rules) batch (end_world rules opening history)
      (end_epoch history left.kept)

-- each of these images is a store under the list, and stands for a durable state, one under the
-- list, that the history leaves, whose run had this rest of its lines
abbrev pub LeavesHistory : RuleList → ℕ → AgentOpening → (images : List ℕ → Type 0)
    → (rest : List PlainStep) → History PlainAction → Type 0
LeavesHistory list batch opening images rest history =
    (file : List ℕ) → images file
    → (d : Saved) × (last : ℕ)
    × StandsForState bodies.Takes nothing_saved list.digest file d last
    × IsUnder list.rules d
    × IsLeftWith list.rules batch opening rest history (durable_of d)

-- all lines ran: there is a history of exactly these lines, the sink took its text, and it leaves
-- what is said of it
pub record Ran (rules : List Rule) (batch : ℕ) (opening : AgentOpening) (NoCuts : Type 0)
    (steps : List PlainStep) (before after : Option (List ℕ))
    (Left : (rest : List PlainStep) → History PlainAction → Type 0) : Type 0 where
  pub history : History PlainAction
  pub is : IsHistoryOf rules batch opening NoCuts steps history
  pub text : Takes before after (history_text rules opening history)
  pub left : Left [] history

-- the run was stopped: there is a history of the first lines, the sink took a part of its text from
-- its start, and it leaves what is said of it. Lines that wait for their batch are committed by
-- themselves behind the last line alone.
pub record Stopped (rules : List Rule) (batch : ℕ) (opening : AgentOpening) (NoCuts : Type 0)
    (steps : List PlainStep) (before after : Option (List ℕ))
    (Left : (rest : List PlainStep) → History PlainAction → Type 0) : Type 0 where
  pub front : List PlainStep
  pub rest : List PlainStep
  pub parts : steps ≡ front ++ rest
  pub history : History PlainAction
  pub is : IsHistoryOf rules batch opening NoCuts front history
  pub whole : history.committed ≡ true → rest ≡ []
  pub text : TakesPrefix before after (history_text rules opening history)
  pub left : Left rest history

-- ---- endings

-- at the end the agent was down; or it was up, and the checkpoint behind the last commit met a
-- fault, where checkpoints are made at all
abbrev pub EndsAtFault : (checkpoint : ℕ) → History PlainAction → Type 0
EndsAtFault checkpoint history = EndsDown history ⊎ ((checkpoint ≢ 0) × EndsUp history)

-- What the sink took of lines whose run over an opened agent ended so, and what their history
-- leaves, in batches of so many lines, with a checkpoint after so many durable changes. At `Done`
-- the agent was up at the end, and at `Device` it was down, or its last checkpoint met a fault.
-- `Device` comes only of a disk with cuts. A store that an agent opened is never refused again.
abbrev pub WritesLines : Ending → List Rule → (batch checkpoint : ℕ) → AgentOpening → Type 0
    → List PlainStep → (before after : Option (List ℕ))
    → (Left : (rest : List PlainStep) → History PlainAction → Type 0) → Type 0
WritesLines Done rules batch checkpoint opening NoCuts steps before after Left =
    (ran : Ran rules batch opening NoCuts steps before after Left) × EndsUp ran.history
WritesLines Device rules batch checkpoint opening NoCuts steps before after Left =
    (ran : Ran rules batch opening NoCuts steps before after Left)
    × EndsAtFault checkpoint ran.history × (NoCuts → ⊥)
WritesLines (Store why) rules batch checkpoint opening NoCuts steps before after Left = ⊥
WritesLines Write rules batch checkpoint opening NoCuts steps before after Left =
    Stopped rules batch opening NoCuts steps before after Left
WritesLines Memory rules batch checkpoint opening NoCuts steps before after Left =
    Stopped rules batch opening NoCuts steps before after Left
