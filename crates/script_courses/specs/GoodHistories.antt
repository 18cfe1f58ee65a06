-- The history of given lines over a new store on a disk without cuts. There is just one.
-- Source: none; these are the words of the promise.
-- Our own choice: a restart loses the lines that wait for their batch, and the end of the run
-- commits them.
use Rattle.std.specs.Prelude.{◌≡◌, ℕ, ◌*◌, ◌/◌, true, List, [], ◌∷◌, ◌++◌, None, length, take}
use Rattle.unwinding.specs.Admissible.{Acts, History, Reopens, Stretch, next_opening}
use Rattle.unwinding.specs.Durable.{restarted}
use Rattle.unwinding.specs.Epochs.{all_changes}
use Rattle.suffix_list.specs.Suffix.{Rule}
use Rattle.script_actions.specs.Action.{PlainAction, PlainStep}
use Rattle.agent_model.specs.TheMachine.{machine}
use Rattle.durable_model.specs.Histories.{AgentOpening}
use Rattle.durable_model.specs.Keeping.{keeping}
use Rattle.printed_model.specs.Histories.{EndsUp, IsHistoryOf, begins_at}

-- A history of these lines from this start, in batches of so many, in which no line is answered
-- `down`, and what waited at the end was committed.
pub record IsGood (rules : List Rule) (batch start : ℕ) (steps : List PlainStep)
    (history : History PlainAction) : Type 0 where
  pub runs : IsHistoryOf rules batch (begins_at start) (Unit {0}) steps history
  pub ends : EndsUp history

-- ---- as a function of the lines

-- an epoch of these lines, of which so many are acknowledged, and their durable changes kept
abbrev pub quiet_stretch : List Rule → AgentOpening → List PlainAction → (acknowledged : ℕ)
    → Stretch PlainAction
quiet_stretch rules opening lines acknowledged =
    let world = restarted keeping opening.rest opening.state in
    record {
      epoch = record {
        executed = lines;
        interrupted = None;
        acknowledged = acknowledged;
        kept = length (all_changes (machine rules) world (take acknowledged lines));
      };
      downs = [];
    }

-- an epoch that a restart ends: the lines of whole batches are acknowledged
abbrev pub reopened_stretch : List Rule → (batch : ℕ) → AgentOpening → List PlainAction
    → Stretch PlainAction
reopened_stretch rules batch opening lines =
    quiet_stretch rules opening lines (batch * (length lines / batch))

-- what follows an opening: these lines have run since then, and these steps are to come
abbrev pub history_from : List Rule → (batch : ℕ) → AgentOpening → (ran : List PlainAction)
    → List PlainStep → History PlainAction
history_from rules batch opening ran [] =
    record {
      closed = [];
      open_end = quiet_stretch rules opening ran (length ran);
      committed = true;
    }
history_from rules batch opening ran (Acts line ∷ steps) =
    history_from rules batch opening (ran ++ line ∷ []) steps
history_from rules batch opening ran (Reopens ∷ steps) =
    let here = reopened_stretch rules batch opening ran in
    let next = next_opening (machine rules) keeping opening here in
    let more = history_from rules batch next [] steps in
    record {
      closed = here ∷ more.closed;
      open_end = more.open_end;
      committed = more.committed;
    }

-- the history of given lines
unfoldable pub good_history : List Rule → (batch start : ℕ) → List PlainStep → History PlainAction
good_history rules batch start steps = history_from rules batch (begins_at start) [] steps

-- ---- laws

-- it is one
abbrev pub GivesGood : Type 0
GivesGood = (rules : List Rule) (batch start : ℕ) (steps : List PlainStep)
    → IsGood rules batch start steps (good_history rules batch start steps)

-- and there is no other
abbrev pub GivesTheOnly : Type 0
GivesTheOnly = (rules : List Rule) (batch start : ℕ) (steps : List PlainStep)
    (history : History PlainAction)
    → IsGood rules batch start steps history → history ≡ good_history rules batch start steps
