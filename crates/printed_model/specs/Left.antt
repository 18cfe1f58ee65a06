-- What a history leaves: the durable states that its store may stand for once the run has ended.
-- Source: none; these are the words of the promise.
-- Our own choice: a commit that met a fault may have reached the store whole, or not at all. So
-- the store has a prefix of the durable changes of the run, and in it every change of a line whose
-- reply was given out.
use Rattle.std.specs.Prelude.{◌≡◌, ◌⊎◌, ℕ, List, [], length}
use Rattle.unwinding.specs.Admissible.{History, KeepsAcknowledged, KeepsTried, opening_after}
use Rattle.unwinding.specs.Durable.{restarted}
use Rattle.unwinding.specs.Epochs.{Epoch, all_changes, next_durable}
use Rattle.suffix_list.specs.Suffix.{Rule}
use Rattle.script_actions.specs.Action.{PlainAction}
use Rattle.agent_model.specs.Lines.{AgentWorld}
use Rattle.agent_model.specs.TheMachine.{machine}
use Rattle.durable_model.specs.Histories.{AgentOpening}
use Rattle.durable_model.specs.Keeping.{AgentDurable, keeping}

-- where the last epoch of a history began
abbrev pub end_opening : List Rule → AgentOpening → History PlainAction → AgentOpening
end_opening rules opening history = opening_after (machine rules) keeping opening history.closed

-- the world that it began with
abbrev pub end_world : List Rule → AgentOpening → History PlainAction → AgentWorld
end_world rules opening history =
    let at = end_opening rules opening history in
    restarted keeping at.rest at.state

-- the last epoch, of whose durable changes the store has the first so many
abbrev pub end_epoch : History PlainAction → ℕ → Epoch PlainAction
end_epoch history kept =
    record {
      executed = history.open_end.epoch.executed;
      interrupted = history.open_end.epoch.interrupted;
      acknowledged = history.open_end.epoch.acknowledged;
      kept = kept;
    }

-- no line was answered `down`, and the store has the durable changes of all executed lines: the
-- commit at the end met a fault
abbrev pub KeepsExecuted : List Rule → AgentOpening → History PlainAction → ℕ → Type 0
KeepsExecuted rules opening history kept =
    (history.open_end.downs ≡ [])
    × (kept ≡ length (all_changes (machine rules) (end_world rules opening history)
    history.open_end.epoch.executed))

-- how many durable changes of the last epoch the store may have: those of the acknowledged lines,
-- or, where the run ended before a commit was known, those of all lines that were tried: the
-- commit of the interrupted line's batch, or the one at the end
abbrev pub MayHave : List Rule → ℕ → AgentOpening → History PlainAction → ℕ → Type 0
MayHave rules batch opening history kept =
    KeepsAcknowledged (machine rules) (end_world rules opening history) (end_epoch history kept)
    ⊎ (KeepsTried (machine rules) batch (end_world rules opening history) (end_epoch history kept)
    ⊎ KeepsExecuted rules opening history kept)

-- a durable state that a history leaves: that after the first so many durable changes
pub record IsLeft (rules : List Rule) (batch : ℕ) (opening : AgentOpening)
    (history : History PlainAction) (d : AgentDurable) : Type 0 where
  pub kept : ℕ
  pub may : MayHave rules batch opening history kept
  pub state :
      d
      ≡ next_durable (machine rules) keeping (end_world rules opening history)
      (end_opening rules opening history).state (end_epoch history kept)
