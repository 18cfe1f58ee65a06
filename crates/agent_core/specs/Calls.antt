-- How many changing calls of the disk a call of an agent makes, and where one of them failed.
-- Source: none.
-- Our own choice: the numbers of calls are those of a commit and of a checkpoint of the journal.
use Rattle.std.specs.Prelude.{◌≡◌, ◌⊎◌, ℕ, ◌+◌, ◌≤◌, List, Result, Some, [], ◌∷◌, IsErrOf, OnOk, false}
use Rattle.std.specs.Prelude.{if◌then◌else◌}
use Rattle.agent_base.specs.Counts.{Rose}
use Rattle.disk_model.specs.Disk.{View, HasFailed, IsNextCut, WasOff}
use Rattle.journal.specs.Opening.{HasNoFault}
use Rattle.journal.specs.declared.open_fault.OpenFault.{OpenFault}
use Rattle.journal.specs.declared.open_fault.OpenFault.TheVariants as fault
use Rattle.reply_lines.specs.Reply.{PlainReply}
use Rattle.agent_core.specs.AgentView.{AgentView, is_due}
use Rattle.agent_core.specs.declared.agent.Power.{Power}
use Rattle.agent_core.specs.declared.agent.Power.TheVariants as power
use Rattle.agent_core.specs.declared.outcome.Outcome.{Outcome}
use Rattle.agent_core.specs.declared.outcome.Outcome.TheVariants.{Replies, Down, NoMemory}

-- how many changing calls a checkpoint makes at most, where one is due; else none is made
abbrev pub checkpoint_calls : {D : Type 0} → AgentView D → ℕ
checkpoint_calls v = if is_due v.checkpoint v.journal then 7 else 0

-- those of a checkpoint where nothing is held, and else a commit's
abbrev pub calls_by : (held : List PlainReply) → (checkpoint : ℕ) → ℕ
calls_by [] checkpoint = checkpoint
calls_by (reply ∷ held) checkpoint = 4

-- how many changing calls a flush makes at most
abbrev pub flush_calls : {D : Type 0} → AgentView D → ℕ
flush_calls v = calls_by v.held (checkpoint_calls v)

-- where replies are given out, no checkpoint is due
abbrev pub IsTidy : {D : Type 0} → Outcome → AgentView D → Type 0
IsTidy (Replies given) v = is_due v.checkpoint v.journal ≡ false
IsTidy other v = Unit {0}

-- a line or a flush of an agent that is up answers `Down` exactly where a call of the disk failed;
-- so many changing calls are made at most, and none where memory is wanting
pub record OutcomeDevice (most : ℕ) (result : Outcome) (old new : View) : Type 0 where
  pub tells : new.tells ≡ old.tells
  pub later : old.changing ≤ new.changing
  pub calls : new.changing ≤ old.changing + most
  pub spared : result ≡ NoMemory → new.changing ≡ old.changing
  pub down : result ≡ Down → Rose old.faults new.faults × HasFailed old new
  pub others : (result ≡ Down → ⊥) → HasNoFault old new

-- no changing call was made, and a checkpoint is due exactly where one was
pub record IsIdle {D : Type 0} (old : AgentView D) (before : View) (new : AgentView D)
    (after : View) : Type 0 where
  pub calls : after.changing ≡ before.changing
  pub due : is_due new.checkpoint new.journal ≡ is_due old.checkpoint old.journal

-- whether an agent is up after a line or a flush that answered so: `Down` leaves it down, and every
-- other answer leaves it as it was
abbrev pub PowerAfter : Outcome → (old new : Power) → Type 0
PowerAfter Down old new = new ≡ power.Down
PowerAfter other old new = new ≡ old

-- a restart answers a device fault exactly where a call of the disk failed
pub record RestartDevice (result : Result ℕ OpenFault) (old new : View) : Type 0 where
  pub tells : new.tells ≡ old.tells
  pub counted : IsErrOf result fault.DeviceFault → Rose old.faults new.faults
  -- the disk's own restart found the power off still, or the call that failed was a cut
  pub failed : IsErrOf result fault.DeviceFault
      → WasOff old new ⊎ IsNextCut old.cuts new.cuts new.changing
  -- and where the disk tells its cuts, it was a cut
  pub cut : (cuts : List ℕ) → old.cuts ≡ Some cuts → IsErrOf result fault.DeviceFault
      → IsNextCut old.cuts new.cuts new.changing
  pub others : IsErrOf result fault.DeviceFault
      ⊎ ((new.faults ≡ old.faults) × (new.failures ≡ old.failures) × (new.cuts ≡ old.cuts))
  pub on : OnOk result (new.off ≡ false)
