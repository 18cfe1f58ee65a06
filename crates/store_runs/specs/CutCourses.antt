-- The faults that a course shows, and the cuts that came until then.
-- Source: none; these are the words of the general law.
use Rattle.std.specs.Prelude.{◌≡◌, ℕ, ◌+◌, ◌≤◌, Bool, true, false, List, [], ◌∷◌, ◌++◌, length}
use Rattle.std.specs.Prelude.{Option, Some}
use Rattle.unwinding.specs.Course.{Course, stretch_of}
use Rattle.unwinding.specs.CourseSteps.{last_opening}
use Rattle.disk_model.specs.Disk.{View}
use Rattle.suffix_list.specs.Suffix.{Rule}
use Rattle.script_actions.specs.Action.{PlainAction, PlainStep}
use Rattle.agent_model.specs.TheMachine.{machine}
use Rattle.durable_model.specs.Histories.{AgentOpening}
use Rattle.durable_model.specs.Keeping.{keeping}
use Rattle.agent_core.specs.AgentView.{AgentView}
use Rattle.agent_core.specs.Calls.{checkpoint_calls}
use Rattle.agent_core.specs.Seen.{AgentSeen}
use Rattle.store_runs.specs.CutBounds.{MeetsCuts, Place, busy_closed, busy_epoch, busy_lines}
use Rattle.store_runs.specs.CutBounds.{calls_until, closed_places, epoch_places, place}
use Rattle.store_runs.specs.CutBounds.{restarts_closed}
use Rattle.store_runs.specs.Faults.{closed_faults, epoch_faults, restart_faults}

-- ---- faults

-- the faults that it shows so far
unfoldable pub faults_on : Course PlainAction → ℕ
faults_on r = closed_faults r.closed + epoch_faults r.downs

-- the fault that no line shows yet, by whether the agent is up: it is down, and no line of the open
-- epoch was answered `down`, for a checkpoint met the fault
abbrev pub unshown : Bool → List PlainStep → ℕ
unshown true downs = 0
unshown false [] = 1
unshown false (d ∷ downs) = 0

-- the faults that it shows so far, and that one
unfoldable pub met_on : AgentSeen → Course PlainAction → ℕ
met_on a r = faults_on r + unshown a.up r.downs

-- ---- cuts

-- what is told at a moment of a run: the numbers of the cuts to come, the changing calls that were
-- made, whether the power is off, and how many calls a checkpoint makes that is due
pub record Moment : Type 0 where
  pub cuts : Option (List ℕ)
  pub calls : ℕ
  pub off : Bool
  pub due : ℕ

-- that of an agent
abbrev pub moment_of : {D : Type 0} → (tell : D → View) → AgentView D → Moment
moment_of tell v =
    record {
      cuts = (tell v.disk).cuts;
      calls = (tell v.disk).changing;
      off = (tell v.disk).off;
      due = checkpoint_calls v;
    }

-- how many calls are due: none where the agent is not up
abbrev pub calls_due : (up : Bool) → (due : ℕ) → ℕ
calls_due true due = due
calls_due false due = 0

-- how many batches with a durable change there are so far: those that were committed, or, where the
-- agent is not up, those that were tried
unfoldable pub busy_on : List Rule → ℕ → AgentOpening → (up : Bool) → Course PlainAction → ℕ
busy_on rules batch x true r =
    busy_closed rules batch x r.closed
    + busy_lines rules batch (last_opening (machine rules) keeping x r) r.answered
busy_on rules batch x false r =
    busy_closed rules batch x r.closed
    + busy_epoch rules batch (last_opening (machine rules) keeping x r) (stretch_of r 0).epoch

-- how many restarts
unfoldable pub restarts_on : Course PlainAction → ℕ
restarts_on r = restarts_closed r.closed + restart_faults r.downs

-- where the faults that it shows so far show
unfoldable pub places_on : List Rule → ℕ → AgentOpening → Course PlainAction → List Place
places_on rules batch x r =
    closed_places rules batch 0 0 x r.closed
    ++ epoch_places (busy_on rules batch x false r) (restarts_closed r.closed) r.downs

-- so many numbers are at most so great
abbrev pub AreUpTo : (most : ℕ) → List ℕ → Type 0
AreUpTo most [] = Unit {0}
AreUpTo most (n ∷ numbers) = (n ≤ most) × AreUpTo most numbers

-- Of the cuts that were told before the first line some came: at least as many as the faults that
-- were met, in calls that were made by now, and each fault that is shown in time. All calls so far,
-- and those that are due, are within the bound of what ran.
pub record KeepsCuts (rules : List Rule) (batch : ℕ) (x : AgentOpening) (before : ℕ)
    (cuts : List ℕ) (a : AgentSeen) (r : Course PlainAction) (at : Moment) : Type 0 where
  pub came : List ℕ
  pub rest : List ℕ
  pub parts : cuts ≡ came ++ rest
  pub told : at.cuts ≡ Some rest
  pub on : a.up ≡ true → at.off ≡ false
  pub met : met_on a r ≤ length came
  pub shown : MeetsCuts before came (places_on rules batch x r)
  pub made : AreUpTo at.calls came
  pub within : at.calls + calls_due a.up at.due
      ≤ calls_until before (place (busy_on rules batch x a.up r) (restarts_on r))
