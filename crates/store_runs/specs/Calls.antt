-- What each call of an agent makes of the courses that it stands on, and of faults.
-- Source: none; these are the words of the general law.
use Rattle.std.specs.Prelude.{◌≡◌, ◌⊎◌, ℕ, ◌+◌, ◌*◌, ◌<◌, ◌≤◌, min, Bool, true, false, List, []}
use Rattle.std.specs.Prelude.{◌∷◌, ◌++◌, Option, Some}
use Rattle.agent_base.specs.Counts.{Rose}
use Rattle.agent_base.specs.Streams.{Takes, TakesPrefix}
use Rattle.disk_model.specs.Disk.{IsNextCut, View}
use Rattle.unwinding.specs.Admissible.{Acts, Reopens}
use Rattle.journal.specs.Opening.{IsOfFile}
use Rattle.script_actions.specs.Action.{PlainStep}
use Rattle.agent_core.specs.AgentView.{AgentView, may_of}
use Rattle.agent_core.specs.Means.{Fits}
use Rattle.agent_core.specs.Seen.{AgentSeen, IsSeen}
use Rattle.store_runs.specs.Courses.{Steps, Watch}
use Rattle.store_runs.specs.CutCourses.{Moment, moment_of}
use Rattle.store_runs.specs.Runs.{HasNoCuts}
use Rattle.waiting_lines.specs.Waiting.{TakesFront}
use Rattle.store_runs.specs.declared.ending.Ending.{Ending}
use Rattle.store_runs.specs.declared.ending.Ending.TheVariants.{Store, Write, Memory}

-- no call of the disk can fail: the agent is up, the power is on, and no cut is to come
abbrev pub IsQuiet : AgentSeen → View → Type 0
IsQuiet a view = (a.up ≡ true) × (view.off ≡ false) × (view.cuts ≡ Some [])

-- a count of faults stays or rises
abbrev pub StaysOrRose : (before now : ℕ) → Type 0
StaysOrRose before now = (now ≡ before) ⊎ Rose before now

-- what is known of faults over a call, by what the disk told before it and tells now
abbrev pub over_call : {D : Type 0} → (tell : D → View) → AgentSeen → (old new : AgentView D)
    → (GoesOn : Type 0) → Watch
over_call tell a old new GoesOn =
    record {
      Quiet = IsQuiet a (tell old.disk);
      GoesOn = GoesOn;
      before = (tell old.disk).faults;
      now = (tell new.disk).faults;
      from = moment_of tell old;
      to = moment_of tell new;
    }

-- the same over a run so far
abbrev pub over_run : {D : Type 0} → (tell : D → View) → (old new : AgentView D)
    → (GoesOn : Type 0) → Watch
over_run tell old new GoesOn =
    record {
      Quiet = HasNoCuts (tell old.disk);
      GoesOn = GoesOn;
      before = (tell old.disk).faults;
      now = (tell new.disk).faults;
      from = moment_of tell old;
      to = moment_of tell new;
    }

-- how many changing calls follow at most from so many durable changes: a commit's, and those of the
-- checkpoint that is due behind it
abbrev pub spent : ℕ → ℕ
spent changes = 11 * min 1 changes

-- no call was cut, and as many were made and are due as follow from so many changes at most
pub record Pays (changes : ℕ) (from to : Moment) : Type 0 where
  pub cuts : to.cuts ≡ from.cuts
  pub off : to.off ≡ from.off
  pub later : from.calls ≤ to.calls
  pub most : to.calls + to.due ≤ from.calls + from.due + spent changes

-- the last of some calls was cut where the power was on, and as many were made as were due, or
-- follow from so many changes at most
pub record BreaksOff (changes : ℕ) (from to : Moment) : Type 0 where
  pub cut : from.off ≡ false → IsNextCut from.cuts to.cuts to.calls
  pub later : from.calls ≤ to.calls
  pub most : to.calls ≤ from.calls + from.due + spent changes

-- a restart opened the store: no call was cut, one was made, and a checkpoint may be due
pub record OpensAgain (from to : Moment) : Type 0 where
  pub cuts : to.cuts ≡ from.cuts
  pub off : to.off ≡ false
  pub later : from.calls ≤ to.calls
  pub most : to.calls + to.due ≤ from.calls + 8

-- a restart failed: its last call was cut, where cuts are told, and one was made at most
pub record FailsAgain (from to : Moment) : Type 0 where
  pub cut : (cuts : List ℕ) → from.cuts ≡ Some cuts → IsNextCut from.cuts to.cuts to.calls
  pub later : from.calls ≤ to.calls
  pub most : to.calls ≤ from.calls + 1

-- a call failed, or the agent was down before and nothing was called
abbrev pub Breaks : (up : Bool) → (changes : ℕ) → (from to : Moment) → Type 0
Breaks up changes from to = (up ≡ true → BreaksOff changes from to) × (up ≡ false → to ≡ from)

-- what a step is known of: a restart over a disk that tells its contents alone
abbrev pub ToldAt : PlainStep → View → Type 0
ToldAt (Acts l) view = Unit {0}
ToldAt Reopens view = view.tells ≡ true

-- where this is told, a call of an agent ran these lines, whose text is this; and it goes on, or
-- the run stops
abbrev pub Called : {D : Type 0} → (tell : D → View) → (old new : AgentView D) → (Told : Type 0)
    → (GoesOn : Type 0) → List PlainStep → List ℕ → Type 0
Called tell old new Told GoesOn ran text =
    Told → 0 < old.batch
    → (a : AgentSeen) → IsSeen old (tell old.disk) a → Fits a
    → (b : AgentSeen) × IsSeen new (tell new.disk) b
    × Steps old.memory.rules old.batch ran (over_call tell a old new GoesOn)
    a (may_of old (tell old.disk)) b (may_of new (tell new.disk)) text
    × (GoesOn → IsQuiet a (tell old.disk) → IsQuiet b (tell new.disk))

-- a line ran, and its text waits
abbrev pub Stepped : {D : Type 0} → (tell : D → View) → (old new : AgentView D) → PlainStep
    → (before now : List ℕ) → Type 0
Stepped tell old new step before now =
    (text : List ℕ) × (now ≡ before ++ text)
    × Called tell old new (ToldAt step (tell old.disk)) (Unit {0}) (step ∷ []) text

-- The run stops at a line. Where memory was wanting, the line may have run, and its text does not
-- wait. A disk that tells its contents has never a store that is refused, and a line that acts
-- opens none.
abbrev pub Stops : {D : Type 0} → (tell : D → View) → (old new : AgentView D) → PlainStep → Ending
    → Type 0
Stops tell old new step Memory =
    (ran : List PlainStep) × ((ran ≡ []) ⊎ (ran ≡ step ∷ []))
    × ((text : List ℕ) × Called tell old new (ToldAt step (tell old.disk)) ⊥ ran text)
Stops tell old new step (Store why) =
    IsOfFile why
    × (ToldAt step (tell old.disk) → (a : AgentSeen) → IsSeen old (tell old.disk) a → ⊥)
Stops tell old new step other = ⊥

-- ---- between two lines

-- Of what waited the sink took the front, and the agent stands where it stood. What waits now is
-- the rest.
abbrev pub Settled : {D : Type 0} → (tell : D → View) → (old new : AgentView D)
    → (before after : Option (List ℕ)) → (count later : ℕ) → (waiting rest : List ℕ) → Type 0
Settled tell old new before after count later waiting rest =
    TakesFront before after waiting rest × (later ≡ count)
    × Called tell old new (Unit {0}) (Unit {0}) [] []

-- The run stops between two lines. Writing what waited failed, and the agent is as it was; or all
-- of it was written, and memory was wanting for a checkpoint.
abbrev pub Unsettled : {D : Type 0} → (tell : D → View) → (old new : AgentView D)
    → (before after : Option (List ℕ)) → (count later : ℕ) → List ℕ → Ending → Type 0
Unsettled tell old new before after count later waiting Write =
    TakesPrefix before after waiting × Rose count later × (new ≡ old)
Unsettled tell old new before after count later waiting Memory =
    Takes before after waiting × (later ≡ count) × Called tell old new (Unit {0}) ⊥ [] []
Unsettled tell old new before after count later waiting other = ⊥
