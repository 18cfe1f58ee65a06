-- The faults that a history shows.
-- Source: none; these are the words of the promise.
-- Our own choice: an epoch met a fault where a line of it was answered `down`, or where it is the
-- last one and the agent is down at the end. It is one fault, however many of its lines are
-- answered `down`; none where the first of these is a restart, for each restart that is answered
-- `down` is a fault of its own.
use Rattle.std.specs.Prelude.{ℕ, ◌+◌, ◌-◌, ◌^◌, ◌≤◌, min, List, [], ◌∷◌}
use Rattle.unwinding.specs.Admissible.{Acts, History, Reopens, Stretch}
use Rattle.script_actions.specs.Action.{PlainAction, PlainStep}
use Rattle.store_runs.specs.declared.ending.Ending.{Ending}
use Rattle.store_runs.specs.declared.ending.Ending.TheVariants.{Device}

-- ---- how many there are

-- by the lines of an epoch that are answered `down`, in their order: the fault of the epoch itself
abbrev pub first_fault : List PlainStep → ℕ
first_fault [] = 0
first_fault (Acts l ∷ more) = 1
first_fault (Reopens ∷ more) = 0

-- those of restarts
abbrev pub restart_faults : List PlainStep → ℕ
restart_faults [] = 0
restart_faults (Acts l ∷ more) = restart_faults more
restart_faults (Reopens ∷ more) = restart_faults more + 1

-- and both
abbrev pub epoch_faults : List PlainStep → ℕ
epoch_faults downs = first_fault downs + restart_faults downs

-- the faults of the epochs that a restart closed
abbrev pub closed_faults : List (Stretch PlainAction) → ℕ
closed_faults [] = 0
closed_faults (s ∷ ss) = epoch_faults s.downs + closed_faults ss

-- the faults of the last epoch. Where the agent is down at the end and no line was answered `down`,
-- a checkpoint or the commit at the end met one.
abbrev pub last_faults : Ending → List PlainStep → ℕ
last_faults Device [] = 1
last_faults ending downs = epoch_faults downs

-- the faults of a run that ended so, and had this history
abbrev pub faults_of : Ending → History PlainAction → ℕ
faults_of ending history =
    closed_faults history.closed + last_faults ending history.open_end.downs

-- a count rose by at least so many, or stands at its last value
abbrev pub RoseBy : ℕ → (before now : ℕ) → Type 0
RoseBy faults before now = min (before + faults) (2 ^ 64 - 1) ≤ now
