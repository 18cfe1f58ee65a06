-- What an agent stands for, and where a run stands in its script: what a loop over the lines keeps.
-- Source: none.
-- Our own choice: the course, and not the history, is what a run carries. How many lines are
-- acknowledged is a length, and how many changes are kept comes from the restart.
use Rattle.std.specs.Prelude.{◌≡◌, ℕ, Bool, List, [], ◌∷◌, ◌++◌, length}
use Rattle.unwinding.specs.Machine.{World}
use Rattle.unwinding.specs.World.{SiteReply}
use Rattle.unwinding.specs.Durable.{DurableChange}
use Rattle.unwinding.specs.Admissible.{Step, Stretch, interrupted_line, stretch_steps, closed_steps}

-- a durable state, and how many durable changes led to it since the opening
pub record Base (State : Type 0) : Type 0 where
  pub state : State
  pub count : ℕ

-- what an agent stands for: the world, what its disk's contents stand for, what the lines of the
-- open batch changed and are to be answered, and whether it is up
pub record Seen (Site Cells Partition Rest Reply Change State : Type 0) : Type 0 where
  pub world : World Site Cells Partition Rest
  pub base : Base State
  pub pending : List (DurableChange Site Change)
  pub held : List (SiteReply Site Reply)
  pub up : Bool

-- of a script so far: the stretches that a restart closed, and of the open one the lines that
-- were answered, those that wait, and those that were answered with a device fault
pub record Course (Line : Type 0) : Type 0 where
  pub closed : List (Stretch Line)
  pub answered : List Line
  pub waiting : List Line
  pub downs : List (Step Line)

-- nothing has run
abbrev pub empty_course : {Line : Type 0} → Course Line
empty_course = record { closed = []; answered = []; waiting = []; downs = [] }

-- the executed lines of the open stretch
abbrev pub executed_lines : {Line : Type 0} → Course Line → List Line
executed_lines r = r.answered ++ r.waiting

-- a line that waits
abbrev pub wait : {Line : Type 0} → Course Line → Line → Course Line
wait r l =
    record {
      closed = r.closed;
      answered = r.answered;
      waiting = r.waiting ++ l ∷ [];
      downs = r.downs;
    }

-- all waiting lines are answered
abbrev pub answer_all : {Line : Type 0} → Course Line → Course Line
answer_all r =
    record {
      closed = r.closed;
      answered = r.answered ++ r.waiting;
      waiting = [];
      downs = r.downs;
    }

-- a line that is answered with a device fault
abbrev pub down_one : {Line : Type 0} → Course Line → Step Line → Course Line
down_one r l =
    record {
      closed = r.closed;
      answered = r.answered;
      waiting = r.waiting;
      downs = r.downs ++ l ∷ [];
    }

-- the open stretch, with so many durable changes kept
abbrev pub stretch_of : {Line : Type 0} → Course Line → ℕ → Stretch Line
stretch_of r n =
    record {
      epoch = record {
        executed = executed_lines r;
        interrupted = interrupted_line r.downs;
        acknowledged = length r.answered;
        kept = n;
      };
      downs = r.downs;
    }

-- a restart closes the open stretch
abbrev pub reopen : {Line : Type 0} → Course Line → ℕ → Course Line
reopen r n =
    record { closed = r.closed ++ stretch_of r n ∷ []; answered = []; waiting = []; downs = [] }

-- the script so far; the number of kept changes is no part of it
abbrev pub course_steps : {Line : Type 0} → Course Line → List (Step Line)
course_steps r = closed_steps r.closed ++ stretch_steps (stretch_of r 0)

-- a base is this state after so many changes
abbrev pub IsAt : {State : Type 0} → Base State → State → ℕ → Type 0
IsAt b d n = (d ≡ b.state) × (n ≡ b.count)

-- what a restart may open, where `may d n` says that it may find the state d after n changes: the
-- base and nothing else
abbrev pub AtBase : {State : Type 0} → Base State → (State → ℕ → Type 0) → Type 0
AtBase {State} b may = (d : State) (n : ℕ) → may d n → IsAt b d n
