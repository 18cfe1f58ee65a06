-- A session, as contracts see it.
-- Source: none.
-- Our own choice: the reply of a line that ran is the session's until the next line runs, whether
-- or not there was memory to print it.
use Rattle.std.specs.Prelude.{ℕ, Bool, true, false, List, Option, Some, None}
use Rattle.agent_core.specs.AgentView.{AgentView}
use Rattle.store_runs.specs.Answers.{answer_text}
use Rattle.store_runs.specs.declared.answer.Answer.{Answer}

-- a session: its agent, the reply of the last line that ran, and whether it is printed
pub record SessionView (D : Type 0) : Type 0 where
  pub agent : AgentView D
  pub reply : List ℕ
  pub printed : Bool

-- the last reply: that of an answer that is still to be printed, or what was printed
abbrev pub last_reply : Option Answer → (printed : List ℕ) → List ℕ
last_reply (Some answer) printed = answer_text answer
last_reply None printed = printed

-- whether nothing is still to be printed
abbrev pub is_printed : Option Answer → Bool
is_printed (Some answer) = false
is_printed None = true
