-- What calls of a session leave of its disk.
-- Source: none; these are the words of the general law.
use Rattle.std.specs.Prelude.{◌≡◌, ℕ, true, List, []}
use Rattle.unwinding.specs.Admissible.{History}
use Rattle.disk_model.specs.Disk.{View}
use Rattle.script_actions.specs.Action.{PlainAction}
use Rattle.durable_model.specs.Histories.{opened_at}
use Rattle.durable_model.specs.Saved.{Saved}
use Rattle.agent_core.specs.AgentView.{list_of}
use Rattle.store_runs.specs.Runs.{LeavesHistory}
use Rattle.line_session.specs.Calls.{Began, IsHistoryOfCalls, LineCall}
use Rattle.line_session.specs.SessionView.{SessionView}

-- Over a disk that tells its contents: whatever a cut leaves of it behind a list of calls is a
-- store of the list, and stands for a durable state that a history leaves of the lines that ran, of
-- which the replies together are the text.
abbrev pub HasCallsLeft : {D : Type 0} → (tell : D → View) → Type 0
HasCallsLeft {D} tell =
    (start : ℕ) (saved : Saved) (first last : SessionView D) (calls : List (LineCall D))
    → Began tell start saved first last calls → (tell first.agent.disk).tells ≡ true
    → let opening = opened_at start saved in
    (history : History PlainAction)
    × IsHistoryOfCalls first.agent.memory.rules opening calls history
    × LeavesHistory (list_of first.agent) 1 opening (tell last.agent.disk).may_leave [] history
