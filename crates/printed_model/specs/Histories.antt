-- What is printed of a history, and that a run had such a history.
-- Source: none; these are the words of the promise.
-- Our own choice: the reply to a line that met a device fault is `down`, and the reply to a restart
-- tells how many durable changes it found. Both are of no site.
use Rattle.std.specs.Prelude.{◌≡◌, ◌≢◌, ◌⊎◌, ℕ, true, false, List, [], ◌++◌, ◌∷◌, map, None}
use Rattle.std.specs.Prelude.{codes}
use Rattle.unwinding.specs.Admissible.{Acts, Reopens, History, IsAdmissible, Stretch}
use Rattle.unwinding.specs.Admissible.{history_steps}
use Rattle.suffix_list.specs.Suffix.{Rule}
use Rattle.origin_site.specs.Site.{PlainSite}
use Rattle.script_actions.specs.Action.{PlainAction, PlainStep}
use Rattle.reply_lines.specs.Reply.{Kept, Plain}
use Rattle.script_actions.specs.ActionNames.{step_name}
use Rattle.agent_model.specs.Isolation.{lines_alone, lines_of_site, text_of, transcript}
use Rattle.agent_model.specs.TheMachine.{machine}
use Rattle.durable_model.specs.Histories.{AgentOpening, AgentReply, history_replies, history_run}
use Rattle.durable_model.specs.Histories.{history_script, opened_at}
use Rattle.durable_model.specs.Keeping.{keeping}
use Rattle.durable_model.specs.Saved.{IsValid, Saved, nothing_saved}

-- ---- what is printed

-- the reply to a restart that found so many durable changes
abbrev pub restart_reply : ℕ → AgentReply
restart_reply kept =
    record { site = None; reply = record { name = step_name Reopens; body = Kept kept } }

-- the reply to a line that met a device fault
abbrev pub down_reply : PlainStep → AgentReply
down_reply step =
    record { site = None; reply = record { name = step_name step; body = Plain (codes "down") } }

-- the replies that are printed of a history, each with its site
abbrev pub printed_replies : List Rule → AgentOpening → History PlainAction → List AgentReply
printed_replies rules opening history =
    history_replies rules restart_reply down_reply opening history

-- their text
abbrev pub history_text : List Rule → AgentOpening → History PlainAction → List ℕ
history_text rules opening history = text_of (printed_replies rules opening history)

-- the lines that were answered `down` in stretches
abbrev pub closed_downs : List (Stretch PlainAction) → List PlainStep
closed_downs [] = []
closed_downs (s ∷ ss) = s.downs ++ closed_downs ss

-- and in a whole history
abbrev pub history_downs : History PlainAction → List PlainStep
history_downs history = closed_downs history.closed ++ history.open_end.downs

-- at the end the agent was up: no line of the last epoch was answered `down`, and what waited was
-- committed
abbrev pub EndsUp : History PlainAction → Type 0
EndsUp history = (history.open_end.downs ≡ []) × (history.committed ≡ true)

-- at the end the agent was down: a line of the last epoch was answered `down`, or what waited was
-- not committed
abbrev pub EndsDown : History PlainAction → Type 0
EndsDown history = (history.open_end.downs ≢ []) ⊎ (history.committed ≡ false)

-- ---- the history of a run

-- A history of exactly these lines, in batches of so many, that a run from this opening may have.
-- Where its disk has no cuts, no line is answered `down`.
pub record IsHistoryOf (rules : List Rule) (batch : ℕ) (opening : AgentOpening) (NoCuts : Type 0)
    (steps : List PlainStep) (history : History PlainAction) : Type 0 where
  pub admissible : IsAdmissible (machine rules) keeping batch opening history
  pub lines : history_steps history ≡ steps
  pub quiet : NoCuts → history_downs history ≡ []

-- where a run over an empty store begins
abbrev pub begins_at : ℕ → AgentOpening
begins_at start = opened_at start nothing_saved

-- ---- the promise

-- the printed lines of each site are those of its own machine, which is given the site's local
-- script alone, wherever the clock begins, whatever the store had and the run's history is
abbrev pub HasSiteLines : Type 0
HasSiteLines = (rules : List Rule) (start : ℕ) (saved : Saved) → IsValid saved
    → (history : History PlainAction) (site : PlainSite)
    → let opening = opened_at start saved in
    lines_of_site site (printed_replies rules opening history)
    ≡ lines_alone site (history_run site (history_script rules site opening history))

-- two runs that give a site the same local script print the same lines of that site
abbrev pub HasSameLines : Type 0
HasSameLines = (rules other_rules : List Rule) (start other_start : ℕ) (saved other_saved : Saved)
    → IsValid saved → IsValid other_saved → (history other : History PlainAction) (site : PlainSite)
    → let opening = opened_at start saved in
    let other_opening = opened_at other_start other_saved in
    history_script rules site opening history
    ≡ history_script other_rules site other_opening other
    → lines_of_site site (printed_replies rules opening history)
    ≡ lines_of_site site (printed_replies other_rules other_opening other)

-- where no line reopens and none is answered `down`, the text is the transcript of the lines: that
-- of the replies of the world of all sites
abbrev pub HasOneText : Type 0
HasOneText = (rules : List Rule) (start : ℕ) (actions : List PlainAction)
    (history : History PlainAction)
    → IsHistoryOf rules 1 (begins_at start) (Unit {0}) (map Acts actions) history
    → history_text rules (begins_at start) history ≡ transcript rules start actions
