-- Calls of a session, one after the other, and what they are together.
-- Source: none; these are the words of the promise.
use Rattle.std.specs.Prelude.{◌≡◌, ℕ, ◌+◌, ◌<◌, ◌^◌, List, [], ◌∷◌, ◌++◌, length, Result, Ok, Err}
use Rattle.unwinding.specs.Admissible.{History}
use Rattle.disk_model.specs.Disk.{View}
use Rattle.suffix_list.specs.Suffix.{Rule}
use Rattle.origin_site.specs.Site.{PlainSite}
use Rattle.script_actions.specs.Action.{PlainAction, PlainStep}
use Rattle.agent_model.specs.Isolation.{lines_alone, lines_of_site}
use Rattle.durable_model.specs.Histories.{AgentOpening, history_run, history_script, opened_at}
use Rattle.durable_model.specs.Keeping.{AgentDurable}
use Rattle.durable_model.specs.Saved.{IsValid, Saved}
use Rattle.agent_core.specs.AgentView.{may_of}
use Rattle.printed_model.specs.Histories.{IsHistoryOf, history_text, printed_replies}
use Rattle.printed_model.specs.Left.{IsLeft}
use Rattle.line_session.specs.Asked.{asked_by}
use Rattle.line_session.specs.Between.{RunsNone}
use Rattle.line_session.specs.SessionView.{SessionView}
use Rattle.line_session.specs.StandsFor.{AreTold, GoesBy, StandsFor}
use Rattle.line_session.specs.declared.refused.LineRefused.{LineRefused}
use Rattle.line_session.specs.declared.refused.LineRefused.TheVariants.{Unprinted}

-- ---- one call

-- the steps that a call ran that answered so: those that were asked for, or none
abbrev pub ran_by : {T : Type 0} → Result T LineRefused → (asked : List PlainStep)
    → List PlainStep
ran_by (Ok done) asked = asked
ran_by (Err Unprinted) asked = asked
ran_by (Err other) asked = []

-- the text that it gave: the reply, printed or still to be printed, or nothing
abbrev pub text_by : {T : Type 0} → Result T LineRefused → (reply : List ℕ) → List ℕ
text_by (Ok done) reply = reply
text_by (Err Unprinted) reply = reply
text_by (Err other) reply = []

-- a line that was given to a session: the session before and after it, its bytes, and the answer
pub record LineCall (D : Type 0) : Type 0 where
  pub old : SessionView D
  pub new : SessionView D
  pub line : List ℕ
  pub answer : Result (Unit {0}) LineRefused

-- its steps, and its text
abbrev pub call_steps : {D : Type 0} → LineCall D → List PlainStep
call_steps c = ran_by c.answer (asked_by c.line)

abbrev pub call_text : {D : Type 0} → LineCall D → List ℕ
call_text c = text_by c.answer c.new.reply

-- it is one that `Session::line` may make: its clause `means`. Calls before it that run no line are
-- part of it.
abbrev pub IsCall : {D : Type 0} → (tell : D → View) → LineCall D → Type 0
IsCall tell c = GoesBy tell c.old c.new (asked_by c.line) (call_steps c) (call_text c)

-- ---- a list of calls

-- each call begins with the session that the one before it left
abbrev pub AreCalls : {D : Type 0} → (tell : D → View) → (first last : SessionView D)
    → List (LineCall D) → Type 0
AreCalls tell first last [] = last ≡ first
AreCalls tell first last (c ∷ cs) = (c.old ≡ first) × IsCall tell c × AreCalls tell c.new last cs

-- the lines that were read and ran, and their replies together
abbrev pub steps_of_calls : {D : Type 0} → List (LineCall D) → List PlainStep
steps_of_calls [] = []
steps_of_calls (c ∷ cs) = call_steps c ++ steps_of_calls cs

abbrev pub text_of_calls : {D : Type 0} → List (LineCall D) → List ℕ
text_of_calls [] = []
text_of_calls (c ∷ cs) = call_text c ++ text_of_calls cs

-- what is known of their lines over this disk
abbrev pub TellsCalls : {D : Type 0} → View → List (LineCall D) → Type 0
TellsCalls view [] = Unit {0}
TellsCalls view (c ∷ cs) = AreTold view (asked_by c.line) × TellsCalls view cs

-- A session began over a valid state at this moment, and calls were made of it, of fewer than 2^64
-- lines. Behind the last of these, calls may have been made that run none.
pub record Began {D : Type 0} (tell : D → View) (start : ℕ) (saved : Saved)
    (first last : SessionView D) (calls : List (LineCall D)) : Type 0 where
  pub valid : IsValid saved
  pub begins : StandsFor tell first (opened_at start saved) [] []
  pub behind : SessionView D
  pub are : AreCalls tell first behind calls
  pub ended : RunsNone tell behind last
  pub told : TellsCalls (tell first.agent.disk) calls
  pub few : length calls + 2 < 2 ^ 64

-- ---- the laws

-- a history of exactly the lines that ran, of which the replies together are the text
pub record IsHistoryOfCalls {D : Type 0} (rules : List Rule) (opening : AgentOpening)
    (calls : List (LineCall D)) (history : History PlainAction) : Type 0 where
  pub runs : IsHistoryOf rules 1 opening ⊥ (steps_of_calls calls) history
  pub text : history_text rules opening history ≡ text_of_calls calls

-- the replies of a list of calls are the text of an admissible history of the lines that ran; what
-- a restart may find now, this history leaves
abbrev pub HasCallsText : {D : Type 0} → (tell : D → View) → Type 0
HasCallsText {D} tell =
    (start : ℕ) (saved : Saved) (first last : SessionView D) (calls : List (LineCall D))
    → Began tell start saved first last calls
    → let rules = first.agent.memory.rules in
    let opening = opened_at start saved in
    (history : History PlainAction) × IsHistoryOfCalls rules opening calls history
    × ((d : AgentDurable) (n : ℕ) → may_of last.agent (tell last.agent.disk) d n
    → IsLeft rules 1 opening history d)

-- in the text of each such history the lines of each site are its own machine's, which is given the
-- site's local script alone
abbrev pub HasCallsSites : {D : Type 0} → (tell : D → View) → Type 0
HasCallsSites {D} tell =
    (start : ℕ) (saved : Saved) (first last : SessionView D) (calls : List (LineCall D))
    → Began tell start saved first last calls
    → let rules = first.agent.memory.rules in
    let opening = opened_at start saved in
    (history : History PlainAction) → IsHistoryOfCalls rules opening calls history
    → (site : PlainSite)
    → lines_of_site site (printed_replies rules opening history)
    ≡ lines_alone site (history_run site (history_script rules site opening history))

-- two lists of calls whose histories give a site the same local script give it the same lines
abbrev pub HasCallsSame : {D : Type 0} → (tell : D → View) → Type 0
HasCallsSame {D} tell =
    (start other_start : ℕ) (saved other_saved : Saved)
    (first last other_first other_last : SessionView D)
    (calls other_calls : List (LineCall D)) → Began tell start saved first last calls
    → Began tell other_start other_saved other_first other_last other_calls
    → let rules = first.agent.memory.rules in
    let other_rules = other_first.agent.memory.rules in
    let opening = opened_at start saved in
    let other_opening = opened_at other_start other_saved in
    (history other : History PlainAction) → IsHistoryOfCalls rules opening calls history
    → IsHistoryOfCalls other_rules other_opening other_calls other → (site : PlainSite)
    → history_script rules site opening history
    ≡ history_script other_rules site other_opening other
    → lines_of_site site (printed_replies rules opening history)
    ≡ lines_of_site site (printed_replies other_rules other_opening other)
