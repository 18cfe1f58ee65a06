-- What each step of serving makes of the lines that were served.
-- Source: none.
use Rattle.std.specs.Prelude.{◌≡◌, ◌⊎◌, ℕ, ◌+◌, ◌<◌, ◌^◌, List, [], ◌++◌, length}
use Rattle.std.specs.Prelude.{map, Option, Some, Result, Ok, Err, MatchResult, IfErr}
use Rattle.agent_base.specs.Streams.{Gives, Takes, TakesPrefix}
use Rattle.disk_model.specs.Disk.{View}
use Rattle.journal.specs.Opening.{IsOfFile}
use Rattle.journal.specs.declared.open_fault.OpenFault.{OpenFault}
use Rattle.script_lines.specs.Grammar.{lines_of}
use Rattle.line_session.specs.Calls.{AreCalls, IsCall, LineCall}
use Rattle.line_session.specs.Refusals.{IsFaultOf}
use Rattle.line_session.specs.SessionView.{SessionView}
use Rattle.line_session.specs.StandsFor.{GoesBy}
use Rattle.store_runs.specs.FaultCounts.{KeepsCount}
use Rattle.line_session.specs.declared.refused.LineRefused.{LineRefused}
use Rattle.line_session.specs.declared.refused.LineRefused.TheVariants as refused
use Rattle.served_lines.specs.Refusal.{fault_words, refusal_text}
use Rattle.served_lines.specs.Serving.{AreAnswers, IsAnswer}
use Rattle.served_lines.specs.Waiting.{Waits}
use Rattle.served_lines.specs.declared.ending.Served.{Served}
use Rattle.served_lines.specs.declared.ending.Served.TheVariants.{Write, Store}
use Rattle.served_lines.specs.declared.ending.Served.TheVariants.{NoMemory}
use Rattle.served_lines.specs.declared.waiting.WaitingLine.{WaitingLine}

-- ---- the answer to one line

-- serving ends so where a line was refused for this: by its store, or for want of memory
abbrev pub IsStopOf : LineRefused → Served → Type 0
IsStopOf why (Store fault) = why ≡ refused.Store fault
IsStopOf why NoMemory = Unit {0}
IsStopOf why ending = ⊥

-- the line that tells why a line was refused stands behind what stood in a buffer; or that is no
-- fault of the line, or memory was wanting
abbrev pub PutsRefusal : Result (Unit {0}) Served → (number : ℕ) → LineRefused
    → (before now : List ℕ) → Type 0
PutsRefusal result number why before now =
    MatchResult result
    (λ done. (words : List ℕ) × (fault_words why ≡ Some words)
    × (now ≡ before ++ refusal_text number words))
    (λ ending. IsStopOf why ending)

-- the text that is written for a line of this number to which the session gave this
abbrev pub IsTextFor : Result (Unit {0}) LineRefused → (number : ℕ) → (reply text : List ℕ) → Type 0
IsTextFor given number reply text =
    MatchResult given (λ done. text ≡ reply)
    (λ why. (words : List ℕ) × (fault_words why ≡ Some words) × (text ≡ refusal_text number words))

-- what the sink took of the answer to a line to which the session gave this
abbrev pub WritesAnswer : Result (Unit {0}) Served → (given : Result (Unit {0}) LineRefused)
    → (number : ℕ) → (reply : List ℕ) → (taken took : Option (List ℕ)) → Type 0
WritesAnswer (Ok done) given number reply taken took =
    (text : List ℕ) × IsTextFor given number reply text × Takes taken took text
WritesAnswer (Err Write) given number reply taken took =
    (text : List ℕ) × IsTextFor given number reply text × TakesPrefix taken took text
WritesAnswer (Err ending) given number reply taken took =
    MatchResult given (λ done. ⊥) (λ why. IsStopOf why ending) × Takes taken took []

-- ---- one line

-- a call of a session
abbrev pub call_of : {D : Type 0} → (old new : SessionView D) → (line : List ℕ)
    → Result (Unit {0}) LineRefused → LineCall D
call_of old new line answer = record { old = old; new = new; line = line; answer = answer }

-- what is known of a line that was refused for this: a fault is the first one of the line, and a
-- store that was found is none of the list
abbrev pub IsKnownOf : (line : List ℕ) → LineRefused → Type 0
IsKnownOf line why =
    ((words : List ℕ) → fault_words why ≡ Some words → IsFaultOf line why)
    × ((fault : OpenFault) → why ≡ refused.Store fault → IsOfFile fault)

-- a line was given to a session, and answered so
pub record Gave {D : Type 0} (tell : D → View) (old new : SessionView D) (line : List ℕ)
    (answer : Result (Unit {0}) LineRefused) : Type 0 where
  pub is : IsCall tell (call_of old new line answer)
  pub known : IfErr answer (IsKnownOf line)
  pub counts : KeepsCount tell old.agent new.agent

-- a line was given to a session, and this was taken of what it was answered
pub record Called {D : Type 0} (tell : D → View) (old new : SessionView D) (number : ℕ)
    (line : List ℕ) (Took : (text : List ℕ) → Type 0) : Type 0 where
  pub answer : Result (Unit {0}) LineRefused
  pub is : IsCall tell (call_of old new line answer)
  pub few : number + 2 < 2 ^ 64
  pub text : List ℕ
  pub answers : IsAnswer number (call_of old new line answer) text
  pub took : Took text
  pub counts : KeepsCount tell old.agent new.agent

-- a line was answered, and then the checkpoint was to be made that was due
pub record Answered {D : Type 0} (tell : D → View) (old new : SessionView D) (number : ℕ)
    (line : List ℕ) (taken took : Option (List ℕ)) : Type 0 where
  pub after : SessionView D
  pub called : Called tell old after number line (Takes taken took)
  pub tended : GoesBy tell after new [] [] []
  pub counts : KeepsCount tell old.agent new.agent

-- a line was given to a session, and nothing was taken
pub record Unanswered {D : Type 0} (tell : D → View) (old new : SessionView D) (number : ℕ)
    (line : List ℕ) (taken took : Option (List ℕ)) : Type 0 where
  pub answer : Result (Unit {0}) LineRefused
  pub is : IsCall tell (call_of old new line answer)
  pub few : number + 2 < 2 ^ 64
  pub none : Takes taken took []
  pub counts : KeepsCount tell old.agent new.agent

-- serving ended so at a line
abbrev pub Stopped : {D : Type 0} → (tell : D → View) → Served → (old new : SessionView D)
    → (number : ℕ) → (line : List ℕ) → (taken took : Option (List ℕ)) → Type 0
Stopped tell Write old new number line taken took =
    Called tell old new number line (TakesPrefix taken took)
Stopped tell (Store why) old new number line taken took =
    (call : Unanswered tell old new number line taken took)
    × IsOfFile why × (call.answer ≡ Err (refused.Store why))
Stopped tell NoMemory old new number line taken took =
    ((new ≡ old) × Takes taken took [])
    ⊎ (Answered tell old new number line taken took
    ⊎ Unanswered tell old new number line taken took)
Stopped tell ending old new number line taken took = ⊥

-- ---- all lines so far

-- Where serving stands: these bytes were handled of those that the source gave, and those are still
-- to be handled; the calls were made, and their answers written; and a line waits.
pub record StandsAt {D : Type 0} (tell : D → View) (first now : SessionView D)
    (before after taken took : Option (List ℕ)) (waiting : WaitingLine) (number : ℕ)
    (unhandled : List ℕ) : Type 0 where
  pub bytes : List ℕ
  pub gave : Gives before after (bytes ++ unhandled)
  pub calls : List (LineCall D)
  pub line : List ℕ
  pub lines : (more : List ℕ)
      → lines_of (bytes ++ more) ≡ map (λ (c : LineCall D). c.line) calls ++ lines_of (line ++ more)
  pub waits : Waits line waiting
  pub last : SessionView D
  pub follow : AreCalls tell first last calls
  pub tended : GoesBy tell last now [] [] []
  pub counts : KeepsCount tell first.agent now.agent
  pub few : length calls + 2 < 2 ^ 64
  pub count : number ≡ length calls + 1
  pub text : List ℕ
  pub answers : AreAnswers 1 calls text
  pub takes : Takes taken took text
