-- What serving the lines of a source writes, and what it leaves of the session.
-- A clause on bytes speaks of a source or a sink that tells its bytes; one that tells none has
-- `None`.
-- Source: none; these are the words of the promise. The lines of a text are those of a script.
-- Our own choice: a checkpoint that is due is made behind each line, once its answer is written.
use Rattle.std.specs.Prelude.{◌≡◌, ℕ, ◌+◌, ◌<◌, ◌≤◌, ◌^◌, false, true, List, [], ◌∷◌, ◌++◌}
use Rattle.std.specs.Prelude.{length, map, Option, Some, IfSome, Err, MatchResult}
use Rattle.agent_base.specs.Counts.{Rose}
use Rattle.agent_base.specs.Streams.{Gives, Takes, TakesPrefix}
use Rattle.disk_model.specs.Disk.{View}
use Rattle.journal.specs.Opening.{IsOfFile}
use Rattle.journal.specs.declared.open_fault.OpenFault.{OpenFault}
use Rattle.script_lines.specs.Grammar.{lines_of}
use Rattle.agent_core.specs.AgentView.{is_down, owes}
use Rattle.line_session.specs.Calls.{AreCalls, LineCall}
use Rattle.line_session.specs.Refusals.{IsFaultOf}
use Rattle.line_session.specs.SessionView.{SessionView}
use Rattle.line_session.specs.StandsFor.{GoesBy}
use Rattle.store_runs.specs.FaultCounts.{KeepsCount}
use Rattle.line_session.specs.declared.refused.LineRefused.{LineRefused}
use Rattle.line_session.specs.declared.refused.LineRefused.TheVariants as refused
use Rattle.served_lines.specs.Refusal.{fault_words, refusal_text}
use Rattle.served_lines.specs.declared.ending.Served.{Served}
use Rattle.served_lines.specs.declared.ending.Served.TheVariants.{Done, Device, Read, Write, Store}
use Rattle.served_lines.specs.declared.ending.Served.TheVariants.{NoMemory}

-- ---- answers

-- the text tells this fault of the line of this number, which is the line's first one
abbrev pub IsRefusal : (number : ℕ) → (line : List ℕ) → LineRefused → (text : List ℕ) → Type 0
IsRefusal number line why text =
    IsFaultOf line why
    × ((words : List ℕ) × (fault_words why ≡ Some words) × (text ≡ refusal_text number words))

-- the text answers a call, whose line has this number: it is the reply, or it tells why the line
-- was refused
abbrev pub IsAnswer : {D : Type 0} → (number : ℕ) → LineCall D → (text : List ℕ) → Type 0
IsAnswer number call text =
    MatchResult call.answer (λ done. text ≡ call.new.reply)
    (λ why. IsRefusal number call.line why text)

-- the text answers calls one after the other, whose lines have the numbers from this one on
abbrev pub AreAnswers : {D : Type 0} → (number : ℕ) → List (LineCall D) → (text : List ℕ) → Type 0
AreAnswers number [] text = text ≡ []
AreAnswers number (call ∷ calls) text =
    (first : List ℕ) × (rest : List ℕ) × IsAnswer number call first
    × AreAnswers (number + 1) calls rest × (text ≡ first ++ rest)

-- ---- calls

-- The lines of the bytes that a source gave, but for the last ones, were given to a session. Each
-- call begins with the session as the one before it left it, and first the checkpoint is made that
-- is due then; that behind the last call is made, too. The disk's count of faults rose where the
-- session is down then, and was not before.
pub record AreServed {D : Type 0} (tell : D → View) (old new : SessionView D)
    (before after : Option (List ℕ)) (calls : List (LineCall D)) (unserved : List (List ℕ))
    : Type 0 where
  pub bytes : List ℕ
  pub gave : Gives before after bytes
  pub lines : lines_of bytes ≡ map (λ (c : LineCall D). c.line) calls ++ unserved
  pub last : SessionView D
  pub follow : AreCalls tell old last calls
  pub tended : GoesBy tell last new [] [] []
  pub counts : KeepsCount tell old.agent new.agent
  pub few : length calls + 2 < 2 ^ 64

-- All lines to the end of the source were served, and their answers written. No checkpoint is due.
pub record IsServed {D : Type 0} (tell : D → View) (old new : SessionView D)
    (before after taken took : Option (List ℕ)) : Type 0 where
  pub calls : List (LineCall D)
  pub served : AreServed tell old new before after calls []
  pub ended : IfSome after (λ rest. rest ≡ [])
  pub text : List ℕ
  pub answers : AreAnswers 1 calls text
  pub takes : Takes taken took text
  pub tidy : owes new.agent ≡ false

-- The first lines were served, and this was taken of their answers. Of the others some may have
-- been given to the session, of which this is known.
pub record IsServedTo {D : Type 0} (tell : D → View) (old new : SessionView D)
    (before after : Option (List ℕ)) (Took : (text : List ℕ) → Type 0)
    (Stops : List (LineCall D) → Type 0) : Type 0 where
  pub calls : List (LineCall D)
  pub more : List (LineCall D)
  pub unserved : List (List ℕ)
  pub served : AreServed tell old new before after (calls ++ more) unserved
  pub text : List ℕ
  pub answers : AreAnswers 1 calls text
  pub took : Took text
  pub stops : Stops more

-- ---- endings

-- no line was given to the session whose answer was not written
abbrev pub AreNone : {D : Type 0} → List (LineCall D) → Type 0
AreNone more = more ≡ []

-- at most one was
abbrev pub AreFew : {D : Type 0} → List (LineCall D) → Type 0
AreFew more = length more ≤ 1

-- one was, which was to open the store again, and found none
abbrev pub FoundNoStore : {D : Type 0} → OpenFault → List (LineCall D) → Type 0
FoundNoStore why [] = ⊥
FoundNoStore why (call ∷ more) =
    (more ≡ []) × IsOfFile why × (call.answer ≡ Err (refused.Store why))

-- What serving wrote and left that ended so. Of a line that could not be answered for want of
-- memory, or because it found no store, nothing was written.
abbrev pub Serves : {D : Type 0} → (tell : D → View) → Served → (old new : SessionView D)
    → (before after taken took : Option (List ℕ)) → Type 0
Serves tell Done old new before after taken took =
    IsServed tell old new before after taken took × (is_down new.agent.power ≡ false)
Serves tell Device old new before after taken took =
    IsServed tell old new before after taken took × (is_down new.agent.power ≡ true)
Serves tell Read old new before after taken took =
    IsServedTo tell old new before after (Takes taken took) AreNone
Serves tell Write old new before after taken took =
    IsServedTo tell old new before after (TakesPrefix taken took) AreNone
Serves tell (Store why) old new before after taken took =
    IsServedTo tell old new before after (Takes taken took) (FoundNoStore why)
Serves tell NoMemory old new before after taken took =
    IsServedTo tell old new before after (Takes taken took) AreFew

-- the source's count of faults: it rose where reading failed, and else it stayed
abbrev pub SourceCounts : Served → (before now : ℕ) → Type 0
SourceCounts Read before now = Rose before now
SourceCounts ending before now = now ≡ before

-- the sink's count: it rose where writing failed, and else it stayed
abbrev pub SinkCounts : Served → (before now : ℕ) → Type 0
SinkCounts Write before now = Rose before now
SinkCounts ending before now = now ≡ before
