-- What a refused line leaves.
use Rattle.std.proofs.Common.{◌≡◌, ◌⊎◌, inl, inr, ⊎_elim, ℕ, ◌<◌, ◌≤◌, true, false, List, [], ◌∷◌, length, Option, Some, Err, string_bytes, sym, ap, subst, ◌∙◌}
use Rattle.std.proofs.lemmas.Bool.{cases_Bool, cases_lt}
use Rattle.std.specs.Str.{is_utf8}
use Rattle.disk_model.specs.Disk.{View}
use Rattle.script_actions.specs.Action.{PlainLine, PlainStep}
use Rattle.script_lines.specs.Grammar.{is_blank, line_limit, line_of_bytes}
use Rattle.script_lines.specs.Plain.{fault_of}
use Rattle.script_lines.specs.Script.{PlainFault}
use Rattle.script_lines.specs.Script as plain
use Rattle.script_lines.specs.declared.script.ScriptFault.{ScriptFault}
use Rattle.script_lines.specs.declared.script.ScriptFault.TheVariants as script
use Rattle.store_runs.specs.Moments.{StopsBefore}
use Rattle.store_runs.specs.Openings.{GoesOn}
use Rattle.store_runs.specs.declared.answer.Answer.{Answer}
use Rattle.store_runs.specs.declared.ending.Ending.{Ending}
use Rattle.store_runs.specs.declared.ending.Ending.TheVariants as ending
use Rattle.line_session.specs.Asked.{IsReadAs, asked_by, is_one_line}
use Rattle.line_session.specs.Calls.{text_by, ran_by}
use Rattle.line_session.specs.Refusals.{HasFault, IsFaultOf, IsOfNoLine, RefusedSo, IsStop, TakesMemory, TellsFault, stop_of}
use Rattle.line_session.specs.SessionView.{SessionView, is_printed}
use Rattle.line_session.specs.StandsFor.{GoesBy}
use Rattle.line_session.specs.declared.refused.LineRefused.{LineRefused}
use Rattle.line_session.specs.declared.refused.LineRefused.TheVariants.{LineFeed, TooLong, NotUtf8, NotJson, UnknownAction, BadField, BadHeader, Store, Owed, Unprinted, NoMemory}
use Rattle.line_session.proofs.ReadingLemmas.{asked_as, read_takes}
use Rattle.line_session.proofs.SessionLemmas.{goes_nowhere, goes_stopped}

-- what the reader of a script tells of a line that it refused
abbrev pub Told : List ℕ → ScriptFault → Type 0
Told bytes fault = (fault ≡ script.NoMemory) ⊎ (line_of_bytes 1 bytes ≡ Err (fault_of fault))

-- a fault that it names is the fault of the line
named : (bytes : List ℕ) (fault : ScriptFault) (known : PlainFault) → Told bytes fault → is_one_line bytes ≡ true
    → (plain.NoMemory ≡ known → ⊥) → fault_of fault ≡ known → HasFault bytes known
named bytes fault known (inl memory) one other is = absurd (other (ap fault_of (sym memory) ∙ is))
named bytes fault known (inr was) one other is = record { one = one; has = was ∙ ap Err is }

pub fault_told : (bytes : List ℕ) (fault : ScriptFault) (why : LineRefused) → is_one_line bytes ≡ true
    → Told bytes fault → (IsOfNoLine fault → TakesMemory bytes)
    → TellsFault fault why → IsFaultOf bytes why
fault_told bytes fault LineFeed one was takes tells = absurd tells
fault_told bytes fault TooLong one was takes tells =
    (tells.0, named bytes fault (plain.LineTooLong tells.0) was one (λ e. cc) tells.1)
fault_told bytes fault NotUtf8 one was takes tells =
    (tells.0, named bytes fault (plain.NotUtf8 tells.0) was one (λ e. cc) tells.1)
fault_told bytes fault NotJson one was takes tells =
    (tells.0, named bytes fault (plain.NotJson tells.0) was one (λ e. cc) tells.1)
fault_told bytes fault UnknownAction one was takes tells =
    (tells.0, named bytes fault (plain.UnknownAction tells.0) was one (λ e. cc) tells.1)
fault_told bytes fault (BadField name) one was takes tells =
    (tells.0, named bytes fault (plain.BadField tells.0 (string_bytes name)) was one (λ e. cc) tells.1)
fault_told bytes fault BadHeader one was takes tells =
    (tells.0, named bytes fault (plain.BadHeader tells.0) was one (λ e. cc) tells.1)
fault_told bytes fault (Store why) one was takes tells = absurd tells
fault_told bytes fault Owed one was takes tells = absurd tells
fault_told bytes fault Unprinted one was takes tells = absurd tells
fault_told bytes fault NoMemory one was takes tells = takes tells

-- a line with no fault of its own was read over memory
pub fault_takes : (bytes : List ℕ) (fault : ScriptFault) → is_one_line bytes ≡ true → (is_blank bytes ≡ true → ⊥)
    → (is_blank bytes ≡ false → line_limit < length bytes → fault ≡ script.LineTooLong 1)
    → (is_blank bytes ≡ false → length bytes ≤ line_limit → is_utf8 bytes ≡ false → fault ≡ script.NotUtf8 1)
    → IsOfNoLine fault → TakesMemory bytes
fault_takes bytes fault one blank long broken none =
    let some : is_blank bytes ≡ false = ⊎_elim (λ yes. absurd (blank yes)) (λ no. no) (cases_Bool (is_blank bytes)) in
    let short : length bytes ≤ line_limit = ⊎_elim (λ more. absurd (subst IsOfNoLine (long some more) none)) (λ few. few)
    (cases_lt line_limit (length bytes)) in
    record {
      one = one;
      some = some;
      short = short;
      text = ⊎_elim (λ yes. yes) (λ no. absurd (subst IsOfNoLine (broken some short no) none)) (cases_Bool (is_utf8 bytes));
    }

-- an answer that is there is not printed
pub not_printed : (answer : Option Answer) (some : Answer) → answer ≡ Some some → is_printed answer ≡ false
not_printed answer some is = ap is_printed is

module _ {D : Type 0} (tell : D → View) (old new : SessionView D) (same : new ≡ old) (bytes : List ℕ) where
  -- a fault leaves all as it was
  pub fault_refused : (why : LineRefused) → IsFaultOf bytes why → RefusedSo old new bytes why
  fault_refused LineFeed fault = (fault, same)
  fault_refused TooLong fault = (fault, same)
  fault_refused NotUtf8 fault = (fault, same)
  fault_refused NotJson fault = (fault, same)
  fault_refused UnknownAction fault = (fault, same)
  fault_refused (BadField name) fault = (fault, same)
  fault_refused BadHeader fault = (fault, same)
  fault_refused (Store why) fault = absurd fault
  fault_refused Owed fault = absurd fault
  fault_refused Unprinted fault = absurd fault
  fault_refused NoMemory fault = (fault, ap (λ (s : SessionView D). s.reply) same, ap (λ (s : SessionView D). s.printed) same)

  -- and runs nothing
  nowhere : GoesBy tell old new (asked_by bytes) [] []
  nowhere = goes_nowhere tell old new (asked_by bytes) (ap (λ (s : SessionView D). s.agent) same)

  pub fault_goes : (why : LineRefused) → IsFaultOf bytes why
      → GoesBy tell old new (asked_by bytes) (ran_by {T = Unit {0}} (Err why) (asked_by bytes)) (text_by {T = Unit {0}} (Err why) new.reply)
  fault_goes LineFeed fault = nowhere
  fault_goes TooLong fault = nowhere
  fault_goes NotUtf8 fault = nowhere
  fault_goes NotJson fault = nowhere
  fault_goes UnknownAction fault = nowhere
  fault_goes (BadField name) fault = nowhere
  fault_goes BadHeader fault = nowhere
  fault_goes (Store why) fault = absurd fault
  fault_goes Owed fault = absurd fault
  fault_goes Unprinted fault = absurd fault
  fault_goes NoMemory fault = nowhere

-- a line that was read and stopped is refused so
module _ {D : Type 0} (old new : SessionView D) (bytes : List ℕ) (line : PlainLine) (was : IsReadAs bytes (Some line)) where
  pub stop_refused : (why : LineRefused) → IsStop old new line.step why → RefusedSo old new bytes why
  stop_refused NoMemory stop = (read_takes bytes line was, stop.0, stop.1)
  stop_refused (Store why) stop = (stop.0, asked_as bytes (Some line) was ∙ ap (λ step. step ∷ []) stop.1, stop.2, stop.3)
  stop_refused Unprinted stop = ((line, was), stop)
  stop_refused LineFeed stop = absurd stop
  stop_refused TooLong stop = absurd stop
  stop_refused NotUtf8 stop = absurd stop
  stop_refused NotJson stop = absurd stop
  stop_refused UnknownAction stop = absurd stop
  stop_refused (BadField name) stop = absurd stop
  stop_refused BadHeader stop = absurd stop
  stop_refused Owed stop = absurd stop

-- a line whose run stopped
module _ {D : Type 0} (tell : D → View) (old new : SessionView D) (step : PlainStep) where
  pub stop_goes : (stop : Ending) → GoesOn tell old.agent new.agent → StopsBefore tell old.agent new.agent step stop
      → GoesBy tell old new (step ∷ []) (ran_by {T = Unit {0}} (Err (stop_of stop)) (step ∷ []))
      (text_by {T = Unit {0}} (Err (stop_of stop)) new.reply)
  stop_goes ending.Memory goes stops = goes_stopped tell old new step ending.Memory goes stops
  stop_goes (ending.Store why) goes stops = goes_stopped tell old new step (ending.Store why) goes stops
  stop_goes ending.Done goes stops = absurd stops
  stop_goes ending.Device goes stops = absurd stops
  stop_goes ending.Write goes stops = absurd stops

  pub stop_left : (stop : Ending) → StopsBefore tell old.agent new.agent step stop → new.reply ≡ old.reply
      → new.printed ≡ old.printed → IsStop old new step (stop_of stop)
  stop_left ending.Memory stops reply printed = (reply, printed)
  stop_left (ending.Store why) stops reply printed = (stops.0, stops.1, reply, printed)
  stop_left ending.Done stops reply printed = absurd stops
  stop_left ending.Device stops reply printed = absurd stops
  stop_left ending.Write stops reply printed = absurd stops
