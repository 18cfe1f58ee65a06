-- Why a line has no reply, and what is left then.
-- Source: the script format of docs/FORMATS.md, as `script_lines` reads it.
-- Our own choice: the refusals. Want of memory alone is free, but where a line is blank, too long,
-- no UTF-8 or more than one.
use Rattle.std.specs.Prelude.{◌≡◌, ℕ, ◌≤◌, true, false, List, [], ◌∷◌, length, Some, Err}
use Rattle.std.specs.Prelude.{string_bytes}
use Rattle.std.specs.Str.{is_utf8}
use Rattle.unwinding.specs.Admissible.{Reopens}
use Rattle.journal.specs.Opening.{IsOfFile}
use Rattle.script_actions.specs.Action.{PlainLine, PlainStep}
use Rattle.script_lines.specs.Grammar.{is_blank, line_limit, line_of_bytes}
use Rattle.script_lines.specs.Script.{PlainFault}
use Rattle.script_lines.specs.Script as plain
use Rattle.script_lines.specs.Plain.{fault_of}
use Rattle.script_lines.specs.declared.script.ScriptFault.{ScriptFault}
use Rattle.script_lines.specs.declared.script.ScriptFault.TheVariants as script
use Rattle.store_runs.specs.declared.ending.Ending.{Ending}
use Rattle.store_runs.specs.declared.ending.Ending.TheVariants as ending
use Rattle.line_session.specs.Asked.{IsReadAs, asked_by, is_one_line}
use Rattle.line_session.specs.SessionView.{SessionView}
use Rattle.line_session.specs.declared.refused.LineRefused.{LineRefused}
use Rattle.line_session.specs.declared.refused.LineRefused.TheVariants.{LineFeed, TooLong, NotUtf8}
use Rattle.line_session.specs.declared.refused.LineRefused.TheVariants.{NotJson, UnknownAction}
use Rattle.line_session.specs.declared.refused.LineRefused.TheVariants.{BadField, BadHeader, Store}
use Rattle.line_session.specs.declared.refused.LineRefused.TheVariants.{Owed, Unprinted, NoMemory}

-- the bytes are one line, whose first fault this is
pub record HasFault (bytes : List ℕ) (fault : PlainFault) : Type 0 where
  pub one : is_one_line bytes ≡ true
  pub has : line_of_bytes 1 bytes ≡ Err fault

-- a line that is read over memory: it is a text, and not blank
pub record TakesMemory (bytes : List ℕ) : Type 0 where
  pub one : is_one_line bytes ≡ true
  pub some : is_blank bytes ≡ false
  pub short : length bytes ≤ line_limit
  pub text : is_utf8 bytes ≡ true

-- reading the bytes of a line is refused so. A fault has the number of its line.
abbrev pub IsFaultOf : List ℕ → LineRefused → Type 0
IsFaultOf bytes LineFeed = is_one_line bytes ≡ false
IsFaultOf bytes TooLong = (n : ℕ) × HasFault bytes (plain.LineTooLong n)
IsFaultOf bytes NotUtf8 = (n : ℕ) × HasFault bytes (plain.NotUtf8 n)
IsFaultOf bytes NotJson = (n : ℕ) × HasFault bytes (plain.NotJson n)
IsFaultOf bytes UnknownAction = (n : ℕ) × HasFault bytes (plain.UnknownAction n)
IsFaultOf bytes (BadField name) = (n : ℕ) × HasFault bytes (plain.BadField n (string_bytes name))
IsFaultOf bytes BadHeader = (n : ℕ) × HasFault bytes (plain.BadHeader n)
IsFaultOf bytes NoMemory = TakesMemory bytes
IsFaultOf bytes other = ⊥

-- a fault that no line has, or want of memory
abbrev pub IsOfNoLine : ScriptFault → Type 0
IsOfNoLine script.TooLong = Unit {0}
IsOfNoLine script.ReadFault = Unit {0}
IsOfNoLine script.NoDivider = Unit {0}
IsOfNoLine script.NoMemory = Unit {0}
IsOfNoLine other = ⊥

-- the refusal of a line tells this fault; those of a whole script are told as want of memory
abbrev pub TellsFault : ScriptFault → LineRefused → Type 0
TellsFault fault TooLong = (n : ℕ) × (fault_of fault ≡ plain.LineTooLong n)
TellsFault fault NotUtf8 = (n : ℕ) × (fault_of fault ≡ plain.NotUtf8 n)
TellsFault fault NotJson = (n : ℕ) × (fault_of fault ≡ plain.NotJson n)
TellsFault fault UnknownAction = (n : ℕ) × (fault_of fault ≡ plain.UnknownAction n)
TellsFault fault (BadField name) = (n : ℕ) × (fault_of fault ≡ plain.BadField n (string_bytes name))
TellsFault fault BadHeader = (n : ℕ) × (fault_of fault ≡ plain.BadHeader n)
TellsFault fault NoMemory = IsOfNoLine fault
TellsFault fault other = ⊥

-- What is left where a line has no reply. A fault leaves all as it was, and so does a reply that
-- is still to be printed. Want of memory before the line ran leaves the reply of the line before;
-- behind one that was read, and is not blank, it leaves that line's reply to be printed.
abbrev pub RefusedSo : {D : Type 0} → (old new : SessionView D) → List ℕ → LineRefused → Type 0
RefusedSo old new bytes NoMemory =
    TakesMemory bytes × (new.reply ≡ old.reply) × (new.printed ≡ old.printed)
RefusedSo old new bytes (Store why) =
    IsOfFile why × (asked_by bytes ≡ Reopens ∷ [])
    × (new.reply ≡ old.reply) × (new.printed ≡ old.printed)
RefusedSo old new bytes Owed = (old.printed ≡ false) × (new ≡ old)
RefusedSo old new bytes Unprinted =
    ((line : PlainLine) × IsReadAs bytes (Some line)) × (new.printed ≡ false)
RefusedSo old new bytes why = IsFaultOf bytes why × (new ≡ old)

-- why a line has no reply whose run stopped so
abbrev pub stop_of : Ending → LineRefused
stop_of (ending.Store why) = Store why
stop_of other = NoMemory

-- what is left of a line that was read, and asks for this step
abbrev pub IsStop : {D : Type 0} → (old new : SessionView D) → PlainStep → LineRefused → Type 0
IsStop old new step NoMemory = (new.reply ≡ old.reply) × (new.printed ≡ old.printed)
IsStop old new step (Store why) =
    IsOfFile why × (step ≡ Reopens) × (new.reply ≡ old.reply) × (new.printed ≡ old.printed)
IsStop old new step Unprinted = new.printed ≡ false
IsStop old new step other = ⊥
