-- The grammar answers only faults of the text: neither a fault of the source nor want of memory.
use Rattle.std.proofs.Common.{ℕ, ◌+◌, Bool, true, false, cond, not, List, [], ◌∷◌, Option}
use Rattle.std.proofs.Common.{Some, None, Result, Ok, Err, IfErr, map, length}
use Rattle.std.specs.Prelude.{nat_lt}
use Rattle.std.specs.List.{after_first, before_first, list_all, list_any}
use Rattle.std.specs.Str.{is_utf8}
use Rattle.serde_json.specs.Data.{Data}
use Rattle.serde_json.specs.Find.{get}
use Rattle.serde_json.specs.Read.{read}
use Rattle.script_lines.specs.Script.{PlainFault, NotJson, UnknownAction, BadField}
use Rattle.script_lines.specs.Script.{LineTooLong, TooLong, NotUtf8, ReadFault, BadHeader, NoDivider}
use Rattle.script_lines.specs.Script.{NoMemory, PlainScript}
use Rattle.script_lines.specs.Fields.{Field, Kind, Meaning, meaning, checked, formed, field_of}
use Rattle.script_lines.specs.Fields.{fields_of, given, then_ok, head_list}
use Rattle.script_lines.specs.Heads.{is_header}
use Rattle.script_lines.specs.Rows.{Row}
use Rattle.script_actions.specs.Action.{PlainStep}
use Rattle.script_lines.specs.Steps.{by_row, cuts_of_data, disk_row, first_unknown, name_of, refused}
use Rattle.script_lines.specs.Steps.{row_named, step_by, step_named, step_of_data}
use Rattle.script_lines.specs.Grammar.{begun_by, data_of_bytes, is_blank, is_disk, json_of, line_limit}
use Rattle.script_lines.specs.Grammar.{line_of_bytes, lines_from, script_from}
use Rattle.script_lines.specs.TwoScripts.{both_scripts, is_divider, two_scripts}

-- a fault of the text of one script
abbrev pub IsOfText : PlainFault → Type 0
IsOfText (NotJson line) = Unit {0}
IsOfText (UnknownAction line) = Unit {0}
IsOfText (BadField line name) = Unit {0}
IsOfText (LineTooLong line) = Unit {0}
IsOfText TooLong = Unit {0}
IsOfText (NotUtf8 line) = Unit {0}
IsOfText ReadFault = ⊥
IsOfText (BadHeader line) = Unit {0}
IsOfText NoDivider = ⊥
IsOfText NoMemory = ⊥

then_of_text : {A B : Type 0} (first : Result A PlainFault) (next : A → Result B PlainFault) → IfErr first IsOfText → ((value : A) → IfErr (next value) IsOfText) → IfErr (then_ok first next) IsOfText
then_of_text (Ok value) next first later = later value
then_of_text (Err why) next first later = first

if_of_text : {A : Type 0} (b : Bool) (one other : Result A PlainFault) → IfErr one IsOfText → IfErr other IsOfText → IfErr (cond b one other) IsOfText
if_of_text true one other first second = first
if_of_text false one other first second = second

formed_of_text : {A : Type 0} (number : ℕ) (name : List ℕ) (value : Option A) → IfErr (formed number name value) IsOfText
formed_of_text number name (Some value) = tt
formed_of_text number name None = tt

checked_of_text : (kind : Kind) (number : ℕ) (member : Result (Meaning kind) PlainFault) → IfErr member IsOfText → IfErr (checked kind number member) IsOfText
checked_of_text head_list number head of_text =
    then_of_text head _ of_text (λ head. if_of_text (list_all is_header head) _ _ tt tt)
checked_of_text kind number member of_text = of_text

field_of_text : (number : ℕ) (field : Field) (line : Data) → IfErr (field_of number field line) IsOfText
field_of_text number field line =
    checked_of_text field.kind number _
    (formed_of_text number field.name (given (meaning field.kind) field.absent (get field.name line)))

fields_of_text : (number : ℕ) (fields : List Field) (line : Data) → IfErr (fields_of number fields line) IsOfText
fields_of_text number [] line = tt
fields_of_text number (field ∷ fields) line =
    then_of_text _ _ (field_of_text number field line)
    (λ value. then_of_text _ _ (fields_of_text number fields line) (λ values. tt))

refused_of_text : (number : ℕ) (name : Option (List ℕ)) → IfErr (refused number name) IsOfText
refused_of_text number (Some name) = tt
refused_of_text number None = tt

by_row_of_text : {A : Type 0} (number : ℕ) (row : Row A) (line : Data) → IfErr (by_row number row line) IsOfText
by_row_of_text number row line =
    then_of_text _ _ (fields_of_text number row.fields line)
    (λ values. then_of_text _ _ (refused_of_text number (first_unknown (map (λ field. field.name) row.fields) line)) (λ _. tt))

row_of_text : (number : ℕ) (row : Option (Row PlainStep)) (line : Data) → IfErr (step_by number row line) IsOfText
row_of_text number None line = tt
row_of_text number (Some row) line = by_row_of_text number row line

named_of_text : (number : ℕ) (name : Option (List ℕ)) (line : Data) → IfErr (step_named number name line) IsOfText
named_of_text number None line = tt
named_of_text number (Some name) line = row_of_text number (row_named name) line

step_of_text : (number : ℕ) (line : Data) → IfErr (step_of_data number line) IsOfText
step_of_text number line = named_of_text number (name_of line) line

cuts_of_text : (cuts_allowed : Bool) (number : ℕ) (line : Data) → IfErr (cuts_of_data cuts_allowed number line) IsOfText
cuts_of_text true number line = by_row_of_text number disk_row line
cuts_of_text false number line = tt

json_of_text : (number : ℕ) (line : Option Data) → IfErr (json_of number line) IsOfText
json_of_text number (Some line) = tt
json_of_text number None = tt

data_of_text : (number : ℕ) (line : List ℕ) → IfErr (data_of_bytes number line) IsOfText
data_of_text number line =
    if_of_text (nat_lt line_limit (length line)) _ _ tt
    (if_of_text (not (is_utf8 line)) _ _ tt (json_of_text number (read line)))

line_of_text : (number : ℕ) (line : List ℕ) → IfErr (line_of_bytes number line) IsOfText
line_of_text number line =
    if_of_text (is_blank line) _ _ tt
    (then_of_text _ _ (then_of_text _ _ (data_of_text number line) (step_of_text number)) (λ step. tt))

lines_of_text : (number : ℕ) (lines : List (List ℕ)) → IfErr (lines_from number lines) IsOfText
unfolding lines_from
lines_of_text number [] = tt
lines_of_text number (line ∷ lines) =
    then_of_text _ _ (line_of_text number line)
    (λ first. then_of_text _ _ (lines_of_text (number + 1) lines) (λ later. tt))

begun_of_text : (cuts_allowed : Bool) (number : ℕ) (line : List ℕ) → IfErr (begun_by cuts_allowed number line) IsOfText
begun_of_text cuts_allowed number line =
    then_of_text _ _ (data_of_text number line)
    (λ value. if_of_text (is_disk (name_of value)) _ _
    (then_of_text _ _ (cuts_of_text cuts_allowed number value) (λ cuts. tt))
    (then_of_text _ _ (step_of_text number value) (λ step. tt)))

-- the fault of a script is one of the text
pub from_of_text : (cuts_allowed : Bool) (number : ℕ) (lines : List (List ℕ)) → IfErr (script_from cuts_allowed number lines) IsOfText
unfolding script_from
from_of_text cuts_allowed number [] = tt
from_of_text cuts_allowed number (line ∷ lines) =
    if_of_text (is_blank line) _ _ (from_of_text cuts_allowed (number + 1) lines)
    (then_of_text _ _ (begun_of_text cuts_allowed number line)
    (λ script. then_of_text _ _ (lines_of_text (number + 1) lines) (λ later. tt)))

-- ---- two scripts

-- a fault of the text of two scripts
abbrev pub IsOfTwo : PlainFault → Type 0
IsOfTwo NoDivider = Unit {0}
IsOfTwo why = IsOfText why

of_two : (why : PlainFault) → IsOfText why → IsOfTwo why
of_two NoDivider of_text = tt
of_two why of_text = of_text

both_of_text : (first second : Result PlainScript PlainFault) → IfErr first IsOfText → IfErr second IsOfText
    → IfErr {T = PlainScript × PlainScript} (then_ok first (λ one. then_ok second (λ other. Ok (one, other)))) IsOfTwo
both_of_text (Ok one) (Ok other) first second = tt
both_of_text (Ok one) (Err why) first second = of_two why second
both_of_text (Err why) other first second = of_two why first

-- the fault of two scripts is one of the text
pub two_of_text : (lines : List (List ℕ)) → IfErr (two_scripts lines) IsOfTwo
two_of_text lines =
    let before = before_first is_divider lines in
    let behind = after_first is_divider lines in
    elim (list_any is_divider lines) as (λ b. IfErr (cond b (both_scripts before (length before + 2) behind) (Err NoDivider)) IsOfTwo) [
      | true ↦ both_of_text _ _ (from_of_text false 1 before) (from_of_text false (length before + 2) behind)
      | false ↦ tt
    ]
