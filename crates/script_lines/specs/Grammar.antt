-- The script grammar: which bytes are a script, and else the first fault.
-- Source: the script format of docs/FORMATS.md. A line is JSON as the crate `serde_json` reads it:
-- of two members of one name the later counts, and nesting goes to 127.
-- Our own choice: all of it. A line `disk` counts only as the first one that is not skipped.
use Rattle.std.specs.Prelude.{ℕ, Bool, false, not, ◌+◌, ◌||◌, ◌==◌, nat_lt, List, [], ◌∷◌, ◌++◌}
use Rattle.std.specs.Prelude.{length, codes, bytes_eq, option_to_list, Option, Some, None}
use Rattle.std.specs.Prelude.{Result, Ok, Err, if◌then◌else◌}
use Rattle.std.specs.List.{list_all, slice_split}
use Rattle.std.specs.Str.{byte, is_utf8}
use Rattle.serde_json.specs.Data.{Data}
use Rattle.serde_json.specs.Read.{read}
use Rattle.script_actions.specs.Action.{PlainLine, PlainStep}
use Rattle.script_lines.specs.Script.{PlainScript, PlainFault, NotJson, LineTooLong, TooLong}
use Rattle.script_lines.specs.Script.{NotUtf8}
use Rattle.script_lines.specs.declared.reader.TheConstants.{SCRIPT_LIMIT, LINE_LIMIT}
use Rattle.script_lines.specs.Fields.{then_ok}
use Rattle.script_lines.specs.Steps.{name_of, step_of_data, cuts_of_data}

-- the most bytes of a script
abbrev pub script_limit : ℕ
script_limit = SCRIPT_LIMIT

-- the most bytes of a line without its end
abbrev pub line_limit : ℕ
line_limit = LINE_LIMIT

-- ---- lines

-- a line of spaces, tabs and CR alone, which is skipped
abbrev pub is_blank : List ℕ → Bool
is_blank line = list_all (λ b. b == byte " " || b == 0x09 || b == 0x0D) line

-- the value of a line, or that it is no JSON
abbrev pub json_of : ℕ → Option Data → Result Data PlainFault
json_of number (Some line) = Ok line
json_of number None = Err (NotJson number)

-- the value of a line that is not blank, or why it has none
abbrev pub data_of_bytes : ℕ → List ℕ → Result Data PlainFault
data_of_bytes number line =
    if nat_lt line_limit (length line) then Err (LineTooLong number)
    else (if not (is_utf8 line) then Err (NotUtf8 number) else json_of number (read line))

-- a line that asks for this
abbrev pub numbered : ℕ → PlainStep → PlainLine
numbered number step = record { number = number; step = step }

-- what a line gives to the script: nothing where it is blank
abbrev pub line_of_bytes : ℕ → List ℕ → Result (Option PlainLine) PlainFault
line_of_bytes number line =
    if is_blank line then Ok None
    else then_ok (then_ok (data_of_bytes number line) (step_of_data number))
    (λ step. Ok (Some (numbered number step)))

-- ---- the first line that is not blank

-- the name is that of a line which gives cuts
abbrev pub is_disk : Option (List ℕ) → Bool
is_disk (Some name) = bytes_eq name (codes "disk")
is_disk None = false

-- the script of one line: cuts where it is `disk`, and else what it asks for
abbrev pub begun_by_data : Bool → ℕ → Data → Result PlainScript PlainFault
begun_by_data cuts_allowed number line =
    if is_disk (name_of line) then then_ok (cuts_of_data cuts_allowed number line)
    (λ cuts. Ok (record { cuts = cuts; lines = [] }))
    else then_ok (step_of_data number line)
    (λ step. Ok (record { cuts = []; lines = numbered number step ∷ [] }))

-- the script of one line that is not blank
abbrev pub begun_by : Bool → ℕ → List ℕ → Result PlainScript PlainFault
begun_by cuts_allowed number line =
    then_ok (data_of_bytes number line) (begun_by_data cuts_allowed number)

-- ---- scripts

-- the lines of a script of which the first has this number, or the first fault
unfoldable pub lines_from : ℕ → List (List ℕ) → Result (List PlainLine) PlainFault
lines_from number [] = Ok []
lines_from number (line ∷ lines) =
    then_ok (line_of_bytes number line) (λ first.
    then_ok (lines_from (number + 1) lines) (λ later.
    Ok (option_to_list first ++ later)))

-- the lines of a text, between its line feeds. What stands behind the last one is a line, too.
abbrev pub lines_of : List ℕ → List (List ℕ)
lines_of bytes = slice_split (λ b. b == 10) bytes

-- a script with these lines behind its own
abbrev pub with_lines : PlainScript → List PlainLine → Result PlainScript PlainFault
with_lines script lines = Ok (record { cuts = script.cuts; lines = script.lines ++ lines })

-- the script of lines of which the first has this number. It begins with the first one that is not
-- blank; a line `disk` behind that is of no row of the table.
unfoldable pub script_from : Bool → ℕ → List (List ℕ) → Result PlainScript PlainFault
script_from cuts_allowed number [] = Ok (record { cuts = []; lines = [] })
script_from cuts_allowed number (line ∷ lines) =
    if is_blank line then script_from cuts_allowed (number + 1) lines
    else then_ok (begun_by cuts_allowed number line) (λ script.
    then_ok (lines_from (number + 1) lines) (with_lines script))

-- what bytes are as a script, which may have cuts or not. The length of the whole is looked at
-- before any line.
abbrev pub script_of_bytes : Bool → List ℕ → Result PlainScript PlainFault
script_of_bytes cuts_allowed bytes =
    if nat_lt script_limit (length bytes) then Err TooLong
    else script_from cuts_allowed 1 (lines_of bytes)
