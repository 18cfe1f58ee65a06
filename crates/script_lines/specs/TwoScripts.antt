-- Two scripts in one input, which is divided at a line.
-- Source: the script format of docs/FORMATS.md.
-- Our own choice: all of it. The first line that is the divider counts, and a later one is a line
-- of the second script. Neither script has cuts, and lines are numbered through the whole input.
use Rattle.std.specs.Prelude.{ℕ, Bool, false, ◌+◌, nat_lt, List, length, codes, bytes_eq}
use Rattle.std.specs.Prelude.{Result, Ok, Err, if◌then◌else◌}
use Rattle.std.specs.List.{after_first, before_first, list_any}
use Rattle.script_lines.specs.Script.{PlainScript, PlainFault, TooLong, NoDivider}
use Rattle.script_lines.specs.Fields.{then_ok}
use Rattle.script_lines.specs.Grammar.{lines_of, script_from, script_limit}

-- the line that divides two scripts, which has nothing beside its three signs
abbrev pub is_divider : List ℕ → Bool
is_divider line = bytes_eq line (codes "===")

-- the script of the lines before a divider, and that of the lines behind it, of which the first has
-- this number. The faults of the first one come before those of the second.
abbrev pub both_scripts : List (List ℕ) → ℕ → List (List ℕ)
    → Result (PlainScript × PlainScript) PlainFault
both_scripts before number behind =
    then_ok (script_from false 1 before) (λ first.
    then_ok (script_from false number behind) (λ second.
    Ok (first, second)))

-- the two scripts of lines: what stands before the first divider, and what stands behind it, where
-- the numbers go on past the divider's own
abbrev pub two_scripts : List (List ℕ) → Result (PlainScript × PlainScript) PlainFault
two_scripts lines =
    let before = before_first is_divider lines in
    if list_any is_divider lines
    then both_scripts before (length before + 2) (after_first is_divider lines)
    else Err NoDivider

-- what bytes are as two scripts. The length of the whole is looked at first, then whether a line
-- divides it, and then the lines.
abbrev pub two_of_bytes : List ℕ → Result (PlainScript × PlainScript) PlainFault
two_of_bytes bytes =
    if nat_lt script_limit (length bytes) then Err TooLong else two_scripts (lines_of bytes)
