-- A text cut at its first line feed or at a divider, and a script that begins with a line.
use Rattle.std.specs.Prelude.{ℕ, ◌+◌, Bool, List, [], ◌∷◌, ◌++◌, length, Option, Some, None}
use Rattle.std.specs.Prelude.{option_copied, Result, Ok, Err}
use Rattle.script_actions.specs.Action.{PlainLine}
use Rattle.script_lines.specs.Script.{PlainScript, PlainFault, NoDivider}
use Rattle.script_lines.specs.Grammar.{lines_of, script_from}
use Rattle.script_lines.specs.TwoScripts.{both_scripts}
use Rattle.script_lines.specs.declared.beginning.FirstLine.{FirstLine}
use Rattle.script_lines.specs.declared.two_scripts.Parts.{Parts}

-- the lines of what stands behind a line feed, and none where there was none
abbrev pub lines_after : Option (List ℕ) → List (List ℕ)
lines_after (Some later) = lines_of later
lines_after None = []

-- the bytes of the line feed and of what stands behind it
abbrev pub length_after : Option (List ℕ) → ℕ
length_after (Some later) = length later + 1
length_after None = 0

-- a line with its line feed and what stands behind that, where it has one
abbrev pub with_later : List ℕ → Option (List ℕ) → List ℕ
with_later line (Some later) = line ++ 10 ∷ later
with_later line None = line

-- what goes on with the lines later on, after these
abbrev pub after : List PlainLine → List PlainLine → Result (List PlainLine) PlainFault
after done later = Ok (done ++ later)

-- the script that begins with this line, and one without lines where there is none
abbrev pub script_at : Bool → Option FirstLine → Result PlainScript PlainFault
script_at cuts_allowed (Some first) =
    script_from cuts_allowed first.number
    (first.text.now ∷ lines_after (option_copied first.later))
script_at cuts_allowed None = Ok (record { cuts = []; lines = [] })

-- the scripts of the two parts of a text
abbrev pub scripts_in : Option Parts → Result (PlainScript × PlainScript) PlainFault
scripts_in (Some parts) =
    both_scripts (lines_of parts.before.now) parts.number (lines_of parts.behind.now)
scripts_in None = Err NoDivider
