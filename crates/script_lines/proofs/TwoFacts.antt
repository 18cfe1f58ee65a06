-- Inputs of two scripts, so that a wrong rule in the specs does not check.
use Rattle.std.proofs.Common.{◌≡◌, ◌<◌, ◌∷◌, refl, length, List, ℕ, [], Ok, Err, lt-ltb}
use Rattle.std.specs.Prelude.{codes}
use Rattle.std.proofs.lemmas.Bool.{cond-true}
use Rattle.std.specs.Str.{is_utf8, chars}
use Rattle.serde_json.proofs.OnLiterals.{serde_json_on_literals}
use Rattle.unwinding.specs.Admissible.{Reopens}
use Rattle.script_actions.specs.Action.{PlainLine}
use Rattle.script_lines.specs.Script.{PlainScript, BadField, NoDivider, NotJson, TooLong, UnknownAction}
use Rattle.script_lines.specs.Actions.{table}
use Rattle.script_lines.specs.Grammar.{lines_from, script_from, script_limit}
use Rattle.script_lines.specs.TwoScripts.{two_of_bytes}

-- a script of these lines without cuts
abbrev with_lines : List PlainLine → PlainScript
with_lines lines = record { cuts = []; lines = lines }

-- a line that asks for a restart
abbrev restart : ℕ → PlainLine
restart number = record { number = number; step = Reopens }

-- ---- parts

-- the divider alone, without a line feed and with one
both_empty : two_of_bytes (codes "===") ≡ Ok (with_lines [], with_lines [])
unfolding script_from
both_empty = refl

with_its_end : two_of_bytes (codes "===\n") ≡ Ok (with_lines [], with_lines [])
unfolding script_from
with_its_end = refl

-- the divider is counted, and blank lines are
numbers_go_on : two_of_bytes (codes "\n{\"do\":\"restart\"}\n===\n\n{\"do\":\"restart\"}") ≡ Ok (with_lines (restart 2 ∷ []), with_lines (restart 5 ∷ []))
unfolding script_from lines_from is_utf8 chars table serde_json_on_literals
numbers_go_on = refl

-- of two the first one divides
later_divider : two_of_bytes (codes "===\n===") ≡ Err (NotJson 2)
unfolding script_from lines_from is_utf8 chars table serde_json_on_literals
later_divider = refl

-- ---- no divider

nothing : two_of_bytes [] ≡ Err NoDivider
nothing = refl

two_signs : two_of_bytes (codes "==\n=") ≡ Err NoDivider
two_signs = refl

four_signs : two_of_bytes (codes "====") ≡ Err NoDivider
four_signs = refl

space_behind : two_of_bytes (codes "=== \n") ≡ Err NoDivider
space_behind = refl

space_before : two_of_bytes (codes " ===") ≡ Err NoDivider
space_before = refl

carriage_return : two_of_bytes (codes "===\r\n") ≡ Err NoDivider
carriage_return = refl

-- no line is looked at without one
bad_lines : two_of_bytes (codes "x\nx") ≡ Err NoDivider
bad_lines = refl

-- ---- the order of faults

-- the length comes before all others
too_long : (bytes : List ℕ) → script_limit < length bytes → two_of_bytes bytes ≡ Err TooLong
too_long bytes long = cond-true _ _ _ (lt-ltb _ _ long)

first_before_second : two_of_bytes (codes "x\n===\n[]") ≡ Err (NotJson 1)
unfolding script_from lines_from is_utf8 chars table serde_json_on_literals
first_before_second = refl

second_in_the_input : two_of_bytes (codes "\n\n===\n\n[]") ≡ Err (BadField 5 (codes "do"))
unfolding script_from lines_from is_utf8 chars table serde_json_on_literals
second_in_the_input = refl

-- ---- cuts

disk_in_the_first : two_of_bytes (codes "\n{\"do\":\"disk\",\"cuts\":[]}\n===") ≡ Err (BadField 2 (codes "cuts"))
unfolding script_from lines_from is_utf8 chars table serde_json_on_literals
disk_in_the_first = refl

disk_in_the_second : two_of_bytes (codes "===\n\n{\"do\":\"disk\",\"cuts\":[]}") ≡ Err (BadField 3 (codes "cuts"))
unfolding script_from lines_from is_utf8 chars table serde_json_on_literals
disk_in_the_second = refl

later_disk : two_of_bytes (codes "===\n{\"do\":\"restart\"}\n{\"do\":\"disk\",\"cuts\":[]}") ≡ Err (UnknownAction 3)
unfolding script_from lines_from is_utf8 chars table serde_json_on_literals
later_disk = refl
