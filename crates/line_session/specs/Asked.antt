-- What the bytes of a line ask for.
-- Source: the script format of docs/FORMATS.md, as `script_lines` reads it.
-- Our own choice: bytes with a line feed are more than one line, and ask for nothing.
use Rattle.std.specs.Prelude.{◌≡◌, ℕ, Bool, true, not, ◌==◌, List, [], ◌∷◌, Option, Some, None}
use Rattle.std.specs.Prelude.{Result, Ok, Err}
use Rattle.std.specs.List.{list_all}
use Rattle.script_actions.specs.Action.{PlainLine, PlainStep}
use Rattle.script_lines.specs.Grammar.{line_of_bytes}
use Rattle.script_lines.specs.Script.{PlainFault}

-- no byte is a line feed
abbrev pub is_one_line : List ℕ → Bool
is_one_line bytes = list_all (λ b. not (b == 10)) bytes

-- the bytes are one line, and this is what they are as a line of a script
pub record IsReadAs (bytes : List ℕ) (line : Option PlainLine) : Type 0 where
  pub one : is_one_line bytes ≡ true
  pub read : line_of_bytes 1 bytes ≡ Ok line

-- the step of a line that was read
abbrev pub steps_in : Result (Option PlainLine) PlainFault → List PlainStep
steps_in (Ok (Some line)) = line.step ∷ []
steps_in (Ok None) = []
steps_in (Err fault) = []

-- the step that the bytes of a line ask for: none where they are blank, or have a fault
abbrev pub asked_by : List ℕ → List PlainStep
asked_by bytes = steps_in (line_of_bytes 1 bytes)
