-- Which line of a script gives a site the entry at a place of its local script.
-- Source: none; these are the words of the promise.
-- Our own choice: which line gives an entry is said in `crates/script_courses/specs/GivenBy.antt`.
use Rattle.std.specs.Prelude.{◌≤◌, ℕ, List, Option, Some, None, length}
use Rattle.script_actions.specs.Action.{PlainLine}
use Rattle.script_courses.specs.GivenBy.{IsNumber, entries_given, line_steps}
use Rattle.script_courses.specs.Twins.{TwinSetting}

-- the number of the line that gives the entry at this place, and none where the entries are over
abbrev pub IsNumberAt : TwinSetting → List PlainLine → (place : ℕ) → Option ℕ → Type 0
IsNumberAt at lines place (Some number) = IsNumber at lines place number
IsNumberAt at lines place None = length (entries_given at (line_steps lines)) ≤ place
