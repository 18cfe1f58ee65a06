-- The lines of a local script: that of each item, and that of its end.
-- Source: none.
-- Our own choice: the format is that of `crates/item_lines/specs/Item.antt`.
use Rattle.std.specs.Prelude.{◌≡◌, ◌≤◌, ◌^◌, ℕ, List, Option, Some, None, length, slice_get}
use Rattle.std.specs.List.{All}
use Rattle.item_lines.specs.Item.{end_text, item_text}
use Rattle.item_lines.specs.Numbers.{IsEnd, IsInRange}
use Rattle.item_lines.specs.Script.{script_text}
use Rattle.local_scripts.specs.Items.{AgentItem}
use Rattle.twins.specs.Scripts.{end_in, entries_in}
use Rattle.twins.specs.declared.scripts.LocalScript.{LocalScript}

-- The text of these entries and this end, whose numbers have 64 bits, as those of every local
-- script in memory do. So it tells them apart from all others.
pub record IsText (entries : List AgentItem) (end : AgentItem) (text : List ℕ) : Type 0 where
  pub few : length entries ≤ 2 ^ 64
  pub entries_fit : All IsInRange entries
  pub end_fits : IsEnd end
  pub is : text ≡ script_text entries end

-- the text of a local script that was collected
abbrev pub IsTextOf : LocalScript → List ℕ → Type 0
IsTextOf script text = IsText (entries_in script) (end_in script) text

-- the line of an entry at its place, or that of the end where there is none
abbrev pub line_or_end : (place : ℕ) → Option AgentItem → (end : AgentItem) → List ℕ
line_or_end place (Some item) end = item_text place item
line_or_end place None end = end_text end

-- the line of the entry at a place, from 0, or that of the end where the entries are over
abbrev pub line_at : (place : ℕ) → List AgentItem → (end : AgentItem) → List ℕ
line_at place entries end = line_or_end place (slice_get entries place) end

-- the numbers of that line have 64 bits
abbrev pub IsLineInRange : Option AgentItem → (end : AgentItem) → Type 0
IsLineInRange (Some item) end = IsInRange item
IsLineInRange None end = IsEnd end
