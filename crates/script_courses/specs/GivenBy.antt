-- Which line of a script gives a site an entry of its local script.
-- Source: none; these are the words of the promise.
-- Our own choice: a line gives the entries that a run up to it gives the site, and a run up to the
-- line before it does not.
use Rattle.std.specs.Prelude.{◌≡◌, ℕ, ◌+◌, ◌<◌, ◌≤◌, List, ◌++◌, Some, length, map, slice_get}
use Rattle.std.specs.Prelude.{take}
use Rattle.script_actions.specs.Action.{PlainLine, PlainStep}
use Rattle.local_scripts.specs.Items.{AgentItem}
use Rattle.script_courses.specs.Twins.{TwinSetting, entries_of, script_in}

-- the entries that a run of these lines gives the site
abbrev pub entries_given : TwinSetting → List PlainStep → List AgentItem
entries_given at steps = entries_of (script_in at steps).script.items

-- The entry at this place is given by the line at this index, both from 0: a run up to this line
-- gives the site so many entries, and a run up to the line before it does not.
pub record IsGivenBy (at : TwinSetting) (steps : List PlainStep) (place index : ℕ) : Type 0 where
  pub within : index < length steps
  pub before : length (entries_given at (take index steps)) ≤ place
  pub by : place < length (entries_given at (take (index + 1) steps))

-- ---- numbers of lines

-- the steps of lines
abbrev pub line_steps : List PlainLine → List PlainStep
line_steps lines = map (λ line. line.step) lines

-- the numbers of lines
abbrev pub line_numbers : List PlainLine → List ℕ
line_numbers lines = map (λ line. line.number) lines

-- the entry at this place is given by a line of this number
abbrev pub IsNumber : TwinSetting → List PlainLine → (place number : ℕ) → Type 0
IsNumber at lines place number =
    (index : ℕ) × IsGivenBy at (line_steps lines) place index
    × (slice_get (line_numbers lines) index ≡ Some number)

-- these are the numbers of the lines that give the entries, in the order of the entries
pub record AreNumbers (at : TwinSetting) (lines : List PlainLine) (numbers : List ℕ)
    : Type 0 where
  pub all : length numbers ≡ length (entries_given at (line_steps lines))
  pub each : (place number : ℕ) → slice_get numbers place ≡ Some number
      → IsNumber at lines place number

-- ---- laws

-- the entries of a run are the front of those of a longer one
abbrev pub KeepsEntries : Type 0
KeepsEntries = (at : TwinSetting) (steps more : List PlainStep) → 0 < at.batch
    → (later : List AgentItem)
    × (entries_given at (steps ++ more) ≡ entries_given at steps ++ later)

-- an entry is given by one line at most
abbrev pub GivesByOne : Type 0
GivesByOne = (at : TwinSetting) (steps : List PlainStep) (place index other : ℕ) → 0 < at.batch
    → IsGivenBy at steps place index → IsGivenBy at steps place other → index ≡ other
