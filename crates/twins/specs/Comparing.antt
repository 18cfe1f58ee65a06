-- How two local scripts compare that were collected.
-- Source: none; these are the words of the promise.
use Rattle.std.specs.Prelude.{◌≡◌, ◌≢◌, ◌⊎◌, length}
use Rattle.local_scripts.specs.Difference.{DifferAt}
use Rattle.script_courses.specs.Twins.{Equal, LocalDiffer, Twin, acknowledged_in}
use Rattle.twins.specs.Scripts.{end_in, entries_in, items_of}
use Rattle.twins.specs.declared.scripts.LocalScript.{LocalScript}

-- how two local scripts compare: their entries first differ at this one, or only their ends do; or
-- they are equal, and so many replies were acknowledged
abbrev pub Compares : (one other : LocalScript) → Twin → Type 0
Compares one other (LocalDiffer entry) =
    DifferAt (entries_in one) (entries_in other) entry
    ⊎ ((entries_in one ≡ entries_in other) × (end_in one ≢ end_in other)
    × (entry ≡ length (entries_in one)))
Compares one other (Equal lines) =
    (entries_in one ≡ entries_in other) × (end_in one ≡ end_in other)
    × (lines ≡ acknowledged_in (items_of one))
