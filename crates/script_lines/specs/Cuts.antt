-- The cuts of the power that the line `disk` asks for: a list of pairs of numbers, each the number
-- of a changing call of the disk and a pick of what the cut leaves.
-- Source: none. Our own choice: all of it. Calls are counted from 1 and rise strictly, a pick is
-- one of the four that a disk in memory has, and a script has at most 64 cuts.
use Rattle.std.specs.Prelude.{ℕ, Bool, true, ◌&&◌, nat_le, nat_lt, List, [], ◌∷◌, length}
use Rattle.std.specs.Prelude.{Option, Some, None, option_and_then, if◌then◌else◌}
use Rattle.serde_json.specs.Data.{Data}
use Rattle.serde_json.specs.Find.{as_array}
use Rattle.disk_model.specs.declared.schedule.Cut.{Cut}
use Rattle.script_lines.specs.declared.cuts.TheConstants.{MOST_CUTS, LAST_PICK}
use Rattle.script_lines.specs.Items.{each_of, two_of}
use Rattle.script_lines.specs.Words.{number_of, within}

-- the most cuts of a script
abbrev pub most_cuts : ℕ
most_cuts = MOST_CUTS

-- the last of the picks, which begin at 0
abbrev pub last_pick : ℕ
last_pick = LAST_PICK

-- a cut in this call with this pick, where both are there
abbrev pub cut_by : Option ℕ → Option ℕ → Option Cut
cut_by (Some call) (Some pick) = Some (record { call = call; pick = pick })
cut_by (Some call) None = None
cut_by None pick = None

-- the cut that a pair of numbers is
abbrev pub cut_of_pair : Data → Option Cut
cut_of_pair pair =
    option_and_then (λ (call, pick).
    cut_by (number_of call) (option_and_then (within 0 last_pick) (number_of pick))) (two_of pair)

-- the calls rise strictly, the first of them from behind this one
abbrev pub rise : ℕ → List Cut → Bool
rise last [] = true
rise last (cut ∷ cuts) = nat_lt last cut.call && rise cut.call cuts

-- no more cuts than a script may have, in calls that rise from 1 on
abbrev pub in_order : List Cut → Option (List Cut)
in_order cuts = if nat_le (length cuts) most_cuts && rise 0 cuts then Some cuts else None

-- the cuts that a value is
abbrev pub cuts_of_value : Data → Option (List Cut)
cuts_of_value value =
    option_and_then in_order (option_and_then (each_of cut_of_pair) (as_array value))
