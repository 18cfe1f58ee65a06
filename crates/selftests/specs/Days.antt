-- What a run of a generated day prints.
-- Source: none.
-- Our own choice: the day runs under no rules, over an empty store, and its clock begins with the
-- year 2026.
use Rattle.std.specs.Prelude.{ℕ, List, [], ◌∷◌}
use Rattle.unwinding.specs.Admissible.{Acts, Reopens}
use Rattle.script_actions.specs.Action.{PlainAction, PlainStep}
use Rattle.agent_model.specs.Isolation.{transcript}
use Rattle.generated_day.specs.Day.{day_lines}

-- the moment at which the clock begins, 2026-01-01 00:00:00 UTC
abbrev pub day_start : ℕ
day_start = 1767225600

-- the actions of lines, but for those that open the store again, of which a day has none
abbrev pub actions_of : List PlainStep → List PlainAction
actions_of [] = []
actions_of (Acts action ∷ steps) = action ∷ actions_of steps
actions_of (Reopens ∷ steps) = actions_of steps

-- the text of a day: that of the replies of the world of all sites
abbrev pub day_text : (seed : ℕ) → List ℕ
day_text seed = transcript [] day_start (actions_of (day_lines seed))
