-- The laws on spellings: each row change that a line makes has one, and is of rows under the list.
-- Source: none; these laws are about our own definitions.
-- Our own choice: that the texts of row changes are texts is a premise, since only the program's
-- strings can say so.
use Rattle.std.specs.Prelude.{◌≤◌, ℕ, List}
use Rattle.std.specs.List.{All}
use Rattle.unwinding.specs.World.{world_step}
use Rattle.unwinding.specs.Durable.{line_changes}
use Rattle.suffix_list.specs.Suffix.{Rule}
use Rattle.script_actions.specs.Action.{PlainAction}
use Rattle.row_changes.specs.Appended.{HasTexts}
use Rattle.row_changes.specs.Change.{PlainChange}
use Rattle.row_changes.specs.Spelled.{IsSpelled, IsSpelledUnder}
use Rattle.agent_model.specs.Lines.{AgentWorld}
use Rattle.agent_base.specs.Seconds.{last_moment}
use Rattle.agent_model.specs.TheMachine.{machine}
use Rattle.durable_model.specs.Migrate.{IsUnder}
use Rattle.durable_model.specs.Saved.{Saved, nothing_saved}
use Rattle.durable_model.specs.RowEdits.{after_change}
use Rattle.durable_model.specs.Sound.{IsSoundWorld}
use Rattle.durable_model.specs.Histories.{reopened_world}
use Rattle.spelled_model.specs.Addresses.{IsReadAction}
use Rattle.spelled_model.specs.Rows.{IsReadSaved, IsReadSavedUnder}
use Rattle.spelled_model.specs.Worlds.{IsReadWorld}

-- the row changes of a line have a spelling, where their texts are texts, and are of rows under the
-- list
abbrev pub LinesAreSpelled : Type 0
LinesAreSpelled = (rules : List Rule) (world : AgentWorld) (line : PlainAction)
    → IsSoundWorld world → IsReadWorld rules world → IsReadAction line
    → All (λ one. All HasTexts one.changes) (line_changes (machine rules) world line)
    → All (λ one. All (IsSpelledUnder rules) one.changes) (line_changes (machine rules) world line)

-- a line leads from such a world to such a world
abbrev pub LinesStayRead : Type 0
LinesStayRead = (rules : List Rule) (world : AgentWorld) (line : PlainAction)
    → IsSoundWorld world → IsReadWorld rules world → IsReadAction line
    → IsReadWorld rules (world_step (machine rules) world line)

-- a restart opens such a world with a durable state that was read and is under the list
abbrev pub OpensRead : Type 0
OpensRead = (rules : List Rule) (now : ℕ) (d : Saved) → now ≤ last_moment
    → IsReadSavedUnder rules d → IsReadWorld rules (reopened_world now d)

-- the state in which nothing is durable is such a state, under every list
abbrev pub NothingIsRead : Type 0
NothingIsRead = IsReadSaved nothing_saved
    × ((rules : List Rule) → IsReadSavedUnder rules nothing_saved)

-- a row change that has a spelling leads from a state that was read to such a state. One that is
-- not valid leaves it.
abbrev pub RowsStayRead : Type 0
RowsStayRead = (d : Saved) (change : PlainChange) → IsSpelled change
    → IsReadSaved d → IsReadSaved (after_change d change)

-- and one of rows under the list keeps the state under the list
abbrev pub RowsStayUnder : Type 0
RowsStayUnder = (rules : List Rule) (d : Saved) (change : PlainChange)
    → IsSpelledUnder rules change
    → IsReadSavedUnder rules d → IsReadSavedUnder rules (after_change d change)

-- a state that was read is one under the list, where all of it stays under the list
abbrev pub ReadUnder : Type 0
ReadUnder = (rules : List Rule) (d : Saved) → IsReadSaved d → IsUnder rules d
    → IsReadSavedUnder rules d
