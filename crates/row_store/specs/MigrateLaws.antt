-- What of a state stays under a suffix list, beside what snapshots and spellings ask of states.
-- Source: none; they are about our own definitions. What stays is defined in `Migrate` of
-- `durable_model`.
use Rattle.std.specs.Prelude.{List}
use Rattle.suffix_list.specs.Suffix.{Rule}
use Rattle.durable_model.specs.Migrate.{IsUnder, migrate}
use Rattle.durable_model.specs.Saved.{Saved}
use Rattle.spelled_model.specs.Rows.{IsReadSaved}
use Rattle.row_store.specs.Laws.{IsSpelledState, IsSpelledStateUnder, IsStorable}

-- of what stays a snapshot can be made again
abbrev pub MigratedIsStorable : Type 0
MigratedIsStorable = (rules : List Rule) (d : Saved) → IsStorable d → IsStorable (migrate rules d)

-- and its row changes have a spelling
abbrev pub MigratedIsSpelled : Type 0
MigratedIsSpelled = (rules : List Rule) (d : Saved)
    → IsSpelledState d → IsSpelledState (migrate rules d)

-- a state of which all stays under a list has the spellings of its row changes under the list
abbrev pub StayingIsSpelled : Type 0
StayingIsSpelled = (rules : List Rule) (d : Saved)
    → IsSpelledState d → IsUnder rules d → IsSpelledStateUnder rules d

-- and of a state with such spellings all stays under the list
abbrev pub SpelledStays : Type 0
SpelledStays = (rules : List Rule) (d : Saved) → IsSpelledStateUnder rules d → IsUnder rules d

-- they are spellings under no list too
abbrev pub UnderIsSpelled : Type 0
UnderIsSpelled = (rules : List Rule) (d : Saved) → IsSpelledStateUnder rules d → IsSpelledState d

-- what stays of a state that was read was read
abbrev pub MigratedIsRead : Type 0
MigratedIsRead = (rules : List Rule) (d : Saved) → IsReadSaved d → IsReadSaved (migrate rules d)
