-- What a dump of a store writes.
-- A clause on bytes speaks of a sink that tells its bytes; one that tells none has `None`.
-- Source: none.
-- Our own choice: the rows stand in the order of a snapshot, and each has one line. A dump that
-- stops has written a part of its text from the start, and nothing where the store was not opened.
use Rattle.std.specs.Prelude.{◌≡◌, ℕ, List, [], Option, Some, map, filter_map, flat_map, Result, Ok, Err, MatchResult}
use Rattle.agent_base.specs.Counts.{Rose}
use Rattle.agent_base.specs.Streams.{Takes, TakesPrefix}
use Rattle.suffix_list.specs.ListText.{RuleList}
use Rattle.row_changes.specs.Change.{PlainChange}
use Rattle.row_lines.specs.Row.{PlainRow, row_of, row_text}
use Rattle.durable_model.specs.Migrate.{IsUnder, migrate}
use Rattle.durable_model.specs.Saved.{IsValid, Saved}
use Rattle.spelled_model.specs.Rows.{IsReadSavedUnder}
use Rattle.row_store.specs.Listing.{listed}
use Rattle.row_opening.specs.Under.{MeansUnder}
use Rattle.store_dumps.specs.Opening.{opening_of}
use Rattle.store_dumps.specs.declared.fault.DumpFault.{DumpFault}
use Rattle.store_dumps.specs.declared.fault.DumpFault.TheVariants.{Open, Write, NoMemory}

-- the rows that row changes add to a store, in their order
abbrev pub rows_of : List PlainChange → List PlainRow
rows_of changes = filter_map row_of changes

-- the lines of these rows
abbrev pub rows_text : List PlainChange → List ℕ
rows_text changes = flat_map row_text (rows_of changes)

-- the lines of a durable state: those of the rows that its snapshot lists
abbrev pub dump_text : Saved → List ℕ
dump_text d = rows_text (listed d)

-- each row change that a snapshot of a state lists is a row, and a dump leaves none out
abbrev pub PrintsEachRow : Type 0
PrintsEachRow = (d : Saved) → IsValid d → map row_of (listed d) ≡ map Some (rows_of (listed d))

-- what the sink took of a text, by how the dump ended
abbrev pub Writes : {T : Type 0} → List ℕ → Result T DumpFault → (before after : Option (List ℕ))
    → Type 0
Writes text (Ok done) before after = Takes before after text
Writes text (Err (Open why)) before after = Takes before after []
Writes text (Err Write) before after = TakesPrefix before after text
Writes text (Err NoMemory) before after = TakesPrefix before after text

-- a state is what stays, under a list, of what a file that is told stands for, under whichever list
abbrev pub StandsAsTold : RuleList → (told : Option (List ℕ)) → Saved → Type 0
StandsAsTold list told d =
    (file : List ℕ) → told ≡ Some file
    → (kept : List ℕ) × (was : Saved) × (n : ℕ) × MeansUnder list.digest kept file was n
    × (d ≡ migrate list.rules was)

-- What the sink took of a store whose bytes may be told: where it was opened, of the lines of a
-- state that was read, and is one under the rules of a list, and what stays of what the bytes stand
-- for where they are told; and else nothing.
abbrev pub WritesSome : {T : Type 0} → RuleList → (told : Option (List ℕ)) → Result T DumpFault
    → (before after : Option (List ℕ)) → Type 0
WritesSome list told result before after =
    MatchResult (opening_of result)
    (λ _. (d : Saved) × IsValid d × IsUnder list.rules d × IsReadSavedUnder list.rules d
    × StandsAsTold list told d × Writes (dump_text d) result before after)
    (λ _. Takes before after [])

-- the count of faults of the output: writing failed where it rose, and else it stays
abbrev pub WriteCounts : {T : Type 0} → Result T DumpFault → (before after : ℕ) → Type 0
WriteCounts (Ok done) before after = after ≡ before
WriteCounts (Err (Open why)) before after = after ≡ before
WriteCounts (Err Write) before after = Rose before after
WriteCounts (Err NoMemory) before after = after ≡ before
