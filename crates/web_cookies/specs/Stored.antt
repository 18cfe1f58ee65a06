-- The cookies of all sites, as the machine of one site sees them: the cells that sites share, and
-- the partitioned cells. And what it is that an effect of that machine is done to them.
-- Source: RFC 6265bis, "Storage Model"; CHIPS, "Partitioning model".
-- Our own choice: a cell that is empty and one that is absent are the same.
use Rattle.std.specs.Prelude.{◌≡◌, List, [], ◌∷◌}
use Rattle.unwinding.specs.FiniteCells.{set_cell}
use Rattle.cookie_jar.specs.declared.key.CellKey.{CellKey}
use Rattle.cookie_jar.specs.Cookie.{PlainJar}
use Rattle.cookie_jar.specs.Key.{PlainKey, OwnCell, PartitionCell, plain_key}
use Rattle.reply_lines.specs.Reply.{PlainBody}
use Rattle.agent_model.specs.CookieCells.{Cookies, domain_order, no_cookies}
use Rattle.agent_model.specs.PartitionedCells.{PartitionedCells, partitioned_order}
use Rattle.agent_model.specs.PartitionedCells.{no_partitioned_cells}
use Rattle.agent_model.specs.Partition.{Holdings}
use Rattle.agent_model.specs.Effects.{Done, Effect, SharedCells}

-- what contracts see: a jar for each key
abbrev pub Entries : Type 0
Entries = List (CellKey × PlainJar)

-- shared cells with these cookies under a key. A partitioned cell is none of them.
abbrev pub with_shared : PlainKey → Cookies → SharedCells → SharedCells
with_shared (OwnCell domain) cookies cells = set_cell domain_order domain cookies cells
with_shared (PartitionCell top bit domain) cookies cells = cells

-- the cells that sites share
abbrev pub shared_in : Entries → SharedCells
shared_in [] = no_cookies
shared_in (entry ∷ entries) =
    with_shared (plain_key entry.0) entry.1.cookies (shared_in entries)

-- partitioned cells with these cookies under a key. A cell that sites share is none of them.
abbrev pub with_partitioned : PlainKey → Cookies → PartitionedCells → PartitionedCells
with_partitioned (OwnCell domain) cookies cells = cells
with_partitioned (PartitionCell top bit domain) cookies cells =
    set_cell partitioned_order (record { top = top; bit = bit; domain = domain }) cookies cells

-- the partitioned cells
abbrev pub partitioned_in : Entries → PartitionedCells
partitioned_in [] = no_partitioned_cells
partitioned_in (entry ∷ entries) =
    with_partitioned (plain_key entry.0) entry.1.cookies (partitioned_in entries)

-- what is held elsewhere, with these cookies
abbrev pub held_with : Entries → Holdings → Holdings
held_with entries held = record held { cookies = partitioned_in entries }

-- what was done leaves these cookies beside what is held, and answers this
pub record IsDone (done : Done) (entries : Entries) (others : Holdings) (answer : PlainBody)
    : Type 0 where
  pub cells : shared_in entries ≡ done.cells
  pub held : held_with entries others ≡ done.held
  pub body : answer ≡ done.body

-- an effect makes these cookies of those, whatever else is held, and answers this
abbrev pub IsDoneBy : Effect → (old new : Entries) → PlainBody → Type 0
IsDoneBy does old new body =
    (others : Holdings) → IsDone (does (shared_in old) (held_with old others)) new others body
