-- The cells of all cookies by plain keys.
-- Source: none; a container of our own.
use Rattle.std.specs.Prelude.{◌≡◌, Bool, true, false, List, [], map, Option, Some, None, IfSome}
use Rattle.std.specs.Ordering.{bool_cmp, ordering_then}
use Rattle.std.specs.declared.cmp.Ordering.{Ordering}
use Rattle.key_map.specs.Entries.{map_get}
use Rattle.partition_limits.specs.declared.tally.CellKind.{CellKind}
use Rattle.partition_limits.specs.declared.tally.CellKind.TheVariants as kind
use Rattle.cookie_jar.specs.Cookie.{PlainJar}
use Rattle.cookie_jar.specs.Key.{PlainKey, OwnCell, PartitionCell, plain_key}
use Rattle.agent_model.specs.CookieCells.{Cookies}
use Rattle.agent_model.specs.PartitionedCells.{PartitionedKey, partitioned_order}
use Rattle.web_cookies.specs.Stored.{Entries}

-- a cell is a partitioned one
abbrev pub is_partition : PlainKey → Bool
is_partition (OwnCell domain) = false
is_partition (PartitionCell top bit domain) = true

-- what a key is made of. One of an unpartitioned cell has a domain alone.
abbrev pub parts_of : PlainKey → PartitionedKey
parts_of (OwnCell domain) =
    record { top = record { https = false; host = [] }; bit = false; domain = domain }
parts_of (PartitionCell top bit domain) = record { top = top; bit = bit; domain = domain }

-- the key of a partitioned cell
abbrev pub cell_key : PartitionedKey → PlainKey
cell_key key = PartitionCell key.top key.bit key.domain

-- unpartitioned cells by domain, and then partitioned ones by their parts
abbrev pub cell_order : PlainKey → PlainKey → Ordering
cell_order a b =
    ordering_then (bool_cmp (is_partition a) (is_partition b))
    (partitioned_order (parts_of a) (parts_of b))

-- entries by plain keys
abbrev pub plain_entries : Entries → List (PlainKey × PlainJar)
plain_entries entries = map (λ entry. (plain_key entry.0, entry.1)) entries

-- the jar of a key, where there is one
abbrev pub jar_at : PlainKey → Entries → Option PlainJar
jar_at key entries = map_get cell_order key (plain_entries entries)

-- the cookies of a jar that may not be there
abbrev pub cookies_of : Option PlainJar → Cookies
cookies_of None = []
cookies_of (Some jar) = jar.cookies

-- the cookies of a key
abbrev pub cookies_at : PlainKey → Entries → Cookies
cookies_at key entries = cookies_of (jar_at key entries)

-- the kind of the cell of a key
abbrev pub kind_of : PlainKey → CellKind
kind_of (OwnCell domain) = kind.Own
kind_of (PartitionCell top bit domain) = kind.Partition

-- each jar is of the kind of its key
abbrev pub HaveKinds : Entries → Type 0
HaveKinds entries =
    (key : PlainKey) → IfSome (jar_at key entries) (λ jar. jar.kind ≡ kind_of key)
