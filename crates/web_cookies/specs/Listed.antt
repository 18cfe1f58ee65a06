-- The cells that have cookies, by their kinds.
-- Source: none.
-- Our own choice: a cell without cookies is not listed.
use Rattle.std.specs.Prelude.{Bool, not, ◌&&◌, nat_lt, List, length, map}
use Rattle.std.specs.FinMap as finite
use Rattle.partition_limits.specs.declared.tally.CellKind.{CellKind}
use Rattle.partition_limits.specs.declared.tally.CellKind.TheVariants as kind
use Rattle.cookie_jar.specs.declared.key.CellKey.{CellKey}
use Rattle.cookie_jar.specs.Cookie.{PlainJar}
use Rattle.cookie_jar.specs.Key.{PlainKey, OwnCell, plain_key}
use Rattle.web_cookies.specs.Cells.{cell_key, is_partition}
use Rattle.web_cookies.specs.Stored.{Entries, partitioned_in, shared_in}

-- the cells of a kind that have cookies, in the order of their maps
abbrev pub cells_in : CellKind → Entries → List PlainKey
cells_in kind.Own entries = map (λ domain. OwnCell domain) (finite.keys (shared_in entries))
cells_in kind.Partition entries = map cell_key (finite.keys (partitioned_in entries))

-- ---- what private functions compute

-- the cell of a key is of a kind
abbrev pub is_of_kind : CellKind → PlainKey → Bool
is_of_kind kind.Own cell = not (is_partition cell)
is_of_kind kind.Partition cell = is_partition cell

-- an entry is of a kind and has cookies
abbrev pub is_listed : CellKind → CellKey × PlainJar → Bool
is_listed kind entry = is_of_kind kind (plain_key entry.0) && nat_lt 0 (length entry.1.cookies)
