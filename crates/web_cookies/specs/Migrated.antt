-- What the cookies of all sites are of what they were, under a list of rules.
-- Source: which cells a list has is defined where it is imported from.
-- Our own choice: a cell stays or goes whole, with each of its cookies. A cell without cookies is
-- none.
use Rattle.std.specs.Prelude.{Bool, ◌&&◌, ◌||◌, ◌==◌, List, length}
use Rattle.std.specs.List.{list_all}
use Rattle.std.specs.FinMap as finite
use Rattle.unwinding.specs.FiniteCells.{get_cell}
use Rattle.suffix_list.specs.Suffix.{Rule}
use Rattle.cookie_jar.specs.Cookie.{PlainJar}
use Rattle.cookie_jar.specs.Key.{PlainKey, OwnCell, PartitionCell}
use Rattle.cookie_jar.specs.Stays.{cell_stays}
use Rattle.agent_model.specs.CookieCells.{Domain, domain_order}
use Rattle.agent_model.specs.Effects.{SharedCells}
use Rattle.agent_model.specs.PartitionedCells.{PartitionedCells, PartitionedKey}
use Rattle.agent_model.specs.PartitionedCells.{partitioned_order}

-- a cell that sites share stays with the cookies that it has
abbrev pub shared_stays : List Rule → SharedCells → Domain → Bool
shared_stays rules cells domain =
    cell_stays rules (OwnCell domain) (get_cell domain_order cells domain)

-- a partitioned cell stays with the cookies that it has
abbrev pub partitioned_stays : List Rule → PartitionedCells → PartitionedKey → Bool
partitioned_stays rules cells key =
    cell_stays rules (PartitionCell key.top key.bit key.domain)
    (get_cell partitioned_order cells key)

-- the cells that stay
abbrev pub shared_kept : List Rule → SharedCells → SharedCells
shared_kept rules cells = finite.retain_keys cells (shared_stays rules cells)

abbrev pub partitioned_kept : List Rule → PartitionedCells → PartitionedCells
partitioned_kept rules cells = finite.retain_keys cells (partitioned_stays rules cells)

-- each cell of both kinds stays
abbrev pub all_stay : List Rule → SharedCells → PartitionedCells → Bool
all_stay rules shared partitioned =
    list_all (shared_stays rules shared) (finite.keys shared)
    && list_all (partitioned_stays rules partitioned) (finite.keys partitioned)

-- ---- what private functions compute

-- a jar stays under a key. One without cookies stands for none, and stays.
abbrev pub jar_stays : List Rule → PlainKey → PlainJar → Bool
jar_stays rules cell jar = (length jar.cookies == 0) || cell_stays rules cell jar.cookies
