-- The worlds that lines of read addresses lead to.
-- Source: none; these are what the law on spellings asks of a world.
-- Our own choice: permissions and keys of persistent buckets need nothing, since no row change is
-- made from them. Cells do, as `IsReadCell` says.
use Rattle.std.specs.Prelude.{◌<◌, ◌≤◌, ℕ, List, length}
use Rattle.unwinding.specs.FiniteCells.{get_cell}
use Rattle.suffix_list.specs.Suffix.{Rule}
use Rattle.origin_site.specs.Site.{PlainSite}
use Rattle.storage_key.specs.Key.{PlainKey, key_order}
use Rattle.agent_model.specs.CookieCells.{Domain, domain_order}
use Rattle.agent_model.specs.PartitionedCells.{PartitionedKey, partitioned_order}
use Rattle.agent_model.specs.Partition.{Areas, tab_named}
use Rattle.agent_model.specs.Lines.{AgentWorld}
use Rattle.agent_base.specs.Seconds.{last_moment}
use Rattle.spelled_model.specs.Frames.{IsReadTab}
use Rattle.spelled_model.specs.Rows.{IsNamedKey, IsReadCell}

-- each key that has a local area is a named key
abbrev pub AreNamed : List Rule → Areas → Type 0
AreNamed rules areas =
    (key : PlainKey) → 0 < length (get_cell key_order areas key) → IsNamedKey rules key

-- the clock is one that a run can have; the frames of each open tab are read; each key that has a
-- local area is a named key; and each cell of cookies keeps its limit
pub record IsReadWorld (rules : List Rule) (world : AgentWorld) : Type 0 where
  pub clock : world.rest.now ≤ last_moment
  pub tabs : (site : PlainSite) (tab : ℕ)
      → IsReadTab rules (tab_named tab (world.partition site).held)
  pub areas : (site : PlainSite) → AreNamed rules (world.partition site).held.areas
  pub shared : (domain : Domain) → IsReadCell (get_cell domain_order world.cells domain)
  pub partitioned : (site : PlainSite) (key : PartitionedKey)
      → IsReadCell (get_cell partitioned_order (world.partition site).held.cookies key)
