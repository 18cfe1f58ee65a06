-- The partitioned cookies of one site: those that are kept under it as the top-level site.
-- Source: the draft "Cookies Having Independent Partitioned State" (CHIPS), "Partitioning model":
-- the partition key is the top-level site and the ancestor chain bit.
-- Our own choice: a cell is that of a partition key and a domain.
use Rattle.std.specs.Prelude.{Bool}
use Rattle.std.specs.Ordering.{bool_cmp, ordering_then}
use Rattle.std.specs.declared.cmp.Ordering.{Ordering}
use Rattle.std.specs.FinMap as map
use Rattle.unwinding.specs.FiniteCells.{Full}
use Rattle.origin_site.specs.Site.{PlainSite}
use Rattle.storage_key.specs.Key.{site_order}
use Rattle.stored_cookie.specs.StoredCookie.{PlainCookie}
use Rattle.agent_model.specs.CookieCells.{Domain, domain_order}

-- what names a partitioned cell
pub record PartitionedKey : Type 0 where
  pub top : PlainSite
  pub bit : Bool
  pub domain : Domain

-- by top-level site, ancestor bit and domain
abbrev pub partitioned_order : PartitionedKey → PartitionedKey → Ordering
partitioned_order a b =
    ordering_then (site_order a.top b.top)
    (ordering_then (bool_cmp a.bit b.bit) (domain_order a.domain b.domain))

-- a cell for each key. One that is empty and one that is absent are the same.
abbrev pub PartitionedCells : Type 0
PartitionedCells = map.FinMap partitioned_order (Full PlainCookie)

-- no cell has a cookie
unfoldable pub no_partitioned_cells : PartitionedCells
no_partitioned_cells = map.empty
