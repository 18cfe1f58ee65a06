-- What one site has: its open tabs, and the storage under it.
-- Source: Storage Standard, "Model" (sheds, shelves, buckets and their modes); HTML, "Navigables"
-- and "Web storage", where an area belongs to a storage key; Storage Access API, "Permissions
-- Integration", where a permission belongs to a top-level site.
-- Our own choice: storage is divided by the site of the top document first. A storage key has that
-- site, so that the areas under a site are those whose key has it.
use Rattle.std.specs.Prelude.{ℕ, Bool, List, [], Option}
use Rattle.std.specs.Ordering.{nat_cmp, ordering_then}
use Rattle.std.specs.declared.cmp.Ordering.{Ordering}
use Rattle.std.specs.FinMap as map
use Rattle.unwinding.specs.FiniteCells.{Full, get_cell, set_cell}
use Rattle.origin_site.specs.Site.{PlainSite, same_plain_site}
use Rattle.storage_key.specs.Key.{PlainKey, key_order}
use Rattle.local_area.specs.Area.{Pair}
use Rattle.access_grants.specs.Grant.{PlainGrant}
use Rattle.storage_events.specs.declared.event.AreaKind.{AreaKind}
use Rattle.storage_events.specs.declared.event.AreaKind.TheVariants.{Local, Session}
use Rattle.live_state.specs.Tabs.{PlainTab}
use Rattle.agent_model.specs.PartitionedCells.{PartitionedCells, PartitionedKey}
use Rattle.agent_model.specs.PartitionedCells.{no_partitioned_cells}

-- a storage key has this top-level site
abbrev pub is_under : PlainSite → PlainKey → Bool
is_under site key = same_plain_site site key.top

-- a partitioned cell has this top-level site
abbrev pub is_cell_under : PlainSite → PartitionedKey → Bool
is_cell_under site key = same_plain_site site key.top

-- ---- areas

-- an area for each storage key. One that is empty and one that is absent are the same.
abbrev pub Areas : Type 0
Areas = map.FinMap key_order (Full Pair)

-- session areas belong to a tab and a storage key
abbrev pub SessionKey : Type 0
SessionKey = ℕ × PlainKey

-- by tab, and then by key
abbrev pub session_order : SessionKey → SessionKey → Ordering
session_order a b = ordering_then (nat_cmp a.0 b.0) (key_order a.1 b.1)

-- a session area for each tab and key. One that is empty and one that is absent are the same.
abbrev pub SessionAreas : Type 0
SessionAreas = map.FinMap session_order (Full Pair)

-- the keys whose bucket is persistent. That of every other key is best-effort.
abbrev pub Keys : Type 0
Keys = map.FinMap key_order (Unit {0})

-- ---- tabs

-- open tabs by their numbers
abbrev pub Tabs : Type 0
Tabs = map.FinMap nat_cmp PlainTab

-- ---- what is held

-- open tabs, and storage: local areas with the modes of their buckets, session areas, the
-- partitioned cells of cookies, and the permissions of storage access in the order of their pairs
pub record Holdings : Type 0 where
  pub tabs : Tabs
  pub areas : Areas
  pub persistent : Keys
  pub sessions : SessionAreas
  pub cookies : PartitionedCells
  pub grants : List PlainGrant

-- nothing at all
unfoldable pub no_holdings : Holdings
no_holdings =
    record {
      tabs = map.empty;
      areas = map.empty;
      persistent = map.empty;
      sessions = map.empty;
      cookies = no_partitioned_cells;
      grants = [];
    }

-- the open tab of a number
abbrev pub tab_named : ℕ → Holdings → Option PlainTab
tab_named number held = map.get held.tabs number

-- the holdings with this tab at a number, which is open or new
abbrev pub with_tab : ℕ → PlainTab → Holdings → Holdings
with_tab number tab held = record held { tabs = map.insert held.tabs number tab }

-- the holdings without the tab of a number
abbrev pub without_tab : ℕ → Holdings → Holdings
without_tab number held = record held { tabs = map.remove held.tabs number }

-- the pairs of an area of a tab's document, in their order
abbrev pub area_of : AreaKind → ℕ → PlainKey → Holdings → List Pair
area_of Local tab key held = get_cell key_order held.areas key
area_of Session tab key held = get_cell session_order held.sessions (tab, key)

-- the holdings with one area replaced
abbrev pub with_area : AreaKind → ℕ → PlainKey → List Pair → Holdings → Holdings
with_area Local tab key pairs held =
    record held { areas = set_cell key_order key pairs held.areas }
with_area Session tab key pairs held =
    record held { sessions = set_cell session_order (tab, key) pairs held.sessions }

-- ---- one site

-- what one site has
pub record Partition : Type 0 where
  pub site : PlainSite
  pub held : Holdings

-- a site that no tab has reached, and under which nothing is stored
unfoldable pub empty_partition : PlainSite → Partition
empty_partition site = record { site = site; held = no_holdings }
