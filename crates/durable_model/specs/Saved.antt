-- What is durable: what outlives a restart, of all sites at once.
-- Source: Storage Standard, "Model" (a local bucket outlives the session, and a session bucket does
-- not); RFC 6265bis, "Storage Model" (the persistent-flag); Permissions, "Permission lifetime".
-- Our own choice: tabs, session areas, session cookies, the storage access of documents and the
-- times of last use do not outlive one. There is one list of permissions, in the order in which
-- their pairs came, for all sites.
use Rattle.std.specs.Prelude.{◌≡◌, ◌≤◌, pos, Bool, true, ◌&&◌, List, []}
use Rattle.std.specs.List.{list_all}
use Rattle.std.specs.Ordering.{int_eq}
use Rattle.std.specs.FinMap as finite
use Rattle.unwinding.specs.FiniteCells.{get_cell, set_cell}
use Rattle.storage_key.specs.Key.{PlainKey, key_order}
use Rattle.local_area.specs.Area.{Pair}
use Rattle.partition_limits.specs.declared.tally.CellKind.{CellKind}
use Rattle.partition_limits.specs.declared.tally.CellKind.TheVariants as kind
use Rattle.cookie_jar.specs.Cookie.{PlainCookie, copies}
use Rattle.cookie_jar.specs.Key.{PlainKey as PlainCell, OwnCell, PartitionCell}
use Rattle.cookie_jar.specs.Lifetime.{is_persistent}
use Rattle.access_grants.specs.Grant.{PlainGrant}
use Rattle.agent_model.specs.CookieCells.{CookieCells, Cookies, domain_order, no_cookies}
use Rattle.agent_model.specs.PartitionedCells.{PartitionedCells, PartitionedKey}
use Rattle.agent_model.specs.PartitionedCells.{no_partitioned_cells, partitioned_order}
use Rattle.agent_model.specs.Partition.{Areas, Keys}

-- what is durable under top-level sites: local areas, the keys whose buckets are persistent, the
-- persistent cookies of partitioned cells, and permissions in the order in which their pairs came
pub record SiteRows : Type 0 where
  pub areas : Areas
  pub persistent : Keys
  pub cookies : PartitionedCells
  pub grants : List PlainGrant

-- a durable state: that of all sites, and the persistent cookies of unpartitioned cells
pub record Saved : Type 0 where
  pub under : SiteRows
  pub cells : CookieCells

-- nothing is durable of a site
unfoldable pub no_rows : SiteRows
no_rows =
    record {
      areas = finite.empty;
      persistent = finite.empty;
      cookies = no_partitioned_cells;
      grants = [];
    }

-- nothing is durable
unfoldable pub nothing_saved : Saved
nothing_saved = record { under = no_rows; cells = no_cookies }

-- ---- one area and one cell

-- the pairs of a key's area
abbrev pub pairs_at : PlainKey → Saved → List Pair
pairs_at key d = get_cell key_order d.under.areas key

-- the state with other pairs there
abbrev pub with_pairs : PlainKey → List Pair → Saved → Saved
with_pairs key pairs d =
    record d { under = record (d.under) { areas = set_cell key_order key pairs d.under.areas } }

-- the persistent cookies of a cell, in order of place
abbrev pub cookies_at : PlainCell → Saved → Cookies
cookies_at (OwnCell domain) d = get_cell domain_order d.cells domain
cookies_at (PartitionCell top bit domain) d =
    get_cell partitioned_order d.under.cookies (record { top = top; bit = bit; domain = domain })

-- the state with other cookies there
abbrev pub with_cookies : PlainCell → Cookies → Saved → Saved
with_cookies (OwnCell domain) cookies d =
    record d { cells = set_cell domain_order domain cookies d.cells }
with_cookies (PartitionCell top bit domain) cookies d =
    let key : PartitionedKey = record { top = top; bit = bit; domain = domain } in
    let cells = set_cell partitioned_order key cookies d.under.cookies in
    record d { under = record (d.under) { cookies = cells } }

-- which limits a cell keeps
abbrev pub kind_of : PlainCell → CellKind
kind_of (OwnCell domain) = kind.Own
kind_of (PartitionCell top bit domain) = kind.Partition

-- ---- valid states

-- a cookie as it outlives a restart: it has an expiry, and its last use is 0
abbrev pub is_kept_cookie : PlainCookie → Bool
is_kept_cookie c = is_persistent c && int_eq c.last (pos 0)

-- a cell as it outlives one: such cookies, and no two that are the same
abbrev pub IsKeptCell : Cookies → Type 0
IsKeptCell cookies =
    (list_all is_kept_cookie cookies ≡ true) × ((c : PlainCookie) → copies c cookies ≤ 1)

-- a durable state that row changes lead to: each of its cells is so
abbrev pub IsValid : Saved → Type 0
IsValid d = (cell : PlainCell) → IsKeptCell (cookies_at cell d)
