-- What is kept of the world, and how a restart begins again with it.
-- Source: that of what is durable stands in `Saved`.
-- Our own choice: a restart opens a world without tabs, in which no cookie has been used. A row
-- change makes of one site's part, or of one cell, what it makes of a state that has this alone.
use Rattle.std.specs.Prelude.{Bool, false, List, [], ◌∷◌, Option, Some, None, if◌then◌else◌}
use Rattle.std.specs.FinMap as finite
use Rattle.unwinding.specs.Durable.{Keeping, Durable}
use Rattle.unwinding.specs.FiniteCells.{Full, get_cell, set_cell, restrict_cells}
use Rattle.origin_site.specs.Site.{PlainSite}
use Rattle.storage_key.specs.Context.{is_of}
use Rattle.stored_cookie.specs.StoredCookie.{PlainCookie}
use Rattle.cookie_jar.specs.Persistent.{persistent_part}
use Rattle.access_grants.specs.UnderSite.{grants_under}
use Rattle.row_changes.specs.Change.{PlainChange}
use Rattle.agent_model.specs.CookieCells.{CookieCells, Cookies, Domain, domain_order, no_cookies}
use Rattle.agent_model.specs.PartitionedCells.{PartitionedCells, PartitionedKey}
use Rattle.agent_model.specs.PartitionedCells.{no_partitioned_cells, partitioned_order}
use Rattle.agent_model.specs.Partition.{Partition, is_cell_under, is_under, no_holdings}
use Rattle.agent_model.specs.Effects.{SharedCells}
use Rattle.agent_model.specs.Lines.{Rest, no_places}
use Rattle.durable_model.specs.Saved.{SiteRows, Saved, no_rows}
use Rattle.durable_model.specs.RowEdits.{after_change, domain_of_change, top_of_change}

-- ---- what is kept

-- cells of these entries, with what outlives a restart of their cookies
abbrev pub kept_entries : List (PartitionedKey × Full PlainCookie) → PartitionedCells
kept_entries [] = no_partitioned_cells
kept_entries (e ∷ es) =
    set_cell partitioned_order e.0 (persistent_part (e.1.first ∷ e.1.rest)) (kept_entries es)

-- the same of all entries of cells
abbrev pub kept_cells : PartitionedCells → PartitionedCells
kept_cells cells = kept_entries (finite.entries cells)

-- what is kept of a partition
abbrev pub rows_kept : Partition → SiteRows
rows_kept partition =
    record {
      areas = partition.held.areas;
      persistent = partition.held.persistent;
      cookies = kept_cells partition.held.cookies;
      grants = partition.held.grants;
    }

-- the partition that a restart opens: no tab, no session area, and nothing else that is not durable
abbrev pub partition_again : PlainSite → SiteRows → Partition
partition_again site rows =
    record {
      site = site;
      held = record no_holdings {
        areas = rows.areas;
        persistent = rows.persistent;
        cookies = rows.cookies;
        grants = rows.grants;
      };
    }

-- ---- row changes of a part

-- a durable state with the rows of one site alone
abbrev pub rows_alone : SiteRows → Saved
rows_alone rows = record { under = rows; cells = no_cookies }

-- a durable state with unpartitioned cells alone
abbrev pub cells_alone : CookieCells → Saved
cells_alone cells = record { under = no_rows; cells = cells }

-- the rows of a site after a row change, which leaves them where it is under another site
abbrev pub rows_changed : PlainSite → PlainChange → SiteRows → SiteRows
rows_changed site change rows =
    if is_of site (top_of_change change) then (after_change (rows_alone rows) change).under
    else rows

-- a test of the domain whose unpartitioned cell a row change is of
abbrev pub passes : (Domain → Bool) → Option Domain → Bool
passes test None = false
passes test (Some domain) = test domain

-- the unpartitioned cells after a row change of one that passes a test
abbrev pub cells_changed : (Domain → Bool) → PlainChange → CookieCells → CookieCells
cells_changed test change cells =
    if passes test (domain_of_change change) then (after_change (cells_alone cells) change).cells
    else cells

-- the cookies of one unpartitioned cell after a row change
abbrev pub cell_changed : Domain → PlainChange → Cookies → Cookies
cell_changed domain change cookies =
    let alone = cells_alone (set_cell domain_order domain cookies no_cookies) in
    get_cell domain_order (after_change alone change).cells domain

-- ---- the record that the general law takes

-- what is kept of a world, and how row changes change it
unfoldable pub keeping :
    Keeping PlainSite Domain SharedCells Partition Cookies Rest PlainChange SiteRows Cookies
    CookieCells
keeping =
    record {
      partition_kept = rows_kept;
      cell_kept = λ domain cookies. persistent_part cookies;
      partition_again = partition_again;
      cell_again = λ domain cookies. cookies;
      rest_again = λ rest. record { now = rest.now; places = no_places };
      kept_get = get_cell domain_order;
      cells_again = λ cells. cells;
      kept_restrict = restrict_cells domain_order;
      partition_change = rows_changed;
      cell_change = cell_changed;
      cells_change = cells_changed;
    }

-- ---- one durable state, seen at each site

-- the rows of one site
abbrev pub rows_under : PlainSite → SiteRows → SiteRows
rows_under site rows =
    record {
      areas = finite.retain_keys rows.areas (is_under site);
      persistent = finite.retain_keys rows.persistent (is_under site);
      cookies = restrict_cells partitioned_order (is_cell_under site) rows.cookies;
      grants = grants_under site rows.grants;
    }

-- durable states as the general law has them: a part for each site, and the unpartitioned cells
abbrev pub AgentDurable : Type 0
AgentDurable = Durable PlainSite SiteRows CookieCells

-- a durable state as the general law has it
abbrev pub durable_of : Saved → AgentDurable
durable_of d = record { partition = λ site. rows_under site d.under; cells = d.cells }
