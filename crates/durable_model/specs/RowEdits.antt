-- What a row change makes of a durable state, and where it is valid.
-- Source: Storage Standard, the quota of the endpoint `localStorage`; RFC 6265bis, "Storage Model"
-- (the limits of a cookie store).
-- Our own choice: a row change that is not valid leaves the state as it is. Here it is tested by
-- the state, and by whether a cookie outlives a restart. What else its fields must be is tested
-- where its bytes are read: that texts read back, or that a permission is one of https sites.
use Rattle.std.specs.Prelude.{◌≡◌, Bool, true, not, ◌&&◌, nat_le, nat_lt, List, [], ◌∷◌, length}
use Rattle.std.specs.Prelude.{fold, Option, Some, None, is_some, if◌then◌else◌}
use Rattle.std.specs.FinMap as finite
use Rattle.unwinding.specs.Durable.{DurableChange}
use Rattle.origin_site.specs.Site.{PlainSite}
use Rattle.local_area.specs.Area.{area_get, area_put, area_remove, area_weight, quota}
use Rattle.cookie_jar.specs.Key.{PlainKey as PlainCell, OwnCell, PartitionCell}
use Rattle.cookie_jar.specs.Persistent.{CookieRow, RowInsert, RowReplace, RowRemove, row_edit}
use Rattle.cookie_jar.specs.Persistent.{row_fits}
use Rattle.access_grants.specs.Grant.{with_row}
use Rattle.row_changes.specs.Change.{PlainChange, AreaPut, AreaRemove, AreaClear, SetMode}
use Rattle.row_changes.specs.Change.{CookieInsert, CookieReplace, CookieRemove, Grant}
use Rattle.agent_model.specs.CookieCells.{Domain}
use Rattle.durable_model.specs.Saved.{Saved, cookies_at, is_kept_cookie, kind_of, pairs_at}
use Rattle.durable_model.specs.Saved.{with_cookies, with_pairs}

-- ---- where it is valid

-- the cookie that a change of a cell puts outlives a restart
abbrev pub puts_kept : CookieRow → Bool
puts_kept (RowInsert place cookie) = is_kept_cookie cookie
puts_kept (RowReplace place cookie) = is_kept_cookie cookie
puts_kept (RowRemove place) = true

-- a change of a cell: the cookie outlives a restart; the place is one of the cell, the same cookie
-- is there or nowhere, and the limits hold afterwards
abbrev pub is_valid_in : PlainCell → CookieRow → Saved → Bool
is_valid_in cell row d = puts_kept row && row_fits (kind_of cell) (cookies_at cell d) row

-- a row change is valid: an area keeps its quota, a name that is removed and an area that is
-- cleared are there, a bucket that becomes persistent is not so yet, and each cell is as above
abbrev pub is_valid : PlainChange → Saved → Bool
is_valid (AreaPut key name value) d =
    nat_le (area_weight (area_put name value (pairs_at key d))) quota
is_valid (AreaRemove key name) d = is_some (area_get name (pairs_at key d))
is_valid (AreaClear key) d = nat_lt 0 (length (pairs_at key d))
is_valid (SetMode key) d = not (finite.contains_key d.under.persistent key)
is_valid (CookieInsert cell place cookie) d = is_valid_in cell (RowInsert place cookie) d
is_valid (CookieReplace cell place cookie) d = is_valid_in cell (RowReplace place cookie) d
is_valid (CookieRemove cell place) d = is_valid_in cell (RowRemove place) d
is_valid (Grant row) d = true

-- ---- what it makes

-- a change of a cell is done
abbrev pub edited_in : PlainCell → CookieRow → Saved → Saved
edited_in cell row d = with_cookies cell (row_edit (cookies_at cell d) row) d

-- a row change is done
abbrev pub edited : PlainChange → Saved → Saved
edited (AreaPut key name value) d = with_pairs key (area_put name value (pairs_at key d)) d
edited (AreaRemove key name) d = with_pairs key (area_remove name (pairs_at key d)) d
edited (AreaClear key) d = with_pairs key [] d
edited (SetMode key) d =
    record d {
      under = record (d.under) { persistent = finite.insert d.under.persistent key tt };
    }
edited (CookieInsert cell place cookie) d = edited_in cell (RowInsert place cookie) d
edited (CookieReplace cell place cookie) d = edited_in cell (RowReplace place cookie) d
edited (CookieRemove cell place) d = edited_in cell (RowRemove place) d
edited (Grant row) d =
    record d { under = record (d.under) { grants = with_row row d.under.grants } }

-- the state after a row change, which leaves it where it is not valid
abbrev pub after_change : Saved → PlainChange → Saved
after_change d change = if is_valid change d then edited change d else d

-- the state after row changes, in their order
abbrev pub after_changes : Saved → List PlainChange → Saved
after_changes d changes = fold after_change d changes

-- the state after durable changes, in their order
abbrev pub after_all : Saved → List (DurableChange PlainSite PlainChange) → Saved
after_all d [] = d
after_all d (one ∷ more) = after_all (after_changes d one.changes) more

-- each row change is valid in the state before it
abbrev pub AreValid : Saved → List PlainChange → Type 0
AreValid d [] = Unit {0}
AreValid d (change ∷ changes) = (is_valid change d ≡ true) × AreValid (edited change d) changes

-- and so is each of these durable changes
abbrev pub AllAreValid : Saved → List (DurableChange PlainSite PlainChange) → Type 0
AllAreValid d [] = Unit {0}
AllAreValid d (one ∷ more) = AreValid d one.changes × AllAreValid (after_changes d one.changes) more

-- ---- what it is a change of

-- the top-level site of a cell, which an unpartitioned one does not have
abbrev pub top_of_cell : PlainCell → Option PlainSite
top_of_cell (OwnCell domain) = None
top_of_cell (PartitionCell top bit domain) = Some top

-- the domain of an unpartitioned cell
abbrev pub domain_of_own : PlainCell → Option Domain
domain_of_own (OwnCell domain) = Some domain
domain_of_own (PartitionCell top bit domain) = None

-- the top-level site that a row change is under
abbrev pub top_of_change : PlainChange → Option PlainSite
top_of_change (AreaPut key name value) = Some key.top
top_of_change (AreaRemove key name) = Some key.top
top_of_change (AreaClear key) = Some key.top
top_of_change (SetMode key) = Some key.top
top_of_change (CookieInsert cell place cookie) = top_of_cell cell
top_of_change (CookieReplace cell place cookie) = top_of_cell cell
top_of_change (CookieRemove cell place) = top_of_cell cell
top_of_change (Grant row) = Some row.top

-- the domain whose unpartitioned cell it changes
abbrev pub domain_of_change : PlainChange → Option Domain
domain_of_change (AreaPut key name value) = None
domain_of_change (AreaRemove key name) = None
domain_of_change (AreaClear key) = None
domain_of_change (SetMode key) = None
domain_of_change (CookieInsert cell place cookie) = domain_of_own cell
domain_of_change (CookieReplace cell place cookie) = domain_of_own cell
domain_of_change (CookieRemove cell place) = domain_of_own cell
domain_of_change (Grant row) = None
