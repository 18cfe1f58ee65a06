-- A row change of the state of all sites is one of what each site has of it.
use Rattle.std.proofs.Common.{◌≡◌, Bool, true, false, cond, not, ◌&&◌, List, [], Some, None, refl, sym, ap, ◌∙◌}
use Rattle.std.specs.Prelude.{is_some, length, nat_le, nat_lt}
use Rattle.std.specs.FinMap.{contains_key, get}
use Rattle.std.proofs.lemmas.Bool.{false≢true}
use Rattle.unwinding.specs.FiniteCells.{get_cell, restrict_cells, set_cell}
use Rattle.unwinding.proofs.FiniteCellsLemmas as cells_of
use Rattle.origin_site.specs.Site.{PlainSite, same_plain_site}
use Rattle.storage_key.specs.Context.{is_of}
use Rattle.storage_key.specs.Key.{PlainKey, key_order}
use Rattle.storage_key.proofs.OrderLemmas.{key_order_total, key_order_same}
use Rattle.local_area.specs.Area.{Pair, area_get, area_put, area_remove, area_weight, quota}
use Rattle.partition_limits.specs.declared.tally.CellKind.TheVariants as kind
use Rattle.cookie_jar.specs.Key.{PlainKey as PlainCell, OwnCell, PartitionCell}
use Rattle.cookie_jar.specs.Persistent.{CookieRow, RowInsert, RowReplace, RowRemove, row_fits}
use Rattle.access_grants.specs.Grant.{PlainGrant, with_row}
use Rattle.access_grants.proofs.PartLemmas.{kept_at}
use Rattle.row_changes.specs.Change.{PlainChange, AreaPut, AreaRemove, AreaClear, SetMode, CookieInsert, CookieReplace, CookieRemove, Grant}
use Rattle.agent_model.specs.CookieCells.{Cookies}
use Rattle.agent_model.specs.PartitionedCells.{PartitionedCells, PartitionedKey, partitioned_order}
use Rattle.agent_model.specs.Partition.{is_cell_under, is_under}
use Rattle.agent_model.specs.CookieStore.{in_cell}
use Rattle.agent_model.proofs.KeptLemmas.{cell_seen, cell_unseen, change_seen, change_unseen, kept_cell}
use Rattle.agent_model.proofs.PartitionedLemmas.{partitioned_order_total, partitioned_order_same}
use Rattle.durable_model.specs.Saved.{Saved, SiteRows, cookies_at, pairs_at, with_cookies, with_pairs}
use Rattle.durable_model.specs.RowEdits.{after_change, domain_of_own, edited, is_valid, is_valid_in, puts_kept, top_of_cell, top_of_change}
use Rattle.durable_model.specs.Keeping.{cells_alone, cells_changed, keeping, passes, rows_alone, rows_changed, rows_under}
use Rattle.durable_model.specs.Laws.{ChangesProject}
use Rattle.durable_model.proofs.CellRowLemmas.{domain_in, made_in, own_made, partition_made, top_in}
use Rattle.durable_model.proofs.RowLemmas.{row_elsewhere}

-- ---- unpartitioned cells

module _ (d : Saved) where
  -- they are after a row change of the state what they are after one of theirs alone
  abbrev HaveCells : PlainChange → Type 0
  HaveCells change = (after_change d change).cells ≡ cells_changed (λ c. true) change d.cells

  no_cell : (b : Bool) (e : Saved) → e.cells ≡ d.cells → (cond b e d).cells ≡ d.cells
  no_cell true e same = same
  no_cell false e same = refl

  in_cells : (cell : PlainCell) (row : CookieRow) → HaveCells (in_cell cell row)
  in_cells cell row = by cell ∙ sym (ap (λ of. cond (passes (λ c. true) of) (after_change (cells_alone d.cells) (in_cell cell row)).cells d.cells) (domain_in cell row))
    where
      by : (cell : PlainCell) → (after_change d (in_cell cell row)).cells ≡ cond (passes (λ c. true) (domain_of_own cell)) (after_change (cells_alone d.cells) (in_cell cell row)).cells d.cells
      by (OwnCell domain) = ap (λ e. e.cells) (own_made domain row d) ∙ sym (ap (λ e. e.cells) (own_made domain row (cells_alone d.cells)))
      by (PartitionCell top bit domain) = ap (λ e. e.cells) (partition_made top bit domain row d)

  pub cells_project : (change : PlainChange) → HaveCells change
  cells_project (AreaPut key name value) = no_cell _ (edited (AreaPut key name value) d) refl
  cells_project (AreaRemove key name) = no_cell _ (edited (AreaRemove key name) d) refl
  cells_project (AreaClear key) = no_cell _ (edited (AreaClear key) d) refl
  cells_project (SetMode key) = no_cell _ (edited (SetMode key) d) refl
  cells_project (CookieInsert cell place cookie) = in_cells cell (RowInsert place cookie)
  cells_project (CookieReplace cell place cookie) = in_cells cell (RowReplace place cookie)
  cells_project (CookieRemove cell place) = in_cells cell (RowRemove place)
  cells_project (Grant row) = refl

-- ---- rows of a site

-- a partitioned cell under a site is replaced before it is seen there or after it
cookies_seen : (site : PlainSite) (key : PartitionedKey) (cookies : Cookies) (cells : PartitionedCells) → is_cell_under site key ≡ true
    → restrict_cells partitioned_order (is_cell_under site) (set_cell partitioned_order key cookies cells) ≡ set_cell partitioned_order key cookies (restrict_cells partitioned_order (is_cell_under site) cells)
unfolding restrict_cells
cookies_seen site key cookies cells is = cell_seen partitioned_order partitioned_order_total partitioned_order_same cells (is_cell_under site) key cookies is

-- and one under another site is not seen
cookies_unseen : (site : PlainSite) (key : PartitionedKey) (cookies : Cookies) (cells : PartitionedCells) → is_cell_under site key ≡ false
    → restrict_cells partitioned_order (is_cell_under site) (set_cell partitioned_order key cookies cells) ≡ restrict_cells partitioned_order (is_cell_under site) cells
unfolding restrict_cells
cookies_unseen site key cookies cells is = cell_unseen partitioned_order partitioned_order_total partitioned_order_same cells (is_cell_under site) key cookies is

module _ (site : PlainSite) (d : Saved) where
  -- the rows of the site, and a state that has these alone
  abbrev here : SiteRows
  here = rows_under site d.under

  abbrev alone : Saved
  alone = rows_alone here

  -- the site has the area, the mode of a bucket, and the cell, that the state has
  pub pairs_here : (key : PlainKey) → is_under site key ≡ true → pairs_at key alone ≡ pairs_at key d
  pairs_here key is =
      kept_cell key_order key_order_total key_order_same d.under.areas (is_under site) key
      ∙ ap (λ b. cond b (pairs_at key d) []) is

  mode_here : (key : PlainKey) → is_under site key ≡ true → contains_key here.persistent key ≡ contains_key d.under.persistent key
  mode_here key is =
      ap is_some (cells_of.get_kept key_order key_order_same (is_under site) d.under.persistent key)
      ∙ ap (λ b. is_some (cond b (get d.under.persistent key) None)) is

  pub cookies_here : (key : PartitionedKey) → is_cell_under site key ≡ true → get_cell partitioned_order here.cookies key ≡ get_cell partitioned_order d.under.cookies key
  cookies_here key is =
      cells_of.get_restrict partitioned_order partitioned_order_total partitioned_order_same (is_cell_under site) d.under.cookies key
      ∙ ap (λ b. cond b (get_cell partitioned_order d.under.cookies key) []) is

  in_here : (cell : PlainCell) (row : CookieRow) → is_of site (top_of_cell cell) ≡ true → is_valid_in cell row d ≡ is_valid_in cell row alone
  in_here (OwnCell domain) row is = absurd (false≢true is)
  in_here (PartitionCell top bit domain) row is = ap (λ cookies. puts_kept row && row_fits kind.Partition cookies row) (sym (cookies_here (record { top = top; bit = bit; domain = domain }) is))

  -- a row change under the site is valid in the state where it is valid there
  pub valid_here : (change : PlainChange) → is_of site (top_of_change change) ≡ true → is_valid change d ≡ is_valid change alone
  valid_here (AreaPut key name value) is = ap (λ pairs. nat_le (area_weight (area_put name value pairs)) quota) (sym (pairs_here key is))
  valid_here (AreaRemove key name) is = ap (λ pairs. is_some (area_get name pairs)) (sym (pairs_here key is))
  valid_here (AreaClear key) is = ap (λ pairs. nat_lt 0 (length pairs)) (sym (pairs_here key is))
  valid_here (SetMode key) is = ap not (sym (mode_here key is))
  valid_here (CookieInsert cell place cookie) is = in_here cell (RowInsert place cookie) is
  valid_here (CookieReplace cell place cookie) is = in_here cell (RowReplace place cookie) is
  valid_here (CookieRemove cell place) is = in_here cell (RowRemove place) is
  valid_here (Grant row) is = refl

  -- a row change of the state is seen at the site as one of its rows
  abbrev IsSeen : PlainChange → Type 0
  IsSeen change = rows_under site (after_change d change).under ≡ rows_changed site change here

  -- an area gets what a function makes of it, where it passes a test
  area_seen : (key : PlainKey) (test : List Pair → Bool) (make : List Pair → List Pair)
      → rows_under site (cond (test (pairs_at key d)) (with_pairs key (make (pairs_at key d)) d) d).under
      ≡ cond (is_under site key) (cond (test (pairs_at key alone)) (with_pairs key (make (pairs_at key alone)) alone) alone).under here
  area_seen key test make = at (is_under site key) refl
    where
      with_areas : (b : Bool) → is_under site key ≡ true → rows_under site (cond b (with_pairs key (make (pairs_at key d)) d) d).under ≡ (cond b (with_pairs key (make (pairs_at key d)) alone) alone).under
      with_areas true is = ap (λ areas. record here { areas = areas }) (cell_seen key_order key_order_total key_order_same d.under.areas (is_under site) key (make (pairs_at key d)) is)
      with_areas false is = refl

      unseen : (b : Bool) → is_under site key ≡ false → rows_under site (cond b (with_pairs key (make (pairs_at key d)) d) d).under ≡ here
      unseen true is = ap (λ areas. record here { areas = areas }) (cell_unseen key_order key_order_total key_order_same d.under.areas (is_under site) key (make (pairs_at key d)) is)
      unseen false is = refl

      at : (b : Bool) → is_under site key ≡ b
          → rows_under site (cond (test (pairs_at key d)) (with_pairs key (make (pairs_at key d)) d) d).under
          ≡ cond b (cond (test (pairs_at key alone)) (with_pairs key (make (pairs_at key alone)) alone) alone).under here
      at true is =
          with_areas (test (pairs_at key d)) is
          ∙ ap (λ pairs. (cond (test pairs) (with_pairs key (make pairs) alone) alone).under) (sym (pairs_here key is))
      at false is = unseen (test (pairs_at key d)) is

  mode_seen : (key : PlainKey) → IsSeen (SetMode key)
  mode_seen key = at (is_under site key) refl
    where
      seen : (b : Bool) → is_under site key ≡ true → rows_under site (cond b (edited (SetMode key) d) d).under ≡ (cond b (edited (SetMode key) alone) alone).under
      seen true is = ap (λ keys. record here { persistent = keys }) (change_seen key_order key_order_total key_order_same d.under.persistent (is_under site) (is_under site) key (Some tt) is (λ q apart. refl))
      seen false is = refl

      unseen : (b : Bool) → is_under site key ≡ false → rows_under site (cond b (edited (SetMode key) d) d).under ≡ here
      unseen true is = ap (λ keys. record here { persistent = keys }) (change_unseen key_order key_order_total key_order_same d.under.persistent (is_under site) key (Some tt) is)
      unseen false is = refl

      at : (b : Bool) → is_under site key ≡ b → rows_under site (after_change d (SetMode key)).under ≡ cond b (after_change alone (SetMode key)).under here
      at true is =
          seen (not (contains_key d.under.persistent key)) is
          ∙ ap (λ b. (cond (not b) (edited (SetMode key) alone) alone).under) (sym (mode_here key is))
      at false is = unseen (not (contains_key d.under.persistent key)) is

  grant_seen : (row : PlainGrant) → IsSeen (Grant row)
  grant_seen row = ap (λ grants. record here { grants = grants }) (kept_at site row d.under.grants) ∙ at (same_plain_site site row.top)
    where
      at : (b : Bool) → record here { grants = cond b (with_row row here.grants) here.grants } ≡ cond b (edited (Grant row) alone).under here
      at true = refl
      at false = refl

  cell_changed_seen : (cell : PlainCell) (row : CookieRow) → IsSeen (in_cell cell row)
  cell_changed_seen (OwnCell domain) row =
      ap (λ e. rows_under site e.under) (own_made domain row d)
      ∙ sym (row_elsewhere site (in_cell (OwnCell domain) row) here (ap (is_of site) (top_in (OwnCell domain) row)))
  cell_changed_seen (PartitionCell top bit domain) row =
      ap (λ e. rows_under site e.under) (partition_made top bit domain row d)
      ∙ at (same_plain_site site top) refl
      ∙ ap (λ e. cond (same_plain_site site top) e.under here) (sym (partition_made top bit domain row alone))
      ∙ ap (λ of. cond (is_of site of) (after_change alone (in_cell cell row)).under here) (sym (top_in cell row))
    where
      cell : PlainCell
      cell = PartitionCell top bit domain

      key : PartitionedKey
      key = record { top = top; bit = bit; domain = domain }

      made : Cookies → Cookies
      made cookies = made_in kind.Partition row cookies

      at : (b : Bool) → same_plain_site site top ≡ b
          → rows_under site (with_cookies cell (made (cookies_at cell d)) d).under
          ≡ cond b (with_cookies cell (made (cookies_at cell alone)) alone).under here
      at true is =
          ap (λ cookies. record here { cookies = cookies }) (cookies_seen site key (made (cookies_at cell d)) d.under.cookies is)
          ∙ ap (λ cookies. record here { cookies = set_cell partitioned_order key (made cookies) here.cookies }) (sym (cookies_here key is))
      at false is = ap (λ cookies. record here { cookies = cookies }) (cookies_unseen site key (made (cookies_at cell d)) d.under.cookies is)

  pub rows_project : (change : PlainChange) → IsSeen change
  rows_project (AreaPut key name value) = area_seen key (λ pairs. nat_le (area_weight (area_put name value pairs)) quota) (area_put name value)
  rows_project (AreaRemove key name) = area_seen key (λ pairs. is_some (area_get name pairs)) (area_remove name)
  rows_project (AreaClear key) = area_seen key (λ pairs. nat_lt 0 (length pairs)) (λ pairs. [])
  rows_project (SetMode key) = mode_seen key
  rows_project (CookieInsert cell place cookie) = cell_changed_seen cell (RowInsert place cookie)
  rows_project (CookieReplace cell place cookie) = cell_changed_seen cell (RowReplace place cookie)
  rows_project (CookieRemove cell place) = cell_changed_seen cell (RowRemove place)
  rows_project (Grant row) = grant_seen row

pub changes_project : ChangesProject
unfolding keeping
changes_project d change = λ i. record { partition = λ site. rows_project site d change i; cells = cells_project d change i }
