-- Row changes of one cell, done in a state.
use Rattle.std.proofs.Common.{◌≡◌, Bool, true, false, cond, ◌&&◌, List, [], ◌∷◌, map, ℕ, refl, sym, ap, subst, ◌∙◌}
use Rattle.std.specs.List.{list_all}
use Rattle.std.proofs.lemmas.Bool.{and_from, and_parts}
use Rattle.std.proofs.lemmas.List.Folds.{list_all-append}
use Rattle.unwinding.specs.FiniteCells.{get_cell, set_cell}
use Rattle.origin_site.specs.Site.{PlainSite}
use Rattle.origin_site.proofs.SameLemmas.{same_plain_site-Decides}
use Rattle.storage_key.specs.Context.{is_of}
use Rattle.stored_cookie.specs.StoredCookie.{PlainCookie}
use Rattle.partition_limits.specs.declared.tally.CellKind.{CellKind}
use Rattle.partition_limits.specs.declared.tally.CellKind.TheVariants as kind
use Rattle.cookie_jar.specs.declared.step.JarStep.{JarStep}
use Rattle.cookie_jar.specs.declared.step.JarStep.TheVariants.{Insert, Replace, Remove}
use Rattle.cookie_jar.specs.Key.{PlainKey as PlainCell, OwnCell, PartitionCell}
use Rattle.cookie_jar.specs.Lifetime.{is_persistent}
use Rattle.cookie_jar.specs.Persistent.{CookieRow, RowInsert, RowReplace, RowRemove, apply_row, apply_rows, insert_row, remove_row, replace_row, row_edit, row_fits, rows_of_step, rows_of_steps}
use Rattle.row_changes.specs.Change.{PlainChange}
use Rattle.agent_model.specs.CookieCells.{Cookies, Domain, domain_order}
use Rattle.agent_model.specs.PartitionedCells.{PartitionedKey, partitioned_order}
use Rattle.agent_model.specs.CookieStore.{in_cell}
use Rattle.agent_model.proofs.CookieCellsLemmas.{domain_order_total, domain_order_same}
use Rattle.agent_model.proofs.PartitionedLemmas.{partitioned_order_total, partitioned_order_same}
use Rattle.durable_model.specs.Saved.{Saved, SiteRows, cookies_at, with_cookies}
use Rattle.durable_model.specs.RowEdits.{after_change, domain_of_change, domain_of_own, edited_in, is_valid_in, puts_kept, top_of_cell, top_of_change}
use Rattle.durable_model.specs.Keeping.{cell_changed, cells_alone, rows_alone, rows_changed}
use Rattle.durable_model.proofs.CellsLemmas.{get_own, set_own, set_twice}
use Rattle.durable_model.proofs.RowLemmas.{AreAmong, AreUnder, IsAmong, IsUnder, change_in, cookies_after, get_alone, one_cell, row_elsewhere, rows_after}

-- row changes of a cell
abbrev pub all_in : PlainCell → List CookieRow → List PlainChange
all_in cell rows = map (in_cell cell) rows

-- each cookie that they put outlives a restart
abbrev pub ArePut : List CookieRow → Type 0
ArePut rows = list_all puts_kept rows ≡ true

-- ---- under which site they are, and of which domain

pub top_in : (cell : PlainCell) (row : CookieRow) → top_of_change (in_cell cell row) ≡ top_of_cell cell
top_in cell (RowInsert place cookie) = refl
top_in cell (RowReplace place cookie) = refl
top_in cell (RowRemove place) = refl

pub domain_in : (cell : PlainCell) (row : CookieRow) → domain_of_change (in_cell cell row) ≡ domain_of_own cell
domain_in cell (RowInsert place cookie) = refl
domain_in cell (RowReplace place cookie) = refl
domain_in cell (RowRemove place) = refl

pub in_under : (site : PlainSite) (cell : PlainCell) (rows : List CookieRow) → IsUnder site (top_of_cell cell) → AreUnder site (all_in cell rows)
in_under site cell [] under = tt
in_under site cell (row ∷ rows) under = (subst (IsUnder site) (sym (top_in cell row)) under, in_under site cell rows under)

pub in_among : (names : List Domain) (cell : PlainCell) (rows : List CookieRow) → IsAmong names (domain_of_own cell) → AreAmong names (all_in cell rows)
in_among names cell [] among = tt
in_among names cell (row ∷ rows) among = (subst (IsAmong names) (sym (domain_in cell row)) among, in_among names cell rows among)

-- ---- what a row change makes of a cell

-- the cookies of a cell after a row change, which leaves them where it is not valid
abbrev pub made_in : CellKind → CookieRow → Cookies → Cookies
made_in cell row cookies = cond (puts_kept row && row_fits cell cookies row) (row_edit cookies row) cookies

-- where the cookie outlives a restart, it is what the row change makes of the list
made_put : (cell : CellKind) (row : CookieRow) (cookies : Cookies) → puts_kept row ≡ true → made_in cell row cookies ≡ apply_row cell cookies row
made_put cell row cookies puts = ap (λ b. cond (b && row_fits cell cookies row) (row_edit cookies row) cookies) puts

-- what it makes of a state
pub own_made : (domain : Domain) (row : CookieRow) (d : Saved)
    → after_change d (in_cell (OwnCell domain) row) ≡ with_cookies (OwnCell domain) (made_in kind.Own row (cookies_at (OwnCell domain) d)) d
own_made domain row d = change_in (OwnCell domain) row d ∙ at (is_valid_in (OwnCell domain) row d)
  where
    there : Cookies
    there = cookies_at (OwnCell domain) d

    at : (b : Bool) → cond b (edited_in (OwnCell domain) row d) d ≡ with_cookies (OwnCell domain) (cond b (row_edit there row) there) d
    at true = refl
    at false = ap (λ cells. record d { cells = cells }) (sym (set_own domain_order domain_order_total domain_order_same domain d.cells))

pub partition_made : (top : PlainSite) (bit : Bool) (domain : Domain) (row : CookieRow) (d : Saved)
    → after_change d (in_cell (PartitionCell top bit domain) row)
    ≡ with_cookies (PartitionCell top bit domain) (made_in kind.Partition row (cookies_at (PartitionCell top bit domain) d)) d
partition_made top bit domain row d = change_in cell row d ∙ at (is_valid_in cell row d)
  where
    cell : PlainCell
    cell = PartitionCell top bit domain

    there : Cookies
    there = cookies_at cell d

    at : (b : Bool) → cond b (edited_in cell row d) d ≡ with_cookies cell (cond b (row_edit there row) there) d
    at true = refl
    at false =
        ap (λ cells. record d { under = record (d.under) { cookies = cells } })
        (sym (set_own partitioned_order partitioned_order_total partitioned_order_same (record { top = top; bit = bit; domain = domain }) d.under.cookies))

-- ---- an unpartitioned cell

pub own_alone : (domain : Domain) (row : CookieRow) (cookies : Cookies) → cell_changed domain (in_cell (OwnCell domain) row) cookies ≡ made_in kind.Own row cookies
own_alone domain row cookies =
    ap (λ d. get_cell domain_order d.cells domain) (own_made domain row (cells_alone (one_cell domain cookies)))
    ∙ get_own domain_order domain_order_total domain_order_same domain _ (one_cell domain cookies)
    ∙ ap (made_in kind.Own row) (get_alone domain cookies)

pub own_all : (domain : Domain) (rows : List CookieRow) (cookies : Cookies) → ArePut rows → cookies_after domain (all_in (OwnCell domain) rows) cookies ≡ apply_rows kind.Own cookies rows
own_all domain [] cookies puts = refl
own_all domain (row ∷ rows) cookies puts =
    let both = and_parts (puts_kept row) (list_all puts_kept rows) puts in
    ap (cookies_after domain (all_in (OwnCell domain) rows)) (own_alone domain row cookies ∙ made_put kind.Own row cookies both.0)
    ∙ own_all domain rows (apply_row kind.Own cookies row) both.1

-- its row changes leave the rows of every site
pub own_unseen : (site : PlainSite) (domain : Domain) (changed : List CookieRow) (rows : SiteRows) → rows_after site (all_in (OwnCell domain) changed) rows ≡ rows
own_unseen site domain [] rows = refl
own_unseen site domain (row ∷ changed) rows =
    ap (rows_after site (all_in (OwnCell domain) changed)) (row_elsewhere site (in_cell (OwnCell domain) row) rows (ap (is_of site) (top_in (OwnCell domain) row)))
    ∙ own_unseen site domain changed rows

-- ---- a partitioned cell

module _ (site : PlainSite) (bit : Bool) (domain : Domain) where
  abbrev key : PartitionedKey
  key = record { top = site; bit = bit; domain = domain }

  abbrev cell : PlainCell
  cell = PartitionCell site bit domain

  -- rows with other cookies in the cell
  abbrev with_cell : Cookies → SiteRows → SiteRows
  with_cell cookies rows = record rows { cookies = set_cell partitioned_order key cookies rows.cookies }

  partition_changed : (row : CookieRow) (rows : SiteRows) → puts_kept row ≡ true
      → rows_changed site (in_cell cell row) rows ≡ with_cell (apply_row kind.Partition (get_cell partitioned_order rows.cookies key) row) rows
  partition_changed row rows puts =
      ap (λ b. cond b (after_change (rows_alone rows) (in_cell cell row)).under rows) here
      ∙ ap (λ d. d.under) (partition_made site bit domain row (rows_alone rows))
      ∙ ap (λ cookies. with_cell cookies rows) (made_put kind.Partition row (get_cell partitioned_order rows.cookies key) puts)
    where
      here : is_of site (top_of_change (in_cell cell row)) ≡ true
      here = ap (is_of site) (top_in cell row) ∙ (same_plain_site-Decides site site).1 refl

  pub partition_all : (changed : List CookieRow) (rows : SiteRows) → ArePut changed
      → rows_after site (all_in cell changed) rows ≡ with_cell (apply_rows kind.Partition (get_cell partitioned_order rows.cookies key) changed) rows
  partition_all [] rows puts = ap (λ cookies. record rows { cookies = cookies }) (sym (set_own partitioned_order partitioned_order_total partitioned_order_same key rows.cookies))
  partition_all (row ∷ changed) rows puts =
      let both = and_parts (puts_kept row) (list_all puts_kept changed) puts in
      let one = apply_row kind.Partition (get_cell partitioned_order rows.cookies key) row in
      ap (rows_after site (all_in cell changed)) (partition_changed row rows both.0)
      ∙ partition_all changed (with_cell one rows) both.1
      ∙ ap (λ found. with_cell (apply_rows kind.Partition found changed) (with_cell one rows)) (get_own partitioned_order partitioned_order_total partitioned_order_same key one rows.cookies)
      ∙ ap (λ cookies. record rows { cookies = cookies }) (set_twice partitioned_order partitioned_order_total partitioned_order_same key one (apply_rows kind.Partition one changed) rows.cookies)

-- ---- the rows of steps

puts_step : (fresh : PlainCookie) (step : JarStep) → ArePut (rows_of_step fresh step)
puts_step fresh step = by step
  where
    inserted : (place : ℕ) (b : Bool) → is_persistent fresh ≡ b → ArePut (insert_row b place fresh)
    inserted place true is = and_from _ true (and_from (is_persistent fresh) true is refl) refl
    inserted place false is = refl

    replaced : (place : ℕ) (b was : Bool) → is_persistent fresh ≡ b → ArePut (replace_row b was place fresh)
    replaced place true true is = and_from _ true (and_from (is_persistent fresh) true is refl) refl
    replaced place true false is = and_from _ true (and_from (is_persistent fresh) true is refl) refl
    replaced place false true is = refl
    replaced place false false is = refl

    removed : (place : ℕ) (was : Bool) → ArePut (remove_row was place)
    removed place true = refl
    removed place false = refl

    by : (step : JarStep) → ArePut (rows_of_step fresh step)
    by (Insert place r) = inserted r (is_persistent fresh) refl
    by (Replace place r was) = replaced r (is_persistent fresh) was refl
    by (Remove place r was) = removed r was

pub puts_steps : (fresh : PlainCookie) (steps : List JarStep) → ArePut (rows_of_steps fresh steps)
puts_steps fresh [] = refl
puts_steps fresh (step ∷ steps) =
    list_all-append puts_kept (rows_of_step fresh step) (rows_of_steps fresh steps)
    ∙ and_from _ _ (puts_step fresh step) (puts_steps fresh steps)
