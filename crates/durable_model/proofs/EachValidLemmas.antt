-- Row changes each of which is valid in the state before it.
use Rattle.std.proofs.Common.{◌≡◌, true, cond, List, [], ◌∷◌, ◌++◌, refl, sym, ap, subst, ◌∙◌}
use Rattle.std.specs.List.{list_all}
use Rattle.std.proofs.lemmas.Bool.{and_from, and_parts}
use Rattle.unwinding.specs.FiniteCells.{get_cell}
use Rattle.origin_site.specs.Site.{PlainSite}
use Rattle.cookie_jar.specs.Key.{PlainKey as PlainCell, OwnCell, PartitionCell}
use Rattle.cookie_jar.specs.Persistent.{CookieRow, RowInsert, RowReplace, RowRemove, row_edit}
use Rattle.cookie_jar.proofs.ValidLaws.{AreFitting}
use Rattle.row_changes.specs.Change.{PlainChange}
use Rattle.agent_model.specs.CookieCells.{Cookies, Domain, domain_order}
use Rattle.agent_model.specs.PartitionedCells.{partitioned_order}
use Rattle.agent_model.specs.CookieStore.{in_cell}
use Rattle.agent_model.proofs.CookieCellsLemmas.{domain_order_total, domain_order_same}
use Rattle.agent_model.proofs.PartitionedLemmas.{partitioned_order_total, partitioned_order_same}
use Rattle.durable_model.specs.Saved.{Saved, cookies_at, kind_of, with_cookies}
use Rattle.durable_model.specs.RowEdits.{AreValid, after_change, after_changes, edited, edited_in, is_valid, is_valid_in, puts_kept}
use Rattle.durable_model.specs.Keeping.{rows_under}
use Rattle.durable_model.proofs.CellsLemmas.{get_own}
use Rattle.durable_model.proofs.RowLemmas.{cookies_after, rows_after}
use Rattle.durable_model.proofs.CellRowLemmas.{ArePut, all_in}
use Rattle.durable_model.proofs.ChangedCellLemmas.{get_changed}
use Rattle.durable_model.proofs.ProjectLemmas.{cells_project, rows_project}

-- one list of row changes behind another
pub valid_append : (d : Saved) (first more : List PlainChange) → AreValid d first → AreValid (after_changes d first) more → AreValid d (first ++ more)
valid_append d [] more valid rest = rest
valid_append d (change ∷ first) more valid rest =
    let done : after_change d change ≡ edited change d = ap (λ b. cond b (edited change d) d) valid.0 in
    (valid.0, valid_append (edited change d) first more valid.1 (subst (λ e. AreValid (after_changes e first) more) done rest))

-- ---- after row changes of a state

-- a site has the rows that they make of its own
pub rows_left : (site : PlainSite) (changes : List PlainChange) (d : Saved) → rows_under site (after_changes d changes).under ≡ rows_after site changes (rows_under site d.under)
rows_left site [] d = refl
rows_left site (change ∷ changes) d = rows_left site changes (after_change d change) ∙ ap (rows_after site changes) (rows_project site d change)

-- and an unpartitioned cell the cookies
pub cookies_left : (domain : Domain) (changes : List PlainChange) (d : Saved) → get_cell domain_order (after_changes d changes).cells domain ≡ cookies_after domain changes (get_cell domain_order d.cells domain)
cookies_left domain [] d = refl
cookies_left domain (change ∷ changes) d =
    cookies_left domain changes (after_change d change)
    ∙ ap (cookies_after domain changes) (ap (λ cells. get_cell domain_order cells domain) (cells_project d change) ∙ get_changed (λ c. true) d.cells change domain)

-- ---- row changes of one cell

valid_in : (cell : PlainCell) (row : CookieRow) (d : Saved) → is_valid (in_cell cell row) d ≡ is_valid_in cell row d
valid_in cell (RowInsert place cookie) d = refl
valid_in cell (RowReplace place cookie) d = refl
valid_in cell (RowRemove place) d = refl

done_in : (cell : PlainCell) (row : CookieRow) (d : Saved) → edited (in_cell cell row) d ≡ edited_in cell row d
done_in cell (RowInsert place cookie) d = refl
done_in cell (RowReplace place cookie) d = refl
done_in cell (RowRemove place) d = refl

cookies_there : (cell : PlainCell) (cookies : Cookies) (d : Saved) → cookies_at cell (with_cookies cell cookies d) ≡ cookies
cookies_there (OwnCell domain) cookies d = get_own domain_order domain_order_total domain_order_same domain cookies d.cells
cookies_there (PartitionCell top bit domain) cookies d =
    get_own partitioned_order partitioned_order_total partitioned_order_same (record { top = top; bit = bit; domain = domain }) cookies d.under.cookies

-- those that fit in the cell, where each cookie that they put outlives a restart
pub cell_valid : (cell : PlainCell) (rows : List CookieRow) (d : Saved) → ArePut rows → AreFitting (kind_of cell) (cookies_at cell d) rows → AreValid d (all_in cell rows)
cell_valid cell [] d puts fits = tt
cell_valid cell (row ∷ rows) d puts fits =
    let both = and_parts (puts_kept row) (list_all puts_kept rows) puts in
    let left = row_edit (cookies_at cell d) row in
    let more = subst (λ cookies. AreFitting (kind_of cell) cookies rows) (sym (cookies_there cell left d)) fits.1 in (
      valid_in cell row d ∙ and_from (puts_kept row) _ both.0 fits.0,
      subst (λ e. AreValid e (all_in cell rows)) (sym (done_in cell row d)) (cell_valid cell rows (edited_in cell row d) both.1 more),
    )
