-- What row changes make of the rows of a site, and of one unpartitioned cell.
use Rattle.std.proofs.Common.{◌≡◌, Bool, true, false, cond, List, [], ◌∷◌, ◌++◌, Option, Some, None, refl, sym, ap, ◌∙◌}
use Rattle.std.specs.Prelude.{bytes_eq}
use Rattle.std.proofs.lemmas.Bool.{true≢false}
use Rattle.std.proofs.lemmas.Slice.Eq.{bytes_eq-Decides}
use Rattle.unwinding.specs.FiniteCells.{get_cell, set_cell}
use Rattle.unwinding.specs.World.{is_in}
use Rattle.unwinding.specs.Durable.{partition_changes, cell_changes}
use Rattle.origin_site.specs.Site.{PlainSite, same_plain_site}
use Rattle.storage_key.specs.Context.{is_of}
use Rattle.cookie_jar.specs.Key.{PlainKey as PlainCell, OwnCell, PartitionCell}
use Rattle.cookie_jar.specs.Persistent.{CookieRow, RowInsert, RowReplace, RowRemove, row_edit}
use Rattle.row_changes.specs.Change.{PlainChange, AreaPut, AreaRemove, AreaClear, SetMode, CookieInsert, CookieReplace, CookieRemove, Grant}
use Rattle.agent_model.specs.CookieCells.{Cookies, CookieCells, Domain, domain_order, no_cookies}
use Rattle.agent_model.specs.CookieStore.{in_cell}
use Rattle.agent_model.proofs.CookieCellsLemmas.{get_set}
use Rattle.durable_model.specs.Saved.{Saved, SiteRows, cookies_at}
use Rattle.durable_model.specs.RowEdits.{after_change, domain_of_change, edited, edited_in, is_valid, is_valid_in, top_of_change}
use Rattle.durable_model.specs.Keeping.{cell_changed, cells_alone, keeping, passes, rows_alone, rows_changed}

-- the rows of a site after row changes, in their order
abbrev pub rows_after : PlainSite → List PlainChange → SiteRows → SiteRows
rows_after site [] rows = rows
rows_after site (change ∷ changes) rows = rows_after site changes (rows_changed site change rows)

-- the cookies of an unpartitioned cell after row changes, in their order
abbrev pub cookies_after : Domain → List PlainChange → Cookies → Cookies
cookies_after domain [] cookies = cookies
cookies_after domain (change ∷ changes) cookies = cookies_after domain changes (cell_changed domain change cookies)

-- they are those of the general law
pub rows_are : (site : PlainSite) (changes : List PlainChange) (rows : SiteRows) → partition_changes keeping site changes rows ≡ rows_after site changes rows
unfolding keeping
rows_are site [] rows = refl
rows_are site (change ∷ changes) rows = rows_are site changes (rows_changed site change rows)

pub cookies_are : (domain : Domain) (changes : List PlainChange) (cookies : Cookies) → cell_changes keeping domain changes cookies ≡ cookies_after domain changes cookies
unfolding keeping
cookies_are domain [] cookies = refl
cookies_are domain (change ∷ changes) cookies = cookies_are domain changes (cell_changed domain change cookies)

-- one list of row changes behind another
pub rows_append : (site : PlainSite) (first more : List PlainChange) (rows : SiteRows) → rows_after site (first ++ more) rows ≡ rows_after site more (rows_after site first rows)
rows_append site [] more rows = refl
rows_append site (change ∷ first) more rows = rows_append site first more (rows_changed site change rows)

pub cookies_append : (domain : Domain) (first more : List PlainChange) (cookies : Cookies) → cookies_after domain (first ++ more) cookies ≡ cookies_after domain more (cookies_after domain first cookies)
cookies_append domain [] more cookies = refl
cookies_append domain (change ∷ first) more cookies = cookies_append domain first more (cell_changed domain change cookies)

-- ---- under which site they are, and of which domains

-- it is under this site, or under none
abbrev pub IsUnder : PlainSite → Option PlainSite → Type 0
IsUnder site None = Unit {0}
IsUnder site (Some top) = top ≡ site

abbrev pub AreUnder : PlainSite → List PlainChange → Type 0
AreUnder site [] = Unit {0}
AreUnder site (change ∷ changes) = IsUnder site (top_of_change change) × AreUnder site changes

-- it is of one of these domains, or of none
abbrev pub IsAmong : List Domain → Option Domain → Type 0
IsAmong names None = Unit {0}
IsAmong names (Some domain) = is_in bytes_eq domain names ≡ true

abbrev pub AreAmong : List Domain → List PlainChange → Type 0
AreAmong names [] = Unit {0}
AreAmong names (change ∷ changes) = IsAmong names (domain_of_change change) × AreAmong names changes

pub under_append : (site : PlainSite) (first more : List PlainChange) → AreUnder site first → AreUnder site more → AreUnder site (first ++ more)
under_append site [] more all rest = rest
under_append site (change ∷ first) more all rest = (all.0, under_append site first more all.1 rest)

pub among_append : (names : List Domain) (first more : List PlainChange) → AreAmong names first → AreAmong names more → AreAmong names (first ++ more)
among_append names [] more all rest = rest
among_append names (change ∷ first) more all rest = (all.0, among_append names first more all.1 rest)

-- ---- elsewhere

-- a row change under another site leaves the rows
pub row_elsewhere : (site : PlainSite) (change : PlainChange) (rows : SiteRows) → is_of site (top_of_change change) ≡ false → rows_changed site change rows ≡ rows
row_elsewhere site change rows far = ap (λ b. cond b (after_change (rows_alone rows) change).under rows) far

is_elsewhere : (site other : PlainSite) (top : Option PlainSite) → same_plain_site other site ≡ false → IsUnder site top → is_of other top ≡ false
is_elsewhere site other None far under = refl
is_elsewhere site other (Some top) far under = ap (same_plain_site other) under ∙ far

pub rows_elsewhere : (site other : PlainSite) (changes : List PlainChange) (rows : SiteRows) → same_plain_site other site ≡ false → AreUnder site changes → rows_after other changes rows ≡ rows
rows_elsewhere site other [] rows far all = refl
rows_elsewhere site other (change ∷ changes) rows far all =
    ap (rows_after other changes) (row_elsewhere other change rows (is_elsewhere site other (top_of_change change) far all.0))
    ∙ rows_elsewhere site other changes rows far all.1

-- ---- one cell alone

-- one unpartitioned cell, and no other
abbrev pub one_cell : Domain → Cookies → CookieCells
one_cell domain cookies = set_cell domain_order domain cookies no_cookies

pub bytes_itself : (domain : Domain) → bytes_eq domain domain ≡ true
bytes_itself domain = (bytes_eq-Decides domain domain).1 refl

pub get_alone : (domain : Domain) (cookies : Cookies) → get_cell domain_order (one_cell domain cookies) domain ≡ cookies
get_alone domain cookies = get_set domain domain cookies no_cookies ∙ ap (λ b. cond b cookies (get_cell domain_order no_cookies domain)) (bytes_itself domain)

-- what a row change makes of a cell in a state, by what it makes where it is done
abbrev pub HasCookies : Domain → Cookies → Saved → Type 0
HasCookies domain cookies d = get_cell domain_order d.cells domain ≡ cookies

either_has : (domain : Domain) (cookies : Cookies) (b : Bool) (d e : Saved) → HasCookies domain cookies d → HasCookies domain cookies e → HasCookies domain cookies (cond b d e)
either_has domain cookies true d e first second = first
either_has domain cookies false d e first second = second

-- a row change of no cell, or of another one, leaves a cell
pub leaves_cell : (domain : Domain) (change : PlainChange) (cookies : Cookies) (d : Saved) → passes (bytes_eq domain) (domain_of_change change) ≡ false → HasCookies domain cookies d → HasCookies domain cookies (after_change d change)
leaves_cell domain change cookies d apart has = either_has domain cookies (is_valid change d) (edited change d) d (by change apart) has
  where
    in_other : (cell : PlainCell) (row : CookieRow) → passes (bytes_eq domain) (domain_of_change (in_cell cell row)) ≡ false → HasCookies domain cookies (edited_in cell row d)
    in_other (PartitionCell top bit other) row apart = has
    in_other (OwnCell other) row apart =
        get_set domain other (row_edit (cookies_at (OwnCell other) d) row) d.cells
        ∙ ap (λ b. cond b (row_edit (cookies_at (OwnCell other) d) row) (get_cell domain_order d.cells domain)) (of_row row apart) ∙ has
      where
        of_row : (row : CookieRow) → passes (bytes_eq domain) (domain_of_change (in_cell (OwnCell other) row)) ≡ false → bytes_eq domain other ≡ false
        of_row (RowInsert place cookie) apart = apart
        of_row (RowReplace place cookie) apart = apart
        of_row (RowRemove place) apart = apart

    by : (change : PlainChange) → passes (bytes_eq domain) (domain_of_change change) ≡ false → HasCookies domain cookies (edited change d)
    by (AreaPut key name value) apart = has
    by (AreaRemove key name) apart = has
    by (AreaClear key) apart = has
    by (SetMode key) apart = has
    by (CookieInsert cell place cookie) apart = in_other cell (RowInsert place cookie) apart
    by (CookieReplace cell place cookie) apart = in_other cell (RowReplace place cookie) apart
    by (CookieRemove cell place) apart = in_other cell (RowRemove place) apart
    by (Grant row) apart = has

pub cell_elsewhere : (domain : Domain) (change : PlainChange) (cookies : Cookies) → passes (bytes_eq domain) (domain_of_change change) ≡ false → cell_changed domain change cookies ≡ cookies
cell_elsewhere domain change cookies apart = leaves_cell domain change cookies (cells_alone (one_cell domain cookies)) apart (get_alone domain cookies)

is_apart : (names : List Domain) (domain : Domain) (of : Option Domain) → is_in bytes_eq domain names ≡ false → IsAmong names of → passes (bytes_eq domain) of ≡ false
is_apart names domain None out among = refl
is_apart names domain (Some other) out among = at (bytes_eq domain other) refl
  where
    at : (b : Bool) → bytes_eq domain other ≡ b → b ≡ false
    at true is = absurd (true≢false (sym among ∙ ap (λ d. is_in bytes_eq d names) (sym ((bytes_eq-Decides domain other).0 is)) ∙ out))
    at false is = refl

pub cookies_elsewhere : (names : List Domain) (domain : Domain) (changes : List PlainChange) (cookies : Cookies) → is_in bytes_eq domain names ≡ false → AreAmong names changes → cookies_after domain changes cookies ≡ cookies
cookies_elsewhere names domain [] cookies out all = refl
cookies_elsewhere names domain (change ∷ changes) cookies out all =
    ap (cookies_after domain changes) (cell_elsewhere domain change cookies (is_apart names domain (domain_of_change change) out all.0))
    ∙ cookies_elsewhere names domain changes cookies out all.1

-- ---- here

-- a valid row change under the site is done
pub row_done : (site : PlainSite) (change : PlainChange) (rows : SiteRows) → is_of site (top_of_change change) ≡ true → is_valid change (rows_alone rows) ≡ true → rows_changed site change rows ≡ (edited change (rows_alone rows)).under
row_done site change rows here valid =
    ap (λ b. cond b (after_change (rows_alone rows) change).under rows) here
    ∙ ap (λ b. (cond b (edited change (rows_alone rows)) (rows_alone rows)).under) valid

-- a row change of a cell, whichever it is
pub change_in : (cell : PlainCell) (row : CookieRow) (d : Saved) → after_change d (in_cell cell row) ≡ cond (is_valid_in cell row d) (edited_in cell row d) d
change_in cell (RowInsert place cookie) d = refl
change_in cell (RowReplace place cookie) d = refl
change_in cell (RowRemove place) d = refl
