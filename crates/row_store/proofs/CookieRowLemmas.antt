-- What the row changes of a cell lead to: its cookies, one after another; and those of permissions.
use Rattle.std.proofs.Common.{◌≡◌, ℕ, ◌+◌, ◌≤◌, true, false, cond, List, [], ◌∷◌, ◌++◌, map, length, refl, sym, ap, subst, ◌∙◌, arith, append_assoc, append-nil, length-append}
use Rattle.std.specs.Prelude.{◌==◌, nat_le}
use Rattle.std.specs.List.{insert, list_all}
use Rattle.std.specs.Ordering.{eq_by_cmp}
use Rattle.std.proofs.lemmas.Bool.{and_from, and_parts, eq-eqb, le-leb}
use Rattle.std.proofs.lemmas.List.Edits.{insert_end}
use Rattle.std.proofs.lemmas.List.Sums.{sum_by-append, sum_by-cons}
use Rattle.cookie_jar.specs.Cookie.{PlainCookie, copies, counted, keeps_limits, same}
use Rattle.cookie_jar.specs.Key.{PlainKey as PlainCell, OwnCell, PartitionCell}
use Rattle.cookie_jar.specs.Persistent.{RowInsert, row_fits}
use Rattle.cookie_jar.proofs.CellLemmas.{fits_less}
use Rattle.cookie_jar.proofs.ValidLaws.{same_self}
use Rattle.access_grants.specs.Grant.{HasDistinctPairs, PlainGrant, has_row, is_of, with_row, same_pair}
use Rattle.access_grants.proofs.GrantLemmas.{pair_of, same_pair-equiv}
use Rattle.row_changes.specs.Change.{CookieInsert, Grant}
use Rattle.agent_model.specs.CookieCells.{Cookies, domain_order}
use Rattle.agent_model.specs.PartitionedCells.{PartitionedKey, partitioned_order}
use Rattle.agent_model.proofs.CookieCellsLemmas.{domain_order_total, domain_order_same}
use Rattle.agent_model.proofs.PartitionedLemmas.{partitioned_order_total, partitioned_order_same}
use Rattle.web_cookies.specs.Cells.{cell_order}
use Rattle.web_cookies.proofs.CellLemmas.{partitioned_with, shared_with}
use Rattle.web_cookies.proofs.OrderOfCells.{own_tie}
use Rattle.durable_model.specs.Saved.{IsKeptCell, Saved, cookies_at, is_kept_cookie, kind_of, with_cookies}
use Rattle.durable_model.specs.RowEdits.{edited, is_valid}
use Rattle.durable_model.proofs.CellsLemmas.{set_known, set_twice}
use Rattle.row_store.specs.Listing.{cell_rows, cookie_rows}
use Rattle.row_store.proofs.LeadLemmas.{Leads, first, stays, to}
use Rattle.row_store.proofs.AreaRowLemmas.{absent_before}

-- ---- cells of a state

-- a cell with other cookies
pub cookies_with : (q cell : PlainCell) (cookies : Cookies) (e : Saved)
    → cookies_at q (with_cookies cell cookies e) ≡ cond (eq_by_cmp cell_order q cell) cookies (cookies_at q e)
cookies_with (OwnCell a) (OwnCell b) cookies e = shared_with a (OwnCell b) cookies e.cells
cookies_with (OwnCell a) (PartitionCell top bit b) cookies e = refl
cookies_with (PartitionCell top bit a) (OwnCell b) cookies e = refl
cookies_with (PartitionCell top bit a) (PartitionCell above inner b) cookies e =
    partitioned_with (record { top = top; bit = bit; domain = a }) (PartitionCell above inner b) cookies e.under.cookies

-- a cell that is set to what it has
pub same_cookies : (cell : PlainCell) (cookies : Cookies) (e : Saved) → cookies_at cell e ≡ cookies
    → e ≡ with_cookies cell cookies e
same_cookies (OwnCell domain) cookies e is = ap (λ cells. record e { cells = cells })
    (sym (set_known domain_order domain_order_total domain_order_same domain cookies e.cells is))
same_cookies (PartitionCell top bit domain) cookies e is =
    let key : PartitionedKey = record { top = top; bit = bit; domain = domain } in
    ap (λ cells. record e { under = record (e.under) { cookies = cells } })
    (sym (set_known partitioned_order partitioned_order_total partitioned_order_same key cookies e.under.cookies is))

cookies_twice : (cell : PlainCell) (xs ys : Cookies) (e : Saved)
    → with_cookies cell ys (with_cookies cell xs e) ≡ with_cookies cell ys e
cookies_twice (OwnCell domain) xs ys e = ap (λ cells. record e { cells = cells })
    (set_twice domain_order domain_order_total domain_order_same domain xs ys e.cells)
cookies_twice (PartitionCell top bit domain) xs ys e =
    let key : PartitionedKey = record { top = top; bit = bit; domain = domain } in
    ap (λ cells. record e { under = record (e.under) { cookies = cells } })
    (set_twice partitioned_order partitioned_order_total partitioned_order_same key xs ys e.under.cookies)

-- ---- cookies

-- a cookie is not among those before it
new_cookie : (cookie : PlainCookie) (front rest : Cookies) → copies cookie (front ++ cookie ∷ rest) ≤ 1 → copies cookie front ≡ 0
new_cookie cookie front rest once =
    let test : PlainCookie → ℕ = λ d. cond (same cookie d) 1 0 in
    let both = sum_by-append test front (cookie ∷ rest) in
    let here = sum_by-cons test cookie rest in
    let own : ◌≡◌ {A = ℕ} (cond (same cookie cookie) 1 0) 1 = ap {B = ℕ} (λ b. cond b 1 0) (same_self cookie) in
    omega (arith, once, both, here, own)

module _ (cell : PlainCell) where
  -- fewer cookies keep the limits
  fewer_fit : (front rest : Cookies) → keeps_limits (kind_of cell) (front ++ rest) ≡ true
      → keeps_limits (kind_of cell) front ≡ true
  fewer_fit front rest within =
      let long = length-append front rest in
      let heavy = sum_by-append (counted (kind_of cell)) front rest in
      fits_less (kind_of cell) _ _ _ _ within (omega (arith, long)) (omega (arith, heavy))

  insert_valid : (cookie : PlainCookie) (front rest : Cookies) (e : Saved) → cookies_at cell e ≡ front
      → is_kept_cookie cookie ≡ true
      → copies cookie (front ++ cookie ∷ rest) ≤ 1 → keeps_limits (kind_of cell) (front ++ cookie ∷ rest) ≡ true
      → is_valid (CookieInsert cell (length front) cookie) e ≡ true
  insert_valid cookie front rest e is kept once within =
      let whole : (front ++ cookie ∷ []) ++ rest ≡ front ++ cookie ∷ rest = append_assoc front (cookie ∷ []) rest in
      let fits : keeps_limits (kind_of cell) (front ++ cookie ∷ []) ≡ true =
      fewer_fit (front ++ cookie ∷ []) rest (ap (keeps_limits (kind_of cell)) whole ∙ within) in
      let end : insert front (length front) cookie ≡ front ++ cookie ∷ [] = insert_end front cookie in
      let place : nat_le (length front) (length front) ≡ true = le-leb (length front) (length front) (omega arith) in
      let none : (copies cookie front == 0) ≡ true = eq-eqb (copies cookie front) 0 (new_cookie cookie front rest once) in
      let row : row_fits (kind_of cell) front (RowInsert (length front) cookie) ≡ true =
      and_from _ _ place (and_from _ _ none (ap (keeps_limits (kind_of cell)) end ∙ fits)) in
      and_from (is_kept_cookie cookie) _ kept (ap (λ cs. row_fits (kind_of cell) cs (RowInsert (length front) cookie)) is ∙ row)

  pub cookies_lead : (front rest : Cookies) (place : ℕ) (e : Saved) → length front ≡ place
      → cookies_at cell e ≡ front → list_all is_kept_cookie rest ≡ true
      → ((c : PlainCookie) → copies c (front ++ rest) ≤ 1) → keeps_limits (kind_of cell) (front ++ rest) ≡ true
      → Leads e (cookie_rows cell place rest) (with_cookies cell (front ++ rest) e)
  cookies_lead front [] place e long is kept once within =
      stays e _ (same_cookies cell (front ++ []) e (is ∙ sym (append-nil front)))
  cookies_lead front (c ∷ cs) place e long is kept once within =
      let both = and_parts (is_kept_cookie c) (list_all is_kept_cookie cs) kept in
      let whole : (front ++ c ∷ []) ++ cs ≡ front ++ c ∷ cs = append_assoc front (c ∷ []) cs in
      let valid : is_valid (CookieInsert cell place c) e ≡ true =
      subst (λ (n : ℕ). is_valid (CookieInsert cell n c) e ≡ true) long (insert_valid c front cs e is both.0 (once c) within) in
      let next : Saved = edited (CookieInsert cell place c) e in
      let made : insert (cookies_at cell e) place c ≡ front ++ c ∷ [] =
      ap (λ xs. insert xs place c) is ∙ ap (λ (n : ℕ). insert front n c) (sym long) ∙ insert_end front c in
      let there : cookies_at cell next ≡ front ++ c ∷ [] =
      cookies_with cell cell (insert (cookies_at cell e) place c) e
      ∙ ap (λ b. cond b (insert (cookies_at cell e) place c) (cookies_at cell e)) (own_tie cell) ∙ made in
      let longer : length (front ++ c ∷ []) ≡ place + 1 = omega (arith, long, length-append front (c ∷ [])) in
      first e (CookieInsert cell place c) (cookie_rows cell (place + 1) cs) _ valid
      (to next (cookie_rows cell (place + 1) cs) _ _
      (cookies_lead (front ++ c ∷ []) cs (place + 1) next longer there both.1
      (subst (λ (xs : Cookies). (d : PlainCookie) → copies d xs ≤ 1) (sym whole) once)
      (ap (keeps_limits (kind_of cell)) whole ∙ within))
      (cookies_twice cell _ ((front ++ c ∷ []) ++ cs) e ∙ ap (λ xs. with_cookies cell xs e) whole))

-- ---- a cell

-- the state with what another has in a cell
abbrev pub celled : Saved → PlainCell → Saved → Saved
celled d cell e = with_cookies cell (cookies_at cell d) e

-- a cell has no cookie
abbrev pub IsFreeCell : PlainCell → Saved → Type 0
IsFreeCell cell e = cookies_at cell e ≡ []

pub cell_leads : (d : Saved) (cell : PlainCell) (e : Saved) → IsKeptCell (cookies_at cell d)
    → keeps_limits (kind_of cell) (cookies_at cell d) ≡ true → IsFreeCell cell e
    → Leads e (cell_rows d cell) (celled d cell e)
cell_leads d cell e kept within free = cookies_lead cell [] (cookies_at cell d) 0 e refl free kept.0 kept.1 within

pub celled_cookies : (d : Saved) (q cell : PlainCell) (e : Saved)
    → cookies_at q (celled d cell e) ≡ cond (eq_by_cmp cell_order q cell) (cookies_at cell d) (cookies_at q e)
celled_cookies d q cell e = cookies_with q cell (cookies_at cell d) e

pub free_cell : (d : Saved) (q cell : PlainCell) (e : Saved) → eq_by_cmp cell_order q cell ≡ false
    → IsFreeCell cell e → IsFreeCell q e → IsFreeCell q (celled d cell e)
free_cell d q cell e apart here free = celled_cookies d q cell e
    ∙ ap (λ b. cond b (cookies_at cell d) (cookies_at q e)) apart ∙ free

-- ---- permissions

-- a state with other permissions
abbrev pub with_grants : List PlainGrant → Saved → Saved
with_grants rows e = record e { under = record (e.under) { grants = rows } }

-- a permission of a new pair comes last
kept_last : (row : PlainGrant) (front rest : List PlainGrant) → HasDistinctPairs (front ++ row ∷ rest)
    → with_row row front ≡ front ++ row ∷ []
kept_last row front rest apart =
    let new : has_row row front ≡ false = absent_before same_pair same_pair-equiv pair_of front row rest apart in
    ap (λ b. cond b (map (λ other. cond (is_of row.top row.site other) row other) front) (front ++ row ∷ [])) new

pub grants_lead : (front rest : List PlainGrant) (e : Saved) → e.under.grants ≡ front → HasDistinctPairs (front ++ rest)
    → Leads e (map (λ row. Grant row) rest) (with_grants (front ++ rest) e)
grants_lead front [] e is apart = stays e _ (ap (λ rows. with_grants rows e) (is ∙ sym (append-nil front)))
grants_lead front (row ∷ rows) e is apart =
    let made : with_row row e.under.grants ≡ front ++ row ∷ [] = ap (with_row row) is ∙ kept_last row front rows apart in
    let whole : (front ++ row ∷ []) ++ rows ≡ front ++ row ∷ rows = append_assoc front (row ∷ []) rows in
    let next : Saved = edited (Grant row) e in
    first e (Grant row) (map (λ other. Grant other) rows) _ refl
    (to next (map (λ other. Grant other) rows) _ _
    (grants_lead (front ++ row ∷ []) rows next made (subst HasDistinctPairs (sym whole) apart))
    (ap (λ all. with_grants all e) whole))
