-- A cell as it outlives a restart stays one after row changes.
use Rattle.std.proofs.Common.{◌≡◌, ℕ, suc, Bool, true, false, cond, ◌&&◌, [], ◌∷◌, ◌++◌, drop, length, map, take, refl, sym, ap, subst, ◌∙◌}
use Rattle.std.specs.Prelude.{bytes_eq, filter}
use Rattle.std.specs.List.{list_all}
use Rattle.std.specs.Ordering.{eq_by_cmp}
use Rattle.std.proofs.lemmas.Bool.{and_from, and_parts, ltb-true}
use Rattle.std.proofs.lemmas.Bool.Decides.{Decides-eqb, Decides-int_eq}
use Rattle.std.proofs.lemmas.List.{set_split, take-append-drop}
use Rattle.std.proofs.lemmas.List.Folds.{list_all-append}
use Rattle.std.proofs.lemmas.Slice.Eq.{bytes_eq-Decides}
use Rattle.unwinding.specs.FiniteCells.{get_cell}
use Rattle.unwinding.proofs.FiniteCellsLemmas as cells_of
use Rattle.partition_limits.specs.declared.tally.CellKind.{CellKind}
use Rattle.cookie_jar.specs.Cookie.{copies}
use Rattle.cookie_jar.specs.Key.{PlainKey as PlainCell, OwnCell, PartitionCell}
use Rattle.cookie_jar.specs.Lifetime.{is_persistent}
use Rattle.cookie_jar.specs.Persistent.{CookieRow, RowInsert, RowReplace, RowRemove, persistent_part, kept_cookie, row_edit, row_fits}
use Rattle.cookie_jar.proofs.CellLemmas.{inserted_once, removed_once, replaced_once}
use Rattle.cookie_jar.proofs.PerformLemmas.{head_at}
use Rattle.row_changes.specs.Change.{PlainChange, AreaPut, AreaRemove, AreaClear, SetMode, CookieInsert, CookieReplace, CookieRemove, Grant}
use Rattle.agent_model.specs.CookieCells.{Cookies, domain_order}
use Rattle.agent_model.specs.PartitionedCells.{PartitionedKey, partitioned_order}
use Rattle.agent_model.proofs.CookieCellsLemmas.{get_set}
use Rattle.agent_model.proofs.KeptLemmas.{tied}
use Rattle.agent_model.proofs.PartitionedLemmas.{partitioned_order_total, partitioned_order_same}
use Rattle.durable_model.specs.Saved.{IsKeptCell, Saved, cookies_at, is_kept_cookie, kind_of}
use Rattle.durable_model.specs.RowEdits.{after_change, edited, edited_in, is_valid, is_valid_in, puts_kept}

-- ---- a list of cookies

-- each of those at the front, and of those behind
all_taken : (i : ℕ) (cs : Cookies) → list_all is_kept_cookie cs ≡ true → (list_all is_kept_cookie (take i cs) ≡ true) × (list_all is_kept_cookie (drop i cs) ≡ true)
all_taken i cs all =
    and_parts (list_all is_kept_cookie (take i cs)) (list_all is_kept_cookie (drop i cs))
    (sym (list_all-append is_kept_cookie (take i cs) (drop i cs)) ∙ ap (list_all is_kept_cookie) (take-append-drop i cs) ∙ all)

all_joined : (xs ys : Cookies) → list_all is_kept_cookie xs ≡ true → list_all is_kept_cookie ys ≡ true → list_all is_kept_cookie (xs ++ ys) ≡ true
all_joined xs ys first second = list_all-append is_kept_cookie xs ys ∙ and_from _ _ first second

-- a valid row change of a cell that puts a cookie which outlives a restart, if any
pub edit_keeps : (kind : CellKind) (cs : Cookies) (row : CookieRow) → (puts_kept row && row_fits kind cs row) ≡ true → IsKeptCell cs → IsKeptCell (row_edit cs row)
edit_keeps kind cs (RowInsert place c) valid is =
    let both = and_parts (puts_kept (RowInsert place c)) _ valid in
    let fits = and_parts _ _ both.1 in
    let absent = (Decides-eqb (copies c cs) 0).0 (and_parts _ _ fits.1).0 in
    let sides = all_taken place cs is.0 in
    (all_joined (take place cs) (c ∷ drop place cs) sides.0 (and_from (is_kept_cookie c) _ both.0 sides.1), inserted_once cs place c absent is.1)
edit_keeps kind cs (RowReplace place c) valid is =
    let both = and_parts (puts_kept (RowReplace place c)) _ valid in
    let fits = and_parts _ _ both.1 in
    let below = ltb-true place (length cs) fits.0 in
    let same_there = head_at c cs place below (and_parts _ _ fits.1).0 in
    let front = all_taken place cs is.0 in
    let back = all_taken (suc place) cs is.0 in (
      ap (list_all is_kept_cookie) (set_split cs place c below) ∙ all_joined (take place cs) (c ∷ drop (suc place) cs) front.0 (and_from (is_kept_cookie c) _ both.0 back.1),
      replaced_once cs place c c below same_there is.1,
    )
edit_keeps kind cs (RowRemove place) valid is =
    let below = ltb-true place (length cs) valid in
    let front = all_taken place cs is.0 in
    let back = all_taken (suc place) cs is.0 in
    (all_joined (take place cs) (drop (suc place) cs) front.0 back.1, λ c. removed_once cs place c below is.1 c)

-- what such a cell keeps is all that it has
pub kept_same : (cs : Cookies) → list_all is_kept_cookie cs ≡ true → persistent_part cs ≡ cs
kept_same [] all = refl
kept_same (c ∷ cs) all =
    let both = and_parts (is_kept_cookie c) (list_all is_kept_cookie cs) all in
    let one = and_parts (is_persistent c) _ both.0 in
    let last = (Decides-int_eq c.last _).0 one.1 in
    ap (λ b. map kept_cookie (cond b (c ∷ filter is_persistent cs) (filter is_persistent cs))) one.0
    ∙ (λ i. record c { last = sym last i } ∷ kept_same cs both.1 i)

-- ---- cells of a state

same_cookies : (cell : PlainCell) (d e : Saved) → e.cells ≡ d.cells → e.under.cookies ≡ d.under.cookies → IsKeptCell (cookies_at cell d) → IsKeptCell (cookies_at cell e)
same_cookies (OwnCell domain) d e own partition is = subst (λ cells. IsKeptCell (get_cell domain_order cells domain)) (sym own) is
same_cookies (PartitionCell top bit domain) d e own partition is =
    subst (λ cells. IsKeptCell (get_cell partitioned_order cells (record { top = top; bit = bit; domain = domain }))) (sym partition) is

in_keeps : (changed : PlainCell) (row : CookieRow) (d : Saved) → is_valid_in changed row d ≡ true → (cell : PlainCell) → IsKeptCell (cookies_at cell d) → IsKeptCell (cookies_at cell (edited_in changed row d))
in_keeps (OwnCell other) row d valid (OwnCell domain) is =
    subst IsKeptCell (sym (get_set domain other (row_edit there row) d.cells)) (at (bytes_eq domain other) refl)
  where
    there : Cookies
    there = get_cell domain_order d.cells other

    at : (b : Bool) → bytes_eq domain other ≡ b → IsKeptCell (cond b (row_edit there row) (get_cell domain_order d.cells domain))
    at true tie = edit_keeps (kind_of (OwnCell other)) there row valid (subst (λ q. IsKeptCell (get_cell domain_order d.cells q)) ((bytes_eq-Decides domain other).0 tie) is)
    at false tie = is
in_keeps (OwnCell other) row d valid (PartitionCell top bit domain) is = is
in_keeps (PartitionCell top bit other) row d valid (OwnCell domain) is = is
in_keeps (PartitionCell top bit other) row d valid (PartitionCell above inner domain) is =
    subst IsKeptCell (sym (cells_of.get_set partitioned_order partitioned_order_total partitioned_order_same here key (row_edit there row) d.under.cookies)) (at (eq_by_cmp partitioned_order here key) refl)
  where
    key : PartitionedKey
    key = record { top = top; bit = bit; domain = other }

    here : PartitionedKey
    here = record { top = above; bit = inner; domain = domain }

    there : Cookies
    there = get_cell partitioned_order d.under.cookies key

    at : (b : Bool) → eq_by_cmp partitioned_order here key ≡ b → IsKeptCell (cond b (row_edit there row) (get_cell partitioned_order d.under.cookies here))
    at true tie = edit_keeps (kind_of (PartitionCell top bit other)) there row valid (subst (λ q. IsKeptCell (get_cell partitioned_order d.under.cookies q)) (tied partitioned_order partitioned_order_total partitioned_order_same here key tie) is)
    at false tie = is

edited_keeps : (change : PlainChange) (d : Saved) → is_valid change d ≡ true → (cell : PlainCell) → IsKeptCell (cookies_at cell d) → IsKeptCell (cookies_at cell (edited change d))
edited_keeps (AreaPut key name value) d valid cell is = same_cookies cell d (edited (AreaPut key name value) d) refl refl is
edited_keeps (AreaRemove key name) d valid cell is = same_cookies cell d (edited (AreaRemove key name) d) refl refl is
edited_keeps (AreaClear key) d valid cell is = same_cookies cell d (edited (AreaClear key) d) refl refl is
edited_keeps (SetMode key) d valid cell is = same_cookies cell d (edited (SetMode key) d) refl refl is
edited_keeps (CookieInsert changed place cookie) d valid cell is = in_keeps changed (RowInsert place cookie) d valid cell is
edited_keeps (CookieReplace changed place cookie) d valid cell is = in_keeps changed (RowReplace place cookie) d valid cell is
edited_keeps (CookieRemove changed place) d valid cell is = in_keeps changed (RowRemove place) d valid cell is
edited_keeps (Grant row) d valid cell is = same_cookies cell d (edited (Grant row) d) refl refl is

-- a row change keeps each cell so, valid or not
pub change_keeps : (d : Saved) (change : PlainChange) (cell : PlainCell) → IsKeptCell (cookies_at cell d) → IsKeptCell (cookies_at cell (after_change d change))
change_keeps d change cell is = at (is_valid change d) refl
  where
    at : (b : Bool) → is_valid change d ≡ b → IsKeptCell (cookies_at cell (cond b (edited change d) d))
    at true valid = edited_keeps change d valid cell is
    at false valid = is
