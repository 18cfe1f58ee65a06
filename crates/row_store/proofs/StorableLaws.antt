-- Valid row changes keep a state one of which a snapshot can be made.
use Rattle.std.proofs.Common.{◌≡◌, ℕ, ◌≤◌, ◌<◌, Bool, true, false, cond, ◌||◌, List, [], ◌∷◌, ◌++◌, map, length, refl, sym, ap, subst, ◌∙◌, arith}
use Rattle.std.specs.Prelude.{bytes_eq, filter, is_some, not}
use Rattle.std.specs.List.{AllByRecursion, IsDistinct, list_any, remove}
use Rattle.std.specs.Ordering.{eq_by_cmp}
use Rattle.std.proofs.lemmas.Bool.{and_parts, leb-true, ltb-true}
use Rattle.std.proofs.lemmas.List.{map-append}
use Rattle.std.proofs.lemmas.List.Edits.{length-remove}
use Rattle.std.proofs.lemmas.List.Sums.{sum_by-cons, sum_by-remove}
use Rattle.std.proofs.lemmas.Map.Keys.{IsDistinct-cons, IsDistinct-head, IsDistinct-push, IsDistinct-tail}
use Rattle.storage_key.specs.Key.{PlainKey, key_order}
use Rattle.local_area.specs.Area.{HasDistinctNames, Pair, area_get, area_put, area_remove, area_weight, has_name, pair_weight, quota}
use Rattle.partition_limits.specs.declared.tally.CellKind.{CellKind}
use Rattle.partition_limits.specs.declared.tally.CellKind.TheVariants as kind
use Rattle.cookie_jar.specs.Cookie.{counted, keeps_limits}
use Rattle.cookie_jar.specs.Key.{PlainKey as PlainCell, OwnCell, PartitionCell}
use Rattle.cookie_jar.specs.Persistent.{CookieRow, RowInsert, RowReplace, RowRemove, row_edit, row_fits}
use Rattle.cookie_jar.proofs.CellLemmas.{fits_less}
use Rattle.access_grants.specs.Grant.{HasDistinctPairs}
use Rattle.access_grants.proofs.GrantLemmas.{kept_distinct}
use Rattle.row_changes.specs.Change.{PlainChange, AreaPut, AreaRemove, AreaClear, SetMode, CookieInsert, CookieReplace, CookieRemove, Grant}
use Rattle.agent_model.specs.CookieCells.{Cookies}
use Rattle.web_cookies.specs.Cells.{cell_order}
use Rattle.web_cookies.proofs.OrderOfCells.{equal_keys}
use Rattle.durable_model.specs.Saved.{IsKeptCell, Saved, cookies_at, kind_of, no_rows, nothing_saved, pairs_at, with_cookies, with_pairs}
use Rattle.durable_model.specs.RowEdits.{edited, edited_in, is_valid, is_valid_in, puts_kept}
use Rattle.durable_model.proofs.KeptCellLemmas.{change_keeps}
use Rattle.durable_model.proofs.NothingLemmas.{nothing_valid}
use Rattle.row_store.specs.Laws.{EditsKeepStorable, IsStorable}
use Rattle.row_store.proofs.BodyLaws.{valid_done}
use Rattle.row_store.proofs.AreaRowLemmas.{bytes_equiv, found_any, pairs_with}
use Rattle.row_store.proofs.CookieRowLemmas.{cookies_with}
use Rattle.row_store.proofs.SnapshotLaws.{no_cookie, none_stored}

-- ---- the pairs of an area

abbrev name_of : Pair → List ℕ
name_of pair = pair.name

-- the pairs with another value of a name
abbrev replaced : List ℕ → List ℕ → List Pair → List Pair
replaced name value pairs = map (λ pair. cond (has_name name pair) (record pair { value = value }) pair) pairs

one_name : (value : List ℕ) (pair : Pair) (b : Bool) → name_of (cond b (record pair { value = value }) pair) ≡ pair.name
one_name value pair true = refl
one_name value pair false = refl

names_replaced : (name value : List ℕ) (pairs : List Pair) → map name_of (replaced name value pairs) ≡ map name_of pairs
names_replaced name value [] = refl
names_replaced name value (p ∷ ps) = λ i. one_name value p (has_name name p) i ∷ names_replaced name value ps i

any_name : (name : List ℕ) (pairs : List Pair) → list_any (bytes_eq name) (map name_of pairs) ≡ list_any (has_name name) pairs
any_name name [] = refl
any_name name (p ∷ ps) = ap (λ b. has_name name p || b) (any_name name ps)

put_apart : (name value : List ℕ) (pairs : List Pair) → HasDistinctNames pairs → HasDistinctNames (area_put name value pairs)
put_apart name value pairs apart = at (is_some (area_get name pairs)) refl
  where
    at : (b : Bool) → is_some (area_get name pairs) ≡ b
        → HasDistinctNames (cond b (replaced name value pairs) (pairs ++ record { name = name; value = value } ∷ []))
    at true is = subst (IsDistinct bytes_eq) (sym (names_replaced name value pairs)) apart
    at false is =
        let new : list_any (bytes_eq name) (map name_of pairs) ≡ false = any_name name pairs ∙ sym (found_any name pairs) ∙ is in
        subst (IsDistinct bytes_eq) (sym (map-append name_of pairs (record { name = name; value = value } ∷ [])))
        (IsDistinct-push bytes_equiv (map name_of pairs) name apart new)

-- what a filter keeps has distinct names, whatever is named and however
module _ {X K : Type 0} (eq : K → K → Bool) (of : X → K) (test : X → Bool) where
  left_apart : (name : K) (xs : List X) → AllByRecursion (λ y. eq name y ≡ false) (map of xs)
      → AllByRecursion (λ y. eq name y ≡ false) (map of (filter test xs))
  left_apart name [] all = tt
  left_apart name (x ∷ xs) all = at (test x) (left_apart name xs all.1)
    where
      at : (b : Bool) → AllByRecursion (λ y. eq name y ≡ false) (map of (filter test xs))
          → AllByRecursion (λ y. eq name y ≡ false) (map of (cond b (x ∷ filter test xs) (filter test xs)))
      at true later = (all.0, later)
      at false later = later

  pub filter_apart : (xs : List X) → IsDistinct eq (map of xs) → IsDistinct eq (map of (filter test xs))
  filter_apart [] apart = apart
  filter_apart (x ∷ xs) apart =
      at (test x) (left_apart (of x) xs (IsDistinct-head eq (of x) (map of xs) apart))
      (filter_apart xs (IsDistinct-tail eq (of x) (map of xs) apart))
    where
      at : (b : Bool) → AllByRecursion (λ y. eq (of x) y ≡ false) (map of (filter test xs))
          → IsDistinct eq (map of (filter test xs))
          → IsDistinct eq (map of (cond b (x ∷ filter test xs) (filter test xs)))
      at true here later = IsDistinct-cons eq (of x) (map of (filter test xs)) here later
      at false here later = later

filter_light : (test : Pair → Bool) (pairs : List Pair) → area_weight (filter test pairs) ≤ area_weight pairs
filter_light test [] = omega arith
filter_light test (p ∷ ps) = at (test p) (filter_light test ps)
  where
    at : (b : Bool) → area_weight (filter test ps) ≤ area_weight ps
        → area_weight (cond b (p ∷ filter test ps) (filter test ps)) ≤ area_weight (p ∷ ps)
    at true later = omega (arith, later, sum_by-cons pair_weight p ps, sum_by-cons pair_weight p (filter test ps))
    at false later = omega (arith, later, sum_by-cons pair_weight p ps)

pub none_apart : HasDistinctNames []
unfolding IsDistinct
none_apart = tt

-- ---- the cookies of a cell

pub no_limit : (k : CellKind) → keeps_limits k [] ≡ true
no_limit kind.Own = refl
no_limit kind.Partition = refl

removed_fits : (k : CellKind) (cs : Cookies) (place : ℕ) → place < length cs → keeps_limits k cs ≡ true
    → keeps_limits k (remove cs place) ≡ true
removed_fits k [] place below within = absurd (omega (arith, below))
removed_fits k (c ∷ cs) place below within =
    let long = length-remove (c ∷ cs) place below in
    let heavy = sum_by-remove (counted k) (c ∷ cs) place c below in
    fits_less k _ _ _ _ within (omega (arith, long)) (omega (arith, heavy))

-- a valid row change of a cell keeps its limits
edit_fits : (k : CellKind) (cs : Cookies) (row : CookieRow) → row_fits k cs row ≡ true
    → keeps_limits k cs ≡ true → keeps_limits k (row_edit cs row) ≡ true
edit_fits k cs (RowInsert place c) fits within = (and_parts _ _ (and_parts _ _ fits).1).1
edit_fits k cs (RowReplace place c) fits within = (and_parts _ _ (and_parts _ _ fits).1).1
edit_fits k cs (RowRemove place) fits within = removed_fits k cs place (ltb-true place (length cs) fits) within

-- ---- states

-- each cell is one as it outlives a restart
kept_after : (d : Saved) (change : PlainChange) → is_valid change d ≡ true → IsStorable d → (cell : PlainCell)
    → IsKeptCell (cookies_at cell (edited change d))
kept_after d change valid storable cell = subst (λ e. IsKeptCell (cookies_at cell e))
    (valid_done d change valid) (change_keeps d change cell (storable.cells cell))

pub same_limits : (cell : PlainCell) (d e : Saved) → e.cells ≡ d.cells → e.under.cookies ≡ d.under.cookies
    → cookies_at cell e ≡ cookies_at cell d
same_limits (OwnCell domain) d e own partition = ap (λ cells. cookies_at (OwnCell domain) (record d { cells = cells })) own
same_limits (PartitionCell top bit domain) d e own partition =
    ap (λ cells. cookies_at (PartitionCell top bit domain) (record d { under = record (d.under) { cookies = cells } })) partition

-- other pairs of one key
pairs_storable : (change : PlainChange) (key : PlainKey) (pairs : List Pair) (d : Saved)
    → edited change d ≡ with_pairs key pairs d → is_valid change d ≡ true → IsStorable d
    → HasDistinctNames pairs → area_weight pairs ≤ quota → IsStorable (edited change d)
pairs_storable change key pairs d is valid storable apart light = record {
  names = λ q. subst HasDistinctNames (sym (there q)) (name_at q (eq_by_cmp key_order q key));
  weights = λ q. subst (λ ps. area_weight ps ≤ quota) (sym (there q)) (weight_at q (eq_by_cmp key_order q key));
  cells = kept_after d change valid storable;
  limits = λ cell. ap (keeps_limits (kind_of cell))
      (same_limits cell d (edited change d) (ap (λ e. e.cells) is) (ap (λ e. e.under.cookies) is)) ∙ storable.limits cell;
  grants = subst HasDistinctPairs (sym (ap (λ e. e.under.grants) is)) storable.grants;
}
  where
    there : (q : PlainKey) → pairs_at q (edited change d) ≡ cond (eq_by_cmp key_order q key) pairs (pairs_at q d)
    there q = ap (pairs_at q) is ∙ pairs_with q key pairs d

    name_at : (q : PlainKey) (b : Bool) → HasDistinctNames (cond b pairs (pairs_at q d))
    name_at q true = apart
    name_at q false = storable.names q

    weight_at : (q : PlainKey) (b : Bool) → area_weight (cond b pairs (pairs_at q d)) ≤ quota
    weight_at q true = light
    weight_at q false = storable.weights q

pub with_same_pairs : (cell : PlainCell) (q : PlainKey) (cookies : Cookies) (d : Saved)
    → pairs_at q (with_cookies cell cookies d) ≡ pairs_at q d
with_same_pairs (OwnCell domain) q cookies d = refl
with_same_pairs (PartitionCell top bit domain) q cookies d = refl

pub with_same_grants : (cell : PlainCell) (cookies : Cookies) (d : Saved)
    → (with_cookies cell cookies d).under.grants ≡ d.under.grants
with_same_grants (OwnCell domain) cookies d = refl
with_same_grants (PartitionCell top bit domain) cookies d = refl

-- a row change of a cell
cell_storable : (change : PlainChange) (cell : PlainCell) (row : CookieRow) (d : Saved)
    → edited change d ≡ edited_in cell row d → is_valid change d ≡ true
    → is_valid_in cell row d ≡ true → IsStorable d → IsStorable (edited change d)
cell_storable change cell row d is valid fits storable = record {
  names = λ q. subst HasDistinctNames (sym (pairs q)) (storable.names q);
  weights = λ q. subst (λ ps. area_weight ps ≤ quota) (sym (pairs q)) (storable.weights q);
  cells = kept_after d change valid storable;
  limits = λ q. ap (keeps_limits (kind_of q)) (ap (cookies_at q) is ∙ cookies_with q cell cookies d)
      ∙ limit_at q (eq_by_cmp cell_order q cell) refl;
  grants = subst HasDistinctPairs (sym (ap (λ e. e.under.grants) is ∙ with_same_grants cell cookies d)) storable.grants;
}
  where
    cookies : Cookies
    cookies = row_edit (cookies_at cell d) row

    pairs : (q : PlainKey) → pairs_at q (edited change d) ≡ pairs_at q d
    pairs q = ap (pairs_at q) is ∙ with_same_pairs cell q _ d

    limit_at : (q : PlainCell) (b : Bool) → eq_by_cmp cell_order q cell ≡ b
        → keeps_limits (kind_of q) (cond b cookies (cookies_at q d)) ≡ true
    limit_at q true tie =
        ap (λ k. keeps_limits (kind_of k) cookies) (equal_keys q cell tie)
        ∙ edit_fits (kind_of cell) (cookies_at cell d) row (and_parts (puts_kept row) _ fits).1 (storable.limits cell)
    limit_at q false tie = storable.limits q

edit_storable : (d : Saved) (change : PlainChange) → is_valid change d ≡ true → IsStorable d → IsStorable (edited change d)
edit_storable d (AreaPut key name value) valid storable =
    pairs_storable (AreaPut key name value) key (area_put name value (pairs_at key d)) d refl valid storable
    (put_apart name value (pairs_at key d) (storable.names key)) (leb-true _ quota valid)
edit_storable d (AreaRemove key name) valid storable =
    let test : Pair → Bool = λ pair. not (has_name name pair) in
    let lighter = filter_light test (pairs_at key d) in
    let before = storable.weights key in
    pairs_storable (AreaRemove key name) key (area_remove name (pairs_at key d)) d refl valid storable
    (filter_apart bytes_eq name_of test (pairs_at key d) (storable.names key)) (omega (arith, lighter, before))
edit_storable d (AreaClear key) valid storable = pairs_storable (AreaClear key)
    key [] d refl valid storable none_apart (omega arith)
edit_storable d (SetMode key) valid storable = record {
  names = storable.names;
  weights = storable.weights;
  cells = kept_after d (SetMode key) valid storable;
  limits = λ cell. ap (keeps_limits (kind_of cell)) (same_limits cell d (edited (SetMode key) d) refl refl)
      ∙ storable.limits cell;
  grants = storable.grants;
}
edit_storable d (CookieInsert cell place cookie) valid storable =
    cell_storable (CookieInsert cell place cookie) cell (RowInsert place cookie) d refl valid valid storable
edit_storable d (CookieReplace cell place cookie) valid storable =
    cell_storable (CookieReplace cell place cookie) cell (RowReplace place cookie) d refl valid valid storable
edit_storable d (CookieRemove cell place) valid storable =
    cell_storable (CookieRemove cell place) cell (RowRemove place) d refl valid valid storable
edit_storable d (Grant row) valid storable = record {
  names = storable.names;
  weights = storable.weights;
  cells = kept_after d (Grant row) valid storable;
  limits = λ cell. ap (keeps_limits (kind_of cell)) (same_limits cell d (edited (Grant row) d) refl refl) ∙ storable.limits cell;
  grants = kept_distinct row d.under.grants storable.grants;
}

none_granted : HasDistinctPairs nothing_saved.under.grants
unfolding nothing_saved no_rows IsDistinct
none_granted = tt

nothing_storable : IsStorable nothing_saved
nothing_storable = record {
  names = λ key. subst HasDistinctNames (sym (none_stored key)) none_apart;
  weights = λ key. subst (λ pairs. area_weight pairs ≤ quota) (sym (none_stored key)) (omega arith);
  cells = nothing_valid;
  limits = λ cell. ap (keeps_limits (kind_of cell)) (no_cookie cell) ∙ no_limit (kind_of cell);
  grants = none_granted;
}

pub edits_keep_storable : EditsKeepStorable
edits_keep_storable = (nothing_storable, edit_storable)
