-- Row changes that have a spelling lead to states whose snapshots have one, under a list too.
use Rattle.std.proofs.Common.{◌≡◌, ℕ, suc, ◌+◌, ◌≤◌, Bool, true, false, cond, List, [], ◌∷◌, ◌++◌, map, length, take, drop, Some, refl, sym, ap, subst, ◌∙◌, arith}
use Rattle.std.specs.Prelude.{is_some, not}
use Rattle.std.specs.List.{All, flat_map}
use Rattle.std.specs.Ordering.{eq_by_cmp}
use Rattle.std.specs.FinMap as finite
use Rattle.std.specs.FinMap.{get-insert}
use Rattle.std.proofs.lemmas.List.Elements.{All-append, All-cons, All-drop, All-filter, All-head, All-map, All-nil, All-push, All-set, All-tail, All-take, All-weaker}
use Rattle.suffix_list.specs.Suffix.{Rule}
use Rattle.storage_key.specs.Key.{PlainKey, key_order}
use Rattle.storage_key.proofs.OrderLemmas.{key_order_total, key_order_same}
use Rattle.cookie_jar.specs.Cookie.{PlainCookie}
use Rattle.local_area.specs.Area.{Pair, area_get, area_put, has_name}
use Rattle.cookie_jar.specs.Key.{PlainKey as PlainCell, OwnCell, PartitionCell}
use Rattle.cookie_jar.specs.Persistent.{CookieRow, RowInsert, RowReplace, RowRemove, row_edit}
use Rattle.cookie_jar.proofs.CellLemmas.{count_small}
use Rattle.access_grants.specs.Grant.{PlainGrant, has_row, is_of, with_row}
use Rattle.row_changes.specs.Change.{PlainChange, AreaPut, AreaRemove, AreaClear, SetMode, CookieInsert, CookieReplace, CookieRemove, Grant}
use Rattle.row_changes.specs.Spelled.{IsSpelled, IsSpelledUnder}
use Rattle.agent_model.specs.CookieCells.{Cookies}
use Rattle.agent_model.proofs.KeptLemmas.{tied}
use Rattle.web_cookies.specs.Cells.{cell_order}
use Rattle.web_cookies.proofs.OrderOfCells.{equal_keys}
use Rattle.durable_model.specs.Saved.{Saved, cookies_at, kind_of, no_rows, nothing_saved, pairs_at, with_cookies, with_pairs}
use Rattle.durable_model.specs.RowEdits.{edited, edited_in}
use Rattle.row_store.specs.Listing.{cell_rows, cookie_rows, key_rows, listed, mode_rows, pair_rows, stored_cells, stored_keys}
use Rattle.row_store.specs.Laws.{EditsKeepSpelled, EditsKeepSpelledUnder, IsMadeBy, IsStorable, SnapshotsAreSpelled, SnapshotsAreSpelledUnder}
use Rattle.row_store.proofs.AreaRowLemmas.{pairs_with}
use Rattle.row_store.proofs.CookieRowLemmas.{cookies_with}
use Rattle.row_store.proofs.SnapshotLaws.{no_cookie, no_mode, none_stored}
use Rattle.row_store.proofs.StorableLaws.{same_limits, with_same_grants, with_same_pairs}

-- what each element makes holds of what all of them make
each_made : {A B : Type 0} (P : B → Type 0) (f : A → List B) (xs : List A) → ((x : A) → All P (f x)) → All P (flat_map f xs)
each_made P f [] each = All-nil P
each_made P f (x ∷ xs) each = All-append P (f x) (flat_map f xs) (each x) (each_made P f xs each)

false_true : {P : Type 0} → ◌≡◌ {A = Bool} false true → P
false_true e = absurd (cc)

-- what the row changes of a kind have in common: a name takes another value, and a cookie another
-- place, and one that replaces another can be put anew
pub record IsOfFields (IsOf : PlainChange → Type 0) : Type 0 where
  pub value : (key : PlainKey) (name other value more : List ℕ) → IsOf (AreaPut key name value)
      → IsOf (AreaPut key other more) → IsOf (AreaPut key other value)
  pub place : (cell : PlainCell) (place other : ℕ) (cookie : PlainCookie) → other ≤ 255
      → IsOf (CookieInsert cell place cookie) → IsOf (CookieInsert cell other cookie)
  pub anew : (cell : PlainCell) (place : ℕ) (cookie : PlainCookie)
      → IsOf (CookieReplace cell place cookie) → IsOf (CookieInsert cell 0 cookie)

module _ (IsOf : PlainChange → Type 0) (of : IsOfFields IsOf) where
  abbrev IsPairOf : PlainKey → Pair → Type 0
  IsPairOf key pair = IsOf (AreaPut key pair.name pair.value)

  abbrev IsCookieOf : PlainCell → PlainCookie → Type 0
  IsCookieOf cell cookie = IsOf (CookieInsert cell 0 cookie)

  abbrev IsRowOf : PlainGrant → Type 0
  IsRowOf row = IsOf (Grant row)

  -- ---- the pairs of an area

  abbrev replaced : List ℕ → List ℕ → Pair → Pair
  replaced name value pair = cond (has_name name pair) (record pair { value = value }) pair

  -- a pair, or its name with another value
  replaced_spelled : (key : PlainKey) (name value : List ℕ) → IsOf (AreaPut key name value)
      → (pair : Pair) (b : Bool) → IsPairOf key pair
      → IsPairOf key (cond b (record pair { value = value }) pair)
  replaced_spelled key name value new pair true is = of.value key name pair.name value pair.value new is
  replaced_spelled key name value new pair false is = is

  put_spelled : (key : PlainKey) (name value : List ℕ) (pairs : List Pair)
      → IsOf (AreaPut key name value) → All (IsPairOf key) pairs
      → All (IsPairOf key) (area_put name value pairs)
  put_spelled key name value pairs new all = at (is_some (area_get name pairs))
    where
      at : (b : Bool) → All (IsPairOf key) (cond b (map (replaced name value) pairs)
          (pairs ++ record { name = name; value = value } ∷ []))
      at true =
          All-map (IsPairOf key) (replaced name value) pairs
          (All-weaker (IsPairOf key) (λ pair. IsPairOf key (replaced name value pair))
          (λ pair is. replaced_spelled key name value new pair (has_name name pair) is) pairs all)
      at false = All-push (IsPairOf key) pairs (record { name = name; value = value }) all new

  -- ---- the cookies of a cell

  -- a change of a cell puts such a cookie, if any
  abbrev PutsSpelled : PlainCell → CookieRow → Type 0
  PutsSpelled cell (RowInsert place cookie) = IsCookieOf cell cookie
  PutsSpelled cell (RowReplace place cookie) = IsCookieOf cell cookie
  PutsSpelled cell (RowRemove place) = Unit {0}

  edit_spelled : (cell : PlainCell) (cs : Cookies) (row : CookieRow) → PutsSpelled cell row
      → All (IsCookieOf cell) cs → All (IsCookieOf cell) (row_edit cs row)
  edit_spelled cell cs (RowInsert place c) new all =
      All-append (IsCookieOf cell) (take place cs) (c ∷ drop place cs) (All-take (IsCookieOf cell) place cs all)
      (All-cons (IsCookieOf cell) c (drop place cs) new (All-drop (IsCookieOf cell) place cs all))
  edit_spelled cell cs (RowReplace place c) new all = All-set (IsCookieOf cell) cs place c new all
  edit_spelled cell cs (RowRemove place) new all =
      All-append (IsCookieOf cell) (take place cs) (drop (suc place) cs)
      (All-take (IsCookieOf cell) place cs all) (All-drop (IsCookieOf cell) (suc place) cs all)

  -- ---- permissions

  either_row : (row other : PlainGrant) (b : Bool) → IsRowOf row → IsRowOf other → IsRowOf (cond b row other)
  either_row row other true new is = new
  either_row row other false new is = is

  kept_spelled : (row : PlainGrant) (rows : List PlainGrant) → IsRowOf row → All IsRowOf rows → All IsRowOf (with_row row rows)
  kept_spelled row rows new all = at (has_row row rows)
    where
      at : (b : Bool) → All IsRowOf (cond b (map (λ other. cond (is_of row.top row.site other) row other)
          rows) (rows ++ row ∷ []))
      at true =
          All-map IsRowOf (λ other. cond (is_of row.top row.site other) row other) rows
          (All-weaker IsRowOf (λ other. IsRowOf (cond (is_of row.top row.site other) row other))
          (λ other is. either_row row other (is_of row.top row.site other) new is) rows all)
      at false = All-push IsRowOf rows row all new

  -- ---- states

  module _ (d : Saved) (spelled : IsMadeBy IsOf d) where
    -- other pairs of one key
    pairs_spelled : (key : PlainKey) (pairs : List Pair) → All (IsPairOf key) pairs
        → IsMadeBy IsOf (with_pairs key pairs d)
    pairs_spelled key pairs all = record {
      pairs = λ q. subst (All (IsPairOf q)) (sym (pairs_with q key pairs d)) (at q (eq_by_cmp key_order q key) refl);
      modes = spelled.modes;
      cookies = λ cell. subst (All (IsCookieOf cell))
          (sym (same_limits cell d (with_pairs key pairs d) refl refl)) (spelled.cookies cell);
      grants = spelled.grants;
    }
      where
        at : (q : PlainKey) (b : Bool) → eq_by_cmp key_order q key ≡ b → All (IsPairOf q) (cond b pairs (pairs_at q d))
        at q true tie = subst (λ k. All (IsPairOf k) pairs) (sym (tied key_order key_order_total key_order_same q key tie)) all
        at q false tie = spelled.pairs q

    same_modes : (cell : PlainCell) (cookies : Cookies) → (with_cookies cell cookies d).under.persistent ≡ d.under.persistent
    same_modes (OwnCell domain) cookies = refl
    same_modes (PartitionCell top bit domain) cookies = refl

    -- other cookies in one cell
    cookies_spelled : (cell : PlainCell) (cookies : Cookies) → All (IsCookieOf cell) cookies
        → IsMadeBy IsOf (with_cookies cell cookies d)
    cookies_spelled cell cookies all = record {
      pairs = λ q. subst (All (IsPairOf q)) (sym (with_same_pairs cell q cookies d)) (spelled.pairs q);
      modes = λ q is. spelled.modes q (subst (λ keys. finite.contains_key keys q ≡ true) (same_modes cell cookies) is);
      cookies = λ q. subst (All (IsCookieOf q)) (sym (cookies_with q cell cookies d)) (at q (eq_by_cmp cell_order q cell) refl);
      grants = subst (All IsRowOf) (sym (with_same_grants cell cookies d)) spelled.grants;
    }
      where
        at : (q : PlainCell) (b : Bool) → eq_by_cmp cell_order q cell ≡ b → All (IsCookieOf q) (cond b cookies (cookies_at q d))
        at q true tie = subst (λ c. All (IsCookieOf c) cookies) (sym (equal_keys q cell tie)) all
        at q false tie = spelled.cookies q

    row_spelled : (cell : PlainCell) (row : CookieRow) → PutsSpelled cell row → IsMadeBy IsOf (edited_in cell row d)
    row_spelled cell row new = cookies_spelled cell (row_edit (cookies_at cell d) row)
        (edit_spelled cell (cookies_at cell d) row new (spelled.cookies cell))

    -- one more persistent bucket
    mode_spelled : (key : PlainKey) → IsOf (SetMode key) → IsMadeBy IsOf (edited (SetMode key) d)
    mode_spelled key new = record {
      pairs = spelled.pairs;
      modes = λ q is. at q (eq_by_cmp key_order q key) refl
          (sym (ap is_some (get-insert key_order_total d.under.persistent key tt q)) ∙ is);
      cookies = λ cell. subst (All (IsCookieOf cell))
          (sym (same_limits cell d (edited (SetMode key) d) refl refl)) (spelled.cookies cell);
      grants = spelled.grants;
    }
      where
        at : (q : PlainKey) (b : Bool) → eq_by_cmp key_order q key ≡ b
            → is_some (cond b (Some tt) (finite.get d.under.persistent q)) ≡ true → IsOf (SetMode q)
        at q true tie is = subst (λ k. IsOf (SetMode k))
            (sym (tied key_order key_order_total key_order_same q key tie)) new
        at q false tie is = spelled.modes q is

    grant_spelled : (row : PlainGrant) → IsRowOf row → IsMadeBy IsOf (edited (Grant row) d)
    grant_spelled row new = record {
      pairs = spelled.pairs;
      modes = spelled.modes;
      cookies = λ cell. subst (All (IsCookieOf cell))
          (sym (same_limits cell d (edited (Grant row) d) refl refl)) (spelled.cookies cell);
      grants = kept_spelled row d.under.grants new spelled.grants;
    }

    edited_spelled : (change : PlainChange) → IsOf change → IsMadeBy IsOf (edited change d)
    edited_spelled (AreaPut key name value) is = pairs_spelled key (area_put name value (pairs_at key d))
        (put_spelled key name value (pairs_at key d) is (spelled.pairs key))
    edited_spelled (AreaRemove key name) is = pairs_spelled key _
        (All-filter (λ pair. not (has_name name pair)) (IsPairOf key) (pairs_at key d) (spelled.pairs key))
    edited_spelled (AreaClear key) is = pairs_spelled key [] (All-nil (IsPairOf key))
    edited_spelled (SetMode key) is = mode_spelled key is
    edited_spelled (CookieInsert cell place cookie) is =
        row_spelled cell (RowInsert place cookie) (of.place cell place 0 cookie (omega arith) is)
    edited_spelled (CookieReplace cell place cookie) is =
        row_spelled cell (RowReplace place cookie) (of.anew cell place cookie is)
    edited_spelled (CookieRemove cell place) is = row_spelled cell (RowRemove place) tt
    edited_spelled (Grant row) is = grant_spelled row is

  nothing_spelled : IsMadeBy IsOf nothing_saved
  unfolding nothing_saved no_rows
  nothing_spelled = record {
    pairs = λ key. subst (All (IsPairOf key)) (sym (none_stored key)) (All-nil (IsPairOf key));
    modes = λ key is. false_true (sym (no_mode key) ∙ is);
    cookies = λ cell. subst (All (IsCookieOf cell)) (sym (no_cookie cell)) (All-nil (IsCookieOf cell));
    grants = All-nil IsRowOf;
  }

  -- ---- what is listed

  abbrev IsListed : PlainChange → Type 0
  IsListed change = IsOf change

  cookie_rows_spelled : (cell : PlainCell) (place : ℕ) (cs : Cookies) → place + length cs ≤ 256
      → All (IsCookieOf cell) cs → All IsListed (cookie_rows cell place cs)
  cookie_rows_spelled cell place [] few all = All-nil IsListed
  cookie_rows_spelled cell place (c ∷ cs) few all =
      All-cons IsListed (CookieInsert cell place c) (cookie_rows cell (place + 1) cs)
      (of.place cell 0 place c (omega (arith, few)) (All-head (IsCookieOf cell) c cs all))
      (cookie_rows_spelled cell (place + 1) cs (omega (arith, few)) (All-tail (IsCookieOf cell) c cs all))

  module _ (d : Saved) (storable : IsStorable d) (spelled : IsMadeBy IsOf d) where
    mode_rows_spelled : (key : PlainKey) (b : Bool) → finite.contains_key d.under.persistent key ≡ b
        → All IsListed (mode_rows key b)
    mode_rows_spelled key true is = All-cons IsListed (SetMode key) [] (spelled.modes key is) (All-nil IsListed)
    mode_rows_spelled key false is = All-nil IsListed

    key_rows_spelled : (key : PlainKey) → All IsListed (key_rows d key)
    key_rows_spelled key =
        All-append IsListed (pair_rows key (pairs_at key d)) (mode_rows key (finite.contains_key d.under.persistent key))
        (All-map IsListed (λ pair. AreaPut key pair.name pair.value) (pairs_at key d) (spelled.pairs key))
        (mode_rows_spelled key (finite.contains_key d.under.persistent key) refl)

    cell_rows_spelled : (cell : PlainCell) → All IsListed (cell_rows d cell)
    cell_rows_spelled cell =
        let few = count_small (kind_of cell) (length (cookies_at cell d)) _ (storable.limits cell) in
        cookie_rows_spelled cell 0 (cookies_at cell d) (omega (arith, few)) (spelled.cookies cell)

    listed_spelled : All IsListed (listed d)
    listed_spelled =
        let keys = flat_map (key_rows d) (stored_keys d) in
        let cells = flat_map (cell_rows d) (stored_cells d) in
        let rows = map (λ row. Grant row) d.under.grants in
        All-append IsListed (keys ++ cells) rows
        (All-append IsListed keys cells (each_made IsListed (key_rows d) (stored_keys d) key_rows_spelled)
        (each_made IsListed (cell_rows d) (stored_cells d) cell_rows_spelled))
        (All-map IsListed (λ row. Grant row) d.under.grants spelled.grants)

-- ---- those with a spelling, and those with one under the rules of a list

spelled_fields : IsOfFields IsSpelled
spelled_fields = record {
  value = λ key name other value more new is. (is.0, is.1, new.2);
  place = λ cell place other cookie low is. (is.0, omega (arith, low), is.2, is.3);
  anew = λ cell place cookie is. (is.0, omega arith, is.2, is.3);
}

under_fields : (rules : List Rule) → IsOfFields (IsSpelledUnder rules)
under_fields rules = record {
  value = λ key name other value more new is. (spelled_fields.value key name other value more new.0 is.0, is.1);
  place = λ cell place other cookie low is. (spelled_fields.place cell place other cookie low is.0, is.1);
  anew = λ cell place cookie is. (spelled_fields.anew cell place cookie is.0, is.1);
}

pub edits_keep_spelled : EditsKeepSpelled
edits_keep_spelled =
    (nothing_spelled IsSpelled spelled_fields, λ d change is made. edited_spelled IsSpelled spelled_fields d made change is)

pub edits_keep_spelled_under : EditsKeepSpelledUnder
edits_keep_spelled_under rules = (
  nothing_spelled (IsSpelledUnder rules) (under_fields rules),
  λ d change is made. edited_spelled (IsSpelledUnder rules) (under_fields rules) d made change is,
)

pub snapshots_are_spelled : SnapshotsAreSpelled
snapshots_are_spelled d storable made = listed_spelled IsSpelled spelled_fields d storable made

pub snapshots_are_spelled_under : SnapshotsAreSpelledUnder
snapshots_are_spelled_under rules d storable made = listed_spelled (IsSpelledUnder rules) (under_fields rules) d storable made
