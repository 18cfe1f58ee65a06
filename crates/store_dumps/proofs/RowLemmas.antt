-- What a snapshot lists is rows.
use Rattle.std.proofs.Common.{◌≡◌, ℕ, ℤ, ◌+◌, Bool, true, false, List, [], ◌∷◌, ◌++◌, map, Option, Some, None, refl, sym, ap, subst, ◌∙◌}
use Rattle.std.specs.Prelude.{flat_map, is_some, option_map}
use Rattle.std.specs.List.{cons_option, list_all}
use Rattle.std.specs.FinMap as finite
use Rattle.std.proofs.lemmas.Bool.{and_parts, false≢true}
use Rattle.std.proofs.lemmas.List.{map-append}
use Rattle.std.proofs.lemmas.List.Elements.{filter_map-append}
use Rattle.storage_key.specs.Key.{PlainKey}
use Rattle.cookie_jar.specs.Cookie.{PlainCookie}
use Rattle.cookie_jar.specs.Key.{PlainKey as PlainCell}
use Rattle.cookie_jar.specs.Lifetime.{is_persistent}
use Rattle.row_changes.specs.Change.{PlainChange, AreaPut, CookieInsert, Grant}
use Rattle.row_lines.specs.Row.{PlainRow, row_of}
use Rattle.row_lines.specs.Row as row
use Rattle.agent_model.specs.CookieCells.{Cookies}
use Rattle.durable_model.specs.Saved.{Saved, cookies_at, is_kept_cookie, pairs_at}
use Rattle.row_store.specs.Listing.{cell_rows, cookie_rows, key_rows, mode_rows, pair_rows, stored_cells, stored_keys}
use Rattle.store_dumps.specs.Dump.{PrintsEachRow, rows_of}

-- each of these row changes is a row
abbrev AreRows : List PlainChange → Type 0
AreRows changes = map row_of changes ≡ map Some (rows_of changes)

append_rows : (a b : List PlainChange) → AreRows a → AreRows b → AreRows (a ++ b)
append_rows a b one two =
    map-append row_of a b ∙ ap (λ t. t ++ map row_of b) one ∙ ap (λ t. map Some (rows_of a) ++ t) two
    ∙ sym (map-append Some (rows_of a) (rows_of b)) ∙ ap (map Some) (sym (filter_map-append row_of a b))

flat_rows : {X : Type 0} (f : X → List PlainChange) → ((x : X) → AreRows (f x)) → (xs : List X) → AreRows (flat_map f xs)
flat_rows f each [] = refl
flat_rows f each (x ∷ xs) = append_rows (f x) (flat_map f xs) (each x) (flat_rows f each xs)

more_rows : (change : PlainChange) (one : PlainRow) (rest : List PlainChange) → row_of change ≡ Some one
    → AreRows rest → AreRows (change ∷ rest)
more_rows change one rest is are =
    subst (λ o. o ∷ map row_of rest ≡ map Some (cons_option o (rows_of rest))) (sym is) (ap (λ t. Some one ∷ t) are)

map_rows : {X : Type 0} (f : X → PlainChange) (g : X → PlainRow) → ((x : X) → row_of (f x) ≡ Some (g x))
    → (xs : List X) → AreRows (map f xs)
map_rows f g each [] = refl
map_rows f g each (x ∷ xs) = more_rows (f x) (g x) (map f xs) (each x) (map_rows f g each xs)

-- ---- keys

mode_are : (key : PlainKey) (persistent : Bool) → AreRows (mode_rows key persistent)
mode_are key true = refl
mode_are key false = refl

key_are : (d : Saved) (key : PlainKey) → AreRows (key_rows d key)
key_are d key =
    append_rows (pair_rows key (pairs_at key d)) (mode_rows key (finite.contains_key d.under.persistent key))
    (map_rows (λ pair. AreaPut key pair.name pair.value) (λ pair. row.Area key pair.name pair.value)
    (λ pair. refl) (pairs_at key d))
    (mode_are key (finite.contains_key d.under.persistent key))

-- ---- cells

some_of : (o : Option ℤ) → is_some o ≡ true → (x : ℤ) × (o ≡ Some x)
some_of (Some x) is = (x, refl)
some_of None is = absurd (false≢true is)

cookie_is : (cell : PlainCell) (place : ℕ) (c : PlainCookie) → is_kept_cookie c ≡ true
    → (one : PlainRow) × (row_of (CookieInsert cell place c) ≡ Some one)
cookie_is cell place c kept =
    let end = some_of c.expiry (and_parts (is_persistent c) _ kept).0 in
    (row.Cookie cell c end.0, ap (option_map (λ expiry. row.Cookie cell c expiry)) end.1)

cookies_are : (cell : PlainCell) (place : ℕ) (cookies : Cookies) → list_all is_kept_cookie cookies ≡ true
    → AreRows (cookie_rows cell place cookies)
cookies_are cell place [] kept = refl
cookies_are cell place (c ∷ cookies) kept =
    let both = and_parts (is_kept_cookie c) (list_all is_kept_cookie cookies) kept in
    let one = cookie_is cell place c both.0 in
    more_rows (CookieInsert cell place c) one.0 (cookie_rows cell (place + 1) cookies) one.1
    (cookies_are cell (place + 1) cookies both.1)

-- ---- all of it

pub each_row : PrintsEachRow
each_row d valid =
    let keys = flat_map (key_rows d) (stored_keys d) in
    let cells = flat_map (cell_rows d) (stored_cells d) in
    let grants = map (λ one. Grant one) d.under.grants in
    append_rows (keys ++ cells) grants
    (append_rows keys cells (flat_rows (key_rows d) (key_are d) (stored_keys d))
    (flat_rows (cell_rows d) (λ cell. cookies_are cell 0 (cookies_at cell d) (valid cell).0) (stored_cells d)))
    (map_rows (λ one. Grant one) (λ one. row.Grant one) (λ one. refl) d.under.grants)
