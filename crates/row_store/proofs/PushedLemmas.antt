-- Row changes that are added one after another, and what all of them list.
use Rattle.std.proofs.Common.{◌≡◌, ℕ, zero, suc, ◌+◌, List, [], ◌∷◌, ◌++◌, length, map, take, drop, refl, sym, ap, subst, ◌∙◌, arith, append-nil}
use Rattle.std.specs.Prelude.{Bool, true, filter, Some, None, is_some, slice_get, unwrap_or}
use Rattle.std.specs.List.{flat_map}
use Rattle.std.proofs.lemmas.Bool.{false≢true}
use Rattle.std.proofs.lemmas.Grind.{flat_map-append}
use Rattle.std.proofs.lemmas.List.{length-append, map-append}
use Rattle.std.proofs.lemmas.List.Elements.{filter-append}
use Rattle.std.specs.FinMap as finite
use Rattle.partition_limits.specs.declared.tally.CellKind.TheVariants as kind
use Rattle.cookie_jar.specs.Cookie.{PlainCookie}
use Rattle.access_grants.specs.Grant.{PlainGrants}
use Rattle.cookie_jar.specs.Key.{PlainKey as PlainCell, OwnCell, PartitionCell}
use Rattle.row_changes.specs.Change.{CookieInsert, Grant, PlainChange}
use Rattle.agent_model.specs.CookieCells.{Cookies}
use Rattle.web_cookies.specs.Cells as cells
use Rattle.web_cookies.specs.Listed.{cells_in}
use Rattle.web_cookies.specs.Stored as cookies
use Rattle.web_cookies.proofs.CellLemmas.{partitioned_at, shared_at}
use Rattle.web_storage.specs.Stored as storage
use Rattle.durable_model.specs.Saved.{Saved, cookies_at}
use Rattle.row_store.specs.CellTexts.{in_order_of_texts}
use Rattle.row_store.specs.Listing.{cookie_rows, key_rows, listed, stored_cells, stored_keys}
use Rattle.row_store.specs.Pushed.{all_rows, area_rows, cell_rows_in, cells_alone, cookie_rows_in, is_chosen, key_rows_in}
use Rattle.row_store.specs.Stored.{saved_in, saved_of}
use Rattle.row_store.specs.declared.parts.Parts.{Parts}
use Rattle.row_store.specs.declared.which.Which.{Which}
use Rattle.row_store.specs.declared.which.Which.TheVariants as which
use Rattle.storage_key.specs.Key.{PlainKey}
use Rattle.row_store.proofs.CellTextLemmas.{parted_by_text}

-- ---- one place more

take_place : {X : Type 0} (xs : List X) (i : ℕ) → take (suc i) xs ≡ take i xs ++ take 1 (drop i xs)
take_place [] zero = refl
take_place [] (suc i) = refl
take_place (x ∷ xs) zero = refl
take_place (x ∷ xs) (suc i) = ap (λ l. x ∷ l) (take_place xs i)

place_taken : {X : Type 0} (xs : List X) (i : ℕ) → take (i + 1) xs ≡ take i xs ++ take 1 (drop i xs)
place_taken xs i = let next : i + 1 ≡ suc i = omega arith in ap (λ n. take n xs) next ∙ take_place xs i

-- cookies behind others
cookies_behind : (cell : PlainCell) (from : ℕ) (xs ys : Cookies)
    → cookie_rows cell from (xs ++ ys) ≡ cookie_rows cell from xs ++ cookie_rows cell (from + length xs) ys
cookies_behind cell from [] ys = let same : from ≡ from + 0 = omega arith in ap (λ n. cookie_rows cell n ys) same
cookies_behind cell from (x ∷ xs) ys =
    let same : (from + 1) + length xs ≡ from + length (x ∷ xs) = omega arith in
    ap (λ l. CookieInsert cell from x ∷ l)
    (cookies_behind cell (from + 1) xs ys ∙ ap (λ n. cookie_rows cell (from + 1) xs ++ cookie_rows cell n ys) same)

-- the place behind cookies that pass a test, and one index more
pub place_next : (test : PlainCookie → Bool) (xs : Cookies) (i place next : ℕ) → place ≡ length (filter test (take i xs))
    → next ≡ place + length (filter test (take 1 (drop i xs))) → next ≡ length (filter test (take (i + 1) xs))
place_next test xs i place next before more =
    let whole : length (filter test (take (i + 1) xs)) ≡ length (filter test (take i xs) ++ filter test (take 1 (drop i xs))) =
    ap (λ l. length l) (ap (filter test) (place_taken xs i) ∙ filter-append test (take i xs) (take 1 (drop i xs))) in
    let parts : length (filter test (take i xs) ++ filter test (take 1 (drop i xs)))
    ≡ length (filter test (take i xs)) + length (filter test (take 1 (drop i xs))) =
    length-append (filter test (take i xs)) (filter test (take 1 (drop i xs))) in
    omega (arith, before, more, whole, parts)

module _ {S : Type 0} (adds : S → List PlainChange → S → Type 0)
    (then : (s t u : S) (xs ys : List PlainChange) → adds s xs t → adds t ys u → adds s (xs ++ ys) u) where
  -- a loop's step: what one item more adds
  pub item_more : {X Y : Type 0} (f : Y → List PlainChange) (v : X → Y) (xs : List X) (i : ℕ) (x : X)
      (s t u : S) → take (i + 1) xs ≡ take i xs ++ x ∷ []
      → adds s (flat_map f (map v (take i xs))) t → adds t (f (v x)) u → adds s (flat_map f (map v (take (i + 1) xs))) u
  item_more f v xs i x s t u next before more =
      subst (λ rows. adds s rows u)
      (sym
      (ap (λ l. flat_map f (map v l)) next
      ∙ ap (flat_map f) (map-append v (take i xs) (x ∷ []))
      ∙ flat_map-append f (map v (take i xs)) (v x ∷ [])
      ∙ ap (λ l. flat_map f (map v (take i xs)) ++ l) (append-nil (f (v x)))))
      (then s t u _ _ before more)

  -- the same of items that add one row change each
  pub row_more : {X : Type 0} (f : X → PlainChange) (xs : List X) (i : ℕ) (x : X) (s t u : S)
      → take (i + 1) xs ≡ take i xs ++ x ∷ []
      → adds s (map f (take i xs)) t → adds t (f x ∷ []) u → adds s (map f (take (i + 1) xs)) u
  row_more f xs i x s t u next before more =
      subst (λ rows. adds s rows u) (sym (ap (map f) next ∙ map-append f (take i xs) (x ∷ []))) (then s t u _ _ before more)

  -- and of what stands at a place, if anything does
  pub place_more : {X : Type 0} (f : X → PlainChange) (xs : List X) (i : ℕ) (s t u : S)
      → adds s (map f (take i xs)) t → adds t (map f (take 1 (drop i xs))) u → adds s (map f (take (i + 1) xs)) u
  place_more f xs i s t u before more =
      subst (λ rows. adds s rows u) (sym (ap (map f) (place_taken xs i)
      ∙ map-append f (take i xs) (take 1 (drop i xs)))) (then s t u _ _ before more)

  -- and of cookies that pass a test, each at its place among them
  pub cookies_more : (test : PlainCookie → Bool) (cell : PlainCell) (xs : Cookies) (i place : ℕ) (s t u : S)
      → place ≡ length (filter test (take i xs))
      → adds s (cookie_rows cell 0 (filter test (take i xs))) t
      → adds t (cookie_rows cell place (filter test (take 1 (drop i xs)))) u
      → adds s (cookie_rows cell 0 (filter test (take (i + 1) xs))) u
  cookies_more test cell xs i place s t u is before more =
      let start : 0 + length (filter test (take i xs)) ≡ place = omega (arith, is) in
      subst (λ rows. adds s rows u)
      (sym
      (ap (λ l. cookie_rows cell 0 l) (ap (filter test) (place_taken xs i) ∙ filter-append test (take i xs) (take 1 (drop i xs)))
      ∙ cookies_behind cell 0 (filter test (take i xs)) (filter test (take 1 (drop i xs)))
      ∙ ap (λ n. cookie_rows cell 0 (filter test (take i xs)) ++ cookie_rows cell n (filter test (take 1 (drop i xs)))) start))
      (then s t u _ _ before more)

-- what is found at a place
pub found_there : {X : Type 0} (xs : List X) (i : ℕ) (x : X) → Some x ≡ slice_get xs i → take 1 (drop i xs) ≡ x ∷ []
found_there [] i x is = absurd (false≢true (sym (ap is_some is)))
found_there (y ∷ ys) zero x is = ap (λ o. unwrap_or o y ∷ []) (sym is)
found_there (y ∷ ys) (suc i) x is = found_there ys i x is

pub none_found : {X : Type 0} (xs : List X) (i : ℕ) → None ≡ slice_get xs i → take 1 (drop i xs) ≡ []
none_found [] zero is = refl
none_found [] (suc i) is = refl
none_found (y ∷ ys) zero is = absurd (false≢true (ap is_some is))
none_found (y ∷ ys) (suc i) is = none_found ys i is

-- ---- all of it

-- the cookies of a cell are those of its key
pub cookies_are : (cell : PlainCell) (entries : cookies.Entries)
    → cookies_at cell (cells_alone entries) ≡ cells.cookies_at cell entries
cookies_are (OwnCell domain) entries = shared_at domain entries
cookies_are (PartitionCell top bit domain) entries = partitioned_at (record { top = top; bit = bit; domain = domain }) entries

-- the same of parts
pub saved_cookies : (cell : PlainCell) (parts : Parts) → cookies_at cell (saved_of parts) ≡ cells.cookies_at cell parts.cookies
saved_cookies (OwnCell domain) parts = shared_at domain parts.cookies
saved_cookies (PartitionCell top bit domain) parts =
    partitioned_at (record { top = top; bit = bit; domain = domain }) parts.cookies

every : {X : Type 0} (xs : List X) → filter (λ x. true) xs ≡ xs
every [] = refl
every (x ∷ xs) = ap (λ l. x ∷ l) (every xs)

module _ (areas : storage.Entries) (entries : cookies.Entries) (grants : PlainGrants) where
  abbrev pub whole : Saved
  whole = saved_in areas entries grants

  -- these cookies of a cell
  abbrev pub chosen_rows : Which → PlainCell → List PlainChange
  chosen_rows these cell = cookie_rows cell 0 (filter (is_chosen these) (cookies_at cell whole))

  key_same : (key : PlainKey) → key_rows_in areas key ≡ key_rows whole key
  key_same key = refl

  pub areas_listed : area_rows areas ≡ flat_map (key_rows whole) (stored_keys whole)
  areas_listed = λ i. flat_map (λ key. key_same key i) (stored_keys whole)

  cell_same : (these : Which) (cell : PlainCell) → cell_rows_in these entries cell ≡ chosen_rows these cell
  cell_same these (OwnCell domain) = refl
  cell_same these (PartitionCell top bit domain) = refl

  -- cookies are those of all stored cells
  pub cells_listed : (these : Which) → cookie_rows_in these entries ≡ flat_map (chosen_rows these) (stored_cells whole)
  cells_listed these =
      sym (flat_map-append (cell_rows_in these entries) (cells_in kind.Own entries)
      (in_order_of_texts (cells_in kind.Partition entries)))
      ∙ ap (λ l. flat_map (cell_rows_in these entries) (cells_in kind.Own entries ++ l))
      (parted_by_text (finite.keys (cookies.partitioned_in entries)))
      ∙ (λ i. flat_map (λ cell. cell_same these cell i) (stored_cells whole))

  -- areas with modes, all cookies and permissions, one behind the other, are all that is listed
  pub all_listed : all_rows which.All areas entries grants ≡ listed whole
  all_listed = λ i.
      areas_listed i
      ++ (cells_listed which.All ∙ (λ j. flat_map (λ cell. cookie_rows cell 0
      (every (cookies_at cell whole) j)) (stored_cells whole))) i
      ++ map (λ row. Grant row) grants.rows
