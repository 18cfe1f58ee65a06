-- Rows whose names are told apart, and a search behind one row.
use Rattle.std.proofs.Common.{◌≡◌, ◌≢◌, ℕ, ◌+◌, ◌-◌, ◌<◌, true, false, List, length, take, drop, get_or, AllPairs, bytes_eq, sym, ap, ◌∙◌, arith, length-drop, length-take}
use Rattle.std.specs.List.{list_any}
use Rattle.std.proofs.lemmas.List.{get_or-take, get_or-drop, get_or_default}
use Rattle.std.proofs.lemmas.List.Folds.{Any-from_list_any, list_any_at}
use Rattle.std.proofs.lemmas.Slice.Eq.{bytes_eq-Decides}
use Rattle.std.proofs.lemmas.Bool.{false≢true}

abbrev pub rows_behind : {X : Type 0} → List X → ℕ → List X
rows_behind rows place = take (length rows - (place + 1)) (drop (place + 1) rows)

length_behind : {X : Type 0} (rows : List X) (place : ℕ) → length (rows_behind rows place) ≡ length rows - (place + 1)
length_behind {X} rows place = grind (arith, length-take {A = X}, length-drop {A = X})

at_behind : {X : Type 0} (rows : List X) (place k : ℕ) (d : X) → k < length rows - (place + 1)
    → get_or (rows_behind rows place) k d ≡ get_or rows (place + 1 + k) d
at_behind rows place k d inside =
    get_or-take (length rows - (place + 1)) (drop (place + 1) rows) k d inside ∙ get_or-drop (place + 1) rows k d

-- a row behind a place has the name, so the names are not told apart
pub not_apart : {X : Type 0} (name : X → List ℕ) (rows : List X) (place : ℕ) (row : X)
    → place < length rows → row ≡ get_or rows place row
    → list_any (λ other. bytes_eq (name other) (name row)) (rows_behind rows place) ≡ true
    → AllPairs (λ a b. name a ≢ name b) rows → ⊥
not_apart {X} name rows place row inside here found apart =
    let other = Any-from_list_any (λ other. bytes_eq (name other) (name row)) (rows_behind rows place) found in
    let within : other.0 < length rows - (place + 1) = omega (arith, other.2, length_behind rows place) in
    let later : place + 1 + other.0 < length rows = omega arith in
    let there : other.1 ≡ get_or rows (place + 1 + other.0) row =
    sym other.3 ∙ at_behind rows place other.0 other.1 within ∙ get_or_default rows (place + 1 + other.0) other.1 row later in
    let same : name other.1 ≡ name row = (bytes_eq-Decides (name other.1) (name row)).0 other.4 in
    apart place (place + 1 + other.0) row (omega arith) later (ap name (sym here) ∙ sym same ∙ ap name there)

-- no row behind the place has its name
pub apart_behind : {X : Type 0} (name : X → List ℕ) (rows : List X) (place : ℕ) (row : X)
    → place < length rows → row ≡ get_or rows place row
    → list_any (λ other. bytes_eq (name other) (name row)) (rows_behind rows place) ≡ false
    → (j : ℕ) (d : X) → place < j → j < length rows → name (get_or rows place d) ≢ name (get_or rows j d)
apart_behind {X} name rows place row inside here missed j d behind within same =
    let k = j - (place + 1) in
    let inside_behind : k < length rows - (place + 1) = omega arith in
    let counted : k < length (rows_behind rows place) = omega (arith, length_behind rows place) in
    let back : place + 1 + k ≡ j = omega arith in
    let there : get_or (rows_behind rows place) k d ≡ get_or rows j d = at_behind rows place k d inside_behind ∙ ap (λ i. get_or rows i d) back in
    let own : get_or rows place d ≡ row = get_or_default rows place d row inside ∙ sym here in
    let equal : name (get_or (rows_behind rows place) k d) ≡ name row = ap name there ∙ sym same ∙ ap name own in
    let passes = (bytes_eq-Decides (name (get_or (rows_behind rows place) k d)) (name row)).1 equal in
    let found = list_any_at (λ other. bytes_eq (name other) (name row)) (rows_behind rows place) k d counted passes in
    false≢true (sym missed ∙ found)
