-- Searches of borrowed rows, and of the rows that contracts see.
use Rattle.std.proofs.Common.{◌≡◌, ℕ, ◌<◌, Bool, true, false, cond, ◌||◌, List, [], ◌∷◌, map, length, get_or, find, Option, Some, option_map, refl, sym, ap, ◌∙◌}
use Rattle.std.proofs.lemmas.List.{length-map, take-map, drop-map, get_or-map}
use Rattle.case_tables.proofs.Pairs.{rows_behind}
use Rattle.std.specs.Borrow.{Bor}
use Rattle.std.specs.List.{list_any}
use Rattle.case_tables.specs.Rows.{row_of, first_value}

first_step : {V : Type 0} (here : Bool) (row : Bor (List ℕ) × V) (a : Option (Bor (List ℕ) × V)) (b : Option (List ℕ × V))
    → option_map (λ row. row.1) a ≡ option_map (λ row. row.1) b
    → option_map (λ row. row.1) (cond here (Some row) a) ≡ option_map (λ row. row.1) (cond here (Some (row_of row)) b)
first_step true row a b same = refl
first_step false row a b same = same

-- the value of the first row that passes
pub first_value-rows : {V : Type 0} (passes : List ℕ → Bool) (rows : List (Bor (List ℕ) × V))
    → option_map (λ row. row.1) (find (λ row. passes row.0.now) rows) ≡ first_value passes (map row_of rows)
first_value-rows passes [] = refl
first_value-rows passes (row ∷ rows) = first_step (passes row.0.now) row _ _ (first_value-rows passes rows)

-- whether some row passes
pub list_any-rows : {V : Type 0} (passes : List ℕ → Bool) (rows : List (Bor (List ℕ) × V))
    → list_any (λ row. passes row.0.now) rows ≡ list_any (λ row. passes row.0) (map row_of rows)
list_any-rows passes [] = refl
list_any-rows passes (row ∷ rows) = ap (λ rest. passes row.0.now || rest) (list_any-rows passes rows)

-- the same of the rows behind a place
pub list_any-rows_behind : {V : Type 0} (passes : List ℕ → Bool) (rows : List (Bor (List ℕ) × V)) (place : ℕ)
    → list_any (λ row. passes row.0.now) (rows_behind rows place) ≡ list_any (λ row. passes row.0) (rows_behind (map row_of rows) place)
list_any-rows_behind {V} passes rows place =
    let cut : map row_of (rows_behind rows place) ≡ rows_behind (map row_of rows) place =
    sym (simp (length-map, take-map, drop-map)) in
    list_any-rows passes (rows_behind rows place) ∙ ap (list_any (λ row. passes row.0)) cut

-- the row at a place
pub row_at : {V : Type 0} (rows : List (Bor (List ℕ) × V)) (place : ℕ) (row : Bor (List ℕ) × V)
    → place < length rows → row ≡ get_or rows place row → row_of row ≡ get_or (map row_of rows) place (row_of row)
row_at rows place row inside here = ap row_of here ∙ sym (get_or-map row_of rows place row (row_of row) inside)
