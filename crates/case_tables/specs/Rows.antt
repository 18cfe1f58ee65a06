-- The rows of a table of named cases, and the row that a name picks.
-- Source: Rust Reference, "Match expressions": of the arms that match, the first one counts.
-- Our own choice: two rows may have one name, and then the first counts.
use Rattle.std.specs.Prelude.{ℕ, Bool, ◌≢◌, List, map, find, AllPairs, bytes_eq, Option, option_map}
use Rattle.std.specs.Borrow.{Bor}
use Rattle.std.specs.Char.{to_ascii_lowercase}
use Rattle.case_tables.specs.declared.cases.Cases.{Cases}

-- the bytes of a row's name, and its value
abbrev pub row_of : {V : Type 0} → Bor (List ℕ) × V → List ℕ × V
row_of row = (row.0.now, row.1)

-- a table as contracts see it: its rows in order
abbrev pub rows_of : {V : Type 0} → Cases V → List (List ℕ × V)
rows_of cases = map row_of cases.rows.now

-- the value of the first row whose name passes
abbrev pub first_value : {V : Type 0} → (List ℕ → Bool) → List (List ℕ × V) → Option V
first_value passes rows = option_map (λ row. row.1) (find (λ row. passes row.0) rows)

-- whether two names are equal where ASCII letters count alike in either case
abbrev pub same_in_any_case : List ℕ → List ℕ → Bool
same_in_any_case a b = bytes_eq (map to_ascii_lowercase a) (map to_ascii_lowercase b)

-- no two rows have one name
abbrev pub IsDistinct : {V : Type 0} → List (List ℕ × V) → Type 0
IsDistinct rows = AllPairs (λ a b. a.0 ≢ b.0) rows
