-- Shared cells that hold lists, kept as a finite map without empty lists. An empty cell and an
-- absent one are the same, and two maps that answer alike are equal.
-- Source: none; a container of our own.
use Rattle.std.specs.Prelude.{Bool, not, List, [], ◌∷◌, ◌++◌, Option, Some, None}
use Rattle.std.specs.declared.cmp.Ordering.{Ordering}
use Rattle.std.specs.FinMap as map

-- a list that is not empty
pub record Full (A : Type 0) : Type 0 where
  pub first : A
  pub rest : List A

-- a list from what a map holds
abbrev pub list_of : {A : Type 0} → Option (Full A) → List A
list_of None = []
list_of (Some f) = f.first ∷ f.rest

module _ {K A : Type 0} (R : K → K → Ordering) where
  -- a cell's list
  unfoldable pub get_cell : map.FinMap R (Full A) → K → List A
  get_cell m c = list_of (map.get m c)

  -- the map with a cell's list replaced: an empty list takes the cell out
  abbrev pub put_cell : K → List A → map.FinMap R (Full A) → map.FinMap R (Full A)
  put_cell c [] m = map.remove m c
  put_cell c (x ∷ xs) m = map.insert m c (record { first = x; rest = xs })

  -- the same, for a machine's `set`
  unfoldable pub set_cell : K → List A → map.FinMap R (Full A) → map.FinMap R (Full A)
  set_cell c xs m = put_cell c xs m

  -- the cells that pass a test
  unfoldable pub restrict_cells : (K → Bool) → map.FinMap R (Full A) → map.FinMap R (Full A)
  restrict_cells test m = map.retain_keys m test

  -- the first cells where they pass a test, the second ones where they do not
  unfoldable pub merge_cells : (K → Bool) → map.FinMap R (Full A) → map.FinMap R (Full A)
      → map.FinMap R (Full A)
  merge_cells test new old =
      map.from_entries
      (map.entries (map.retain_keys new test)
      ++ map.entries (map.retain_keys old (λ c. not (test c))))
