-- A value among words, as it is looked for: names and values by turns.
-- Source: none.
use Rattle.std.specs.Prelude.{ℕ, List, [], ◌∷◌, bytes_eq, Option, Some, None, if◌then◌else◌}

-- the value behind the first name that is this one
unfoldable pub value_in : List ℕ → List (List ℕ) → Option (List ℕ)
value_in name [] = None
value_in name (other ∷ []) = None
value_in name (other ∷ value ∷ words) =
    if bytes_eq other name then Some value else value_in name words
