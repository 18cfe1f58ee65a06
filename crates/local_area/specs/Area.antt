-- The content of a storage area: pairs of a name and a value, in the order in which names came.
-- Source: HTML, "Web storage", the Storage interface; Storage Standard, whose endpoints
-- `localStorage` and `sessionStorage` have a quota of 5 mebibytes each.
-- Our own choice: a new name stands last and a removal keeps the order, where HTML leaves both
-- orders open. The quota counts the UTF-8 bytes of all names and values.
use Rattle.std.specs.Prelude.{ℕ, ◌+◌, Bool, not, List, [], ◌∷◌, ◌++◌, map, filter, find, length, sum_by, slice_get, bytes_eq, Option, option_map, is_some, if◌then◌else◌}
use Rattle.std.specs.List.{IsDistinct}

-- a name and its value, each as its UTF-8 bytes
pub record Pair : Type 0 where
  pub name : List ℕ
  pub value : List ℕ

-- the number of bytes that an area may weigh
abbrev pub quota : ℕ
quota = 5242880

-- whether a pair has this name
abbrev pub has_name : List ℕ → Pair → Bool
has_name name pair = bytes_eq name pair.name

-- the value of a name
abbrev pub area_get : List ℕ → List Pair → Option (List ℕ)
area_get name pairs = option_map (λ pair. pair.value) (find (has_name name) pairs)

-- the name at a place, counted from 0
abbrev pub area_nth : ℕ → List Pair → Option (List ℕ)
area_nth place pairs = option_map (λ pair. pair.name) (slice_get pairs place)

-- the pairs after a name has this value: in its place where the name is there, else at the end
abbrev pub area_put : List ℕ → List ℕ → List Pair → List Pair
area_put name value pairs =
    if is_some (area_get name pairs)
    then map (λ pair. if has_name name pair then record pair { value = value } else pair) pairs
    else pairs ++ record { name = name; value = value } ∷ []

-- the pairs without this name
abbrev pub area_remove : List ℕ → List Pair → List Pair
area_remove name pairs = filter (λ pair. not (has_name name pair)) pairs

-- the bytes of one pair
abbrev pub pair_weight : Pair → ℕ
pair_weight pair = length pair.name + length pair.value

-- the bytes of all names and values
abbrev pub area_weight : List Pair → ℕ
area_weight pairs = sum_by pair_weight pairs

-- no two pairs have one name
abbrev pub HasDistinctNames : List Pair → Type 0
HasDistinctNames pairs = IsDistinct bytes_eq (map (λ pair. pair.name) pairs)
