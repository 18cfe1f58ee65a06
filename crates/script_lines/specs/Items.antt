-- Lists of values and pairs of values, as members of a line have them.
-- Source: none. Our own choice: all of it. A list is taken as a whole or not at all.
use Rattle.std.specs.Prelude.{List, [], ◌∷◌, Option, Some, None, option_and_then}
use Rattle.serde_json.specs.Data.{Data, Items, no_items, item}
use Rattle.serde_json.specs.Find.{as_array}

-- two values, where there are no more
abbrev pub two_in : Items → Option (Data × Data)
two_in (item first (item second no_items)) = Some (first, second)
two_in (item first (item second (item third more))) = None
two_in (item first no_items) = None
two_in no_items = None

-- the two values of a pair
abbrev pub two_of : Data → Option (Data × Data)
two_of pair = option_and_then two_in (as_array pair)

-- a value before others, where all of them are there
abbrev pub all_there : {A : Type 0} → Option A → Option (List A) → Option (List A)
all_there (Some first) (Some others) = Some (first ∷ others)
all_there (Some first) None = None
all_there None others = None

-- what these values are, and none where one of them is none
unfoldable pub each_of : {A : Type 0} → (Data → Option A) → Items → Option (List A)
each_of of_value no_items = Some []
each_of of_value (item value values) = all_there (of_value value) (each_of of_value values)
