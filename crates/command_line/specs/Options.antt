-- Paths, numbers, and the options of a run: names and values by turns.
-- Source: none.
-- Our own choice: all of it. An option's name and value are two words, and each name stands at most
-- once, in any order. A number is 1 to 12 ASCII digits, and may begin with zeros.
use Rattle.std.specs.Prelude.{ℕ, Bool, true, false, not, ◌&&◌, ◌||◌, ◌==◌, nat_le}
use Rattle.std.specs.Prelude.{List, [], ◌∷◌, length, codes}
use Rattle.std.specs.Prelude.{bytes_eq, Option, Some, None, option_and_then, option_map, unwrap_or}
use Rattle.std.specs.Prelude.{find, is_none, is_some, if◌then◌else◌}
use Rattle.std.specs.List.{list_all, list_any}
use Rattle.std.specs.Str.{byte}
use Rattle.std.specs.Str.Parse.{digits_value}
use Rattle.agent_base.specs.Seconds.{last_moment}

-- ---- words

-- a word that can be a path: it is not empty and does not begin with `-`
abbrev pub is_path : List ℕ → Bool
is_path [] = false
is_path (first ∷ rest) = not (first == byte "-")

-- an ASCII digit
abbrev pub is_digit : ℕ → Bool
is_digit b = nat_le (byte "0") b && nat_le b (byte "9")

-- the most digits of a number
abbrev pub most_digits : ℕ
most_digits = 12

-- a text of 1 to 12 digits
abbrev pub is_number : List ℕ → Bool
is_number text =
    nat_le 1 (length text) && (nat_le (length text) most_digits && list_all is_digit text)

-- a number that is not before the first, and not past the last
abbrev pub within : (first last : ℕ) → ℕ → Option ℕ
within first last n = if nat_le first n && nat_le n last then Some n else None

-- the number of a text, from the first to the last
abbrev pub number_of : (first last : ℕ) → List ℕ → Option ℕ
number_of first last text =
    if is_number text then within first last (digits_value 10 text) else None

-- ---- names and values

-- an option: its name, and behind it its value
abbrev pub Pair : Type 0
Pair = List ℕ × List ℕ

-- the words by twos; none where one is left over
unfoldable pub pairs_of : List (List ℕ) → Option (List Pair)
pairs_of [] = Some []
pairs_of (name ∷ []) = None
pairs_of (name ∷ value ∷ words) = option_map (λ pairs. (name, value) ∷ pairs) (pairs_of words)

-- the pair has this name
abbrev pub is_named : List ℕ → Pair → Bool
is_named name pair = bytes_eq pair.0 name

-- each name stands once
unfoldable pub have_distinct_names : List Pair → Bool
have_distinct_names [] = true
have_distinct_names (pair ∷ pairs) =
    not (list_any (is_named pair.0) pairs) && have_distinct_names pairs

-- the value of the first pair of a name
abbrev pub value_named : List ℕ → List Pair → Option (List ℕ)
value_named name pairs = option_map (λ pair. pair.1) (find (is_named name) pairs)

-- ---- the options of a run

-- the fewest lines of a batch
abbrev pub first_batch : ℕ
first_batch = 1

-- the most lines of a batch
abbrev pub last_batch : ℕ
last_batch = 256

-- how many lines a batch has where no option says so
abbrev pub default_batch : ℕ
default_batch = 1

-- a checkpoint that is never made
abbrev pub no_checkpoint : ℕ
no_checkpoint = 0

-- the most durable changes between two checkpoints
abbrev pub last_checkpoint : ℕ
last_checkpoint = 1000000

-- after how many durable changes a checkpoint is made where no option says so
abbrev pub default_checkpoint : ℕ
default_checkpoint = 1000

-- the first moment at which a clock may begin, 1970-01-01 00:00:00 UTC
abbrev pub first_start : ℕ
first_start = 0

-- the moment at which a clock begins where no option says so, 2026-01-01 00:00:00 UTC
abbrev pub default_start : ℕ
default_start = 1767225600

-- the pair is an option that is a number, and its value is one that it may have
abbrev pub is_number_option : Pair → Bool
is_number_option pair =
    (is_named (codes "--batch") pair && is_some (number_of first_batch last_batch pair.1))
    || ((is_named (codes "--checkpoint") pair
    && is_some (number_of no_checkpoint last_checkpoint pair.1))
    || (is_named (codes "--start") pair && is_some (number_of first_start last_moment pair.1)))

-- the pair is an option of a run, and its value is one that it may have
abbrev pub is_option : Pair → Bool
is_option pair =
    (is_named (codes "--store") pair && is_path pair.1) || is_number_option pair

-- the options that the words are, each at most once
abbrev pub options_of : List (List ℕ) → Option (List Pair)
options_of words = option_and_then (λ pairs.
    if have_distinct_names pairs && list_all is_option pairs then Some pairs else None)
    (pairs_of words)

-- the options that the words are, where the store is none of them
abbrev pub storeless_of : List (List ℕ) → Option (List Pair)
storeless_of words = option_and_then (λ options.
    if is_none (value_named (codes "--store") options) then Some options else None)
    (options_of words)

-- the lines of a batch that a value says
abbrev pub batch_of : Option (List ℕ) → ℕ
batch_of value = unwrap_or (option_and_then (number_of first_batch last_batch) value) default_batch

-- the durable changes between two checkpoints that a value says
abbrev pub checkpoint_of : Option (List ℕ) → ℕ
checkpoint_of value =
    unwrap_or (option_and_then (number_of no_checkpoint last_checkpoint) value) default_checkpoint

-- the beginning of the clock that a value says
abbrev pub start_of : Option (List ℕ) → ℕ
start_of value = unwrap_or (option_and_then (number_of first_start last_moment) value) default_start
