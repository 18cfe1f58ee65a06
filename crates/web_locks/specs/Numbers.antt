-- Ascending numbers. Only private functions see them.
-- Source: none.
use Rattle.std.specs.Prelude.{ℕ, Bool, true, not, List, Option, Some, None, find, filter}
use Rattle.std.specs.Ordering.{nat_cmp, is_eq, is_lt}
use Rattle.std.specs.BTreeSet.{insert_key}

-- the numbers with one more, in its place
abbrev pub with_number : ℕ → List ℕ → List ℕ
with_number number numbers = insert_key nat_cmp numbers number

-- the numbers without this one
abbrev pub without_number : ℕ → List ℕ → List ℕ
without_number number numbers = filter (λ n. not (is_eq (nat_cmp number n))) numbers

-- whether a number is greater than this one, or any at all without one
abbrev pub is_later : Option ℕ → ℕ → Bool
is_later None n = true
is_later (Some after) n = is_lt (nat_cmp after n)

-- the first number that is greater than this one, or the first of all without one
abbrev pub first_after : Option ℕ → List ℕ → Option ℕ
first_after after numbers = find (is_later after) numbers
