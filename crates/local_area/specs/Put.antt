-- What a `put` answers.
-- Source: HTML, "Web storage", the method `setItem`, which does nothing where the value is there.
use Rattle.std.specs.Prelude.{ℕ, List, bytes_eq, Option, Some, None, string_bytes, if◌then◌else◌}
use Rattle.local_area.specs.Area.{Pair, area_get}
use Rattle.local_area.specs.declared.area.Put.{Put}
use Rattle.local_area.specs.declared.area.Put.TheVariants.{Same, Added, Changed}

-- an answer, as contracts see it
pub data PlainPut : Type 0 where
  same : PlainPut
  added : PlainPut
  changed : List ℕ → PlainPut

-- the answer of the program, as contracts see it
abbrev pub plain_put : Put → PlainPut
plain_put Same = same
plain_put Added = added
plain_put (Changed before) = changed (string_bytes before)

-- the answer for a new value, from the value that is there
abbrev pub answer_over : List ℕ → Option (List ℕ) → PlainPut
answer_over value None = added
answer_over value (Some before) = if bytes_eq before value then same else changed before

-- the answer for a name and a value
abbrev pub put_answer : List ℕ → List ℕ → List Pair → PlainPut
put_answer name value pairs = answer_over value (area_get name pairs)
