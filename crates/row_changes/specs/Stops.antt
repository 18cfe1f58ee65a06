-- What a private function answers that reads a field.
use Rattle.std.specs.Prelude.{◌≡◌, Option, Some, None, Result, Ok, Err}
use Rattle.row_changes.specs.declared.stop.Stop.{Stop}
use Rattle.row_changes.specs.declared.stop.Stop.TheVariants.{NoField, NoMemory}

-- the refusal is the one that reading gives, but for want of memory
abbrev pub Stops : {Y : Type 0} → Stop → Option Y → Type 0
Stops NoMemory read = Unit {0}
Stops NoField read = read ≡ None

-- the answer, seen by `view`, is what reading gives, but for want of memory
abbrev pub Gives : {X Y : Type 0} → (X → Y) → Option Y → Result X Stop → Type 0
Gives view read (Ok x) = read ≡ Some (view x)
Gives view read (Err why) = Stops why read
