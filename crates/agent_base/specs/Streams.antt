-- The bytes that a source has left and that a sink has taken, where it tells them.
-- `None` is an object that tells no bytes. Of such a one nothing is said.
-- Source: none.
-- Our own choice: an object that tells its bytes before a call tells them after it. One that tells
-- none before may begin to tell, as std lets its readers and writers.
use Rattle.std.specs.Prelude.{◌≡◌, ◌≤◌, ℕ, List, ◌++◌, length, take, drop, Option, Some, None}

-- the source gave these bytes: what it had left begins with them
abbrev pub Gives : Option (List ℕ) → Option (List ℕ) → List ℕ → Type 0
Gives (Some old) (Some new) bytes = old ≡ bytes ++ new
Gives (Some old) None bytes = ⊥
Gives None new bytes = Unit {0}

-- the source gave some bytes, and has the rest left
abbrev pub Shortens : Option (List ℕ) → Option (List ℕ) → Type 0
Shortens (Some old) (Some new) = (count : ℕ) × (new ≡ drop count old)
Shortens (Some old) None = ⊥
Shortens None new = Unit {0}

-- the sink took these bytes, after those that it had
abbrev pub Takes : Option (List ℕ) → Option (List ℕ) → List ℕ → Type 0
Takes (Some old) (Some new) bytes = new ≡ old ++ bytes
Takes (Some old) None bytes = ⊥
Takes None new bytes = Unit {0}

-- the sink took the first of these bytes, all of them or fewer
abbrev pub TakesPrefix : Option (List ℕ) → Option (List ℕ) → List ℕ → Type 0
TakesPrefix old new bytes = (count : ℕ) × (count ≤ length bytes) × Takes old new (take count bytes)
