-- Which requests of one name are given their locks.
-- Source: Web Locks API, "Modes and scheduling" ("grantable") and "Process a lock request queue".
use Rattle.std.specs.Prelude.{ℕ, Bool, true, false, not, ◌&&◌, ◌||◌, List, [], ◌∷◌, map, filter, if◌then◌else◌}
use Rattle.std.specs.List.{list_any}
use Rattle.std.specs.declared.cmp.Ordering.{Ordering}
use Rattle.web_locks.specs.declared.request.LockMode.{LockMode}
use Rattle.web_locks.specs.declared.request.LockMode.TheVariants.{Exclusive, Shared}
use Rattle.web_locks.specs.Lock.{PlainLock, is_exclusive, in_line, line_of}

-- whether a lock can be held beside locks of these modes
abbrev pub fits : LockMode → List LockMode → Bool
fits Exclusive [] = true
fits Exclusive (mode ∷ modes) = false
fits Shared held = not (list_any is_exclusive held)

module _ {K : Type 0} where
  -- the modes of the locks that are held
  abbrev pub held_modes : List (PlainLock K) → List LockMode
  held_modes line = map (λ lock. lock.mode) (filter (λ lock. lock.held) line)

  -- whether a request waits
  abbrev pub has_waiting : List (PlainLock K) → Bool
  has_waiting line = list_any (λ lock. not lock.held) line

  -- "grantable", of a request behind this line: none waits before it, and it fits those held
  abbrev pub is_grantable : LockMode → List (PlainLock K) → Bool
  is_grantable mode line = not (has_waiting line) && fits mode (held_modes line)

module _ {K : Type 0} (cmp : K → K → Ordering) where
  -- the table after the requests for a name are given their locks, beside these that are held: the
  -- first that waits, and so on, up to the first that does not fit
  abbrev pub granted : K → List ℕ → List LockMode → List (PlainLock K) → List (PlainLock K)
  granted key name held [] = []
  granted key name held (lock ∷ table) =
      if not (in_line cmp key name lock) || lock.held then lock ∷ granted key name held table
      else (if fits lock.mode held
      then record lock { held = true } ∷ granted key name (lock.mode ∷ held) table
      else lock ∷ table)

  -- "process the lock request queue" of a name
  abbrev pub processed : K → List ℕ → List (PlainLock K) → List (PlainLock K)
  processed key name table = granted key name (held_modes (line_of cmp key name table)) table
