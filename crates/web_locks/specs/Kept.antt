-- The requests of a table with what finds them, as its calls go on. Only private functions see it.
-- Source: none.
use Rattle.std.specs.Prelude.{◌≡◌, ℕ, ◌<◌, true, false, not, ◌&&◌, List, [], ◌∷◌, ◌++◌, Option, Some, None, filter, map, string_bytes, option_map, unwrap_or, if◌then◌else◌}
use Rattle.std.specs.List.{AllByRecursion, IsDistinct}
use Rattle.std.specs.Option.{option_or}
use Rattle.std.specs.Rc.{rc_value}
use Rattle.std.specs.declared.cmp.Ordering.{Ordering}
use Rattle.agent_base.specs.declared.refusals.Label.{Label}
use Rattle.web_locks.specs.declared.requests.Requests.{Requests}
use Rattle.web_locks.specs.Lock.{PlainLock, is_owned}
use Rattle.web_locks.specs.Queue.{fits, held_modes, processed}
use Rattle.web_locks.specs.Forms.{IsOpen, is_plain, same_request}
use Rattle.web_locks.specs.Requests.{PlainRow, lock_row}
use Rattle.web_locks.specs.Numbers.{first_after, is_later}
use Rattle.web_locks.specs.Index.{AreTold, SharedResource, is_for, line_at, locks_of, mode_at, numbers_where, row_at, stole_it, waits_for}

module _ {K : Type 0} where
  -- a number, where its request holds its lock
  abbrev pub held_number : Option ℕ → List (ℕ × PlainLock K) → Option ℕ
  held_number None rows = None
  held_number (Some number) rows =
      if unwrap_or (option_map (λ l. l.held) (row_at number rows)) false then Some number else None

module _ {K : Type 0} (cmp : K → K → Ordering) where
  -- the numbers are below that of the next, and what finds the requests tells them
  pub record IsIndexed (requests : Requests K) : Type 0 where
    pub below : AllByRecursion (λ e. e.0 < requests.made) requests.rows
    pub told : AreTold cmp requests.index requests.rows

  -- the queue of a name is processed
  abbrev pub processed_at : SharedResource K → List (PlainLock K) → List (PlainLock K)
  processed_at resource table =
      processed cmp (rc_value resource).key (string_bytes (rc_value resource).name) table

  -- the first of these numbers, where its request fits those that are held
  abbrev pub given_first : SharedResource K → List (ℕ × PlainLock K) → List ℕ → Option ℕ
  given_first resource rows [] = None
  given_first resource rows (number ∷ numbers) =
      if fits (mode_at number rows) (held_modes (line_at cmp resource rows)) then Some number
      else None

  -- the first that waits, where it fits those that are held
  abbrev pub next_given : SharedResource K → List (ℕ × PlainLock K) → Option ℕ
  next_given resource rows = given_first resource rows (numbers_where (waits_for cmp resource) rows)

  -- one that holds a lock: the first that has stolen it, or the first of all
  abbrev pub holder : SharedResource K → List (ℕ × PlainLock K) → Option ℕ
  holder resource rows =
      option_or (held_number (first_after None (numbers_where (stole_it cmp resource) rows)) rows)
      (held_number (first_after None (numbers_where (is_for cmp resource) rows)) rows)

  -- the rows without those that hold a lock
  abbrev pub without_held : SharedResource K → List (ℕ × PlainLock K) → List (ℕ × PlainLock K)
  without_held resource rows = filter (λ e. not (is_for cmp resource e.1 && e.1.held)) rows

  -- the last row is that of a request that waits to have stolen a lock
  pub record HasThief (resource : SharedResource K) (rows : List (ℕ × PlainLock K)) : Type 0 where
    pub front : List (ℕ × PlainLock K)
    pub number : ℕ
    pub thief : PlainLock K
    pub last : rows ≡ front ++ (number, thief) ∷ []
    pub waits : thief.held ≡ false
    pub distinct : IsDistinct same_request (locks_of front)
    pub line : IsOpen (line_at cmp resource front)
    pub plain : AllByRecursion (λ l. is_plain l ≡ true) (locks_of front)

module _ {K : Type 0} where
  -- a row as its document sees it, or none
  abbrev pub rows_at : ℕ → List (ℕ × PlainLock K) → List PlainRow
  rows_at number rows = seen (row_at number rows)
    where
      seen : Option (PlainLock K) → List PlainRow
      seen None = []
      seen (Some lock) = lock_row lock ∷ []

  -- the rows of a document behind a number, as the document sees them
  abbrev pub rest_of : Label → Option ℕ → List (ℕ × PlainLock K) → List PlainRow
  rest_of owner after rows =
      map (λ e. lock_row e.1) (filter (λ e. is_owned owner e.1 && is_later after e.0) rows)
