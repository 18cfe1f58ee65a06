-- What a request, a release and the end of a document make of the table.
-- Source: Web Locks API, "The request() method", "Request a lock", "Release a lock" and
-- "Termination of locks".
-- Our own choice: a number that the document uses already is refused.
use Rattle.std.specs.Prelude.{ℕ, Bool, true, false, not, ◌==◌, ◌&&◌, ◌||◌, List, [], ◌∷◌, ◌++◌, Option, Some, None, find, filter, fold, map, if◌then◌else◌}
use Rattle.std.specs.Str.{byte}
use Rattle.std.specs.declared.cmp.Ordering.{Ordering}
use Rattle.agent_base.specs.declared.refusals.Label.{Label}
use Rattle.web_locks.specs.declared.request.LockAnswer.{LockAnswer}
use Rattle.web_locks.specs.declared.request.LockAnswer.TheVariants as answer
use Rattle.web_locks.specs.declared.request.LockOptions.{LockOptions}
use Rattle.web_locks.specs.declared.request.LockState.{LockState}
use Rattle.web_locks.specs.declared.request.LockState.TheVariants as state
use Rattle.web_locks.specs.Lock.{PlainLock, is_exclusive, is_request_of, is_owned, owned_ids, in_line, line_of}
use Rattle.web_locks.specs.Queue.{is_grantable, processed}

-- a request as its document sees it
pub record PlainRow : Type 0 where
  pub id : ℕ
  pub name : List ℕ
  pub state : LockState

-- whether a request holds its lock
abbrev pub lock_state : Bool → LockState
lock_state true = state.Held
lock_state false = state.Waiting

-- whether a name begins with a hyphen
abbrev pub is_reserved : List ℕ → Bool
is_reserved [] = false
is_reserved (first ∷ name) = first == byte "-"

module _ {K : Type 0} where
  -- what a document asks for
  abbrev pub asked : Label → ℕ → K → List ℕ → LockOptions → PlainLock K
  asked owner id key name options = record {
    owner = owner;
    id = id;
    key = key;
    name = name;
    mode = options.mode;
    held = false;
    stole = options.steal;
  }

  -- whether a request is not supported: for its name, or as a steal that is shared or does not wait
  abbrev pub is_unsupported : Bool → PlainLock K → Bool
  is_unsupported if_available lock =
      is_reserved lock.name || lock.stole && (if_available || not (is_exclusive lock.mode))

  -- a request that is given its lock
  abbrev pub holding : PlainLock K → PlainLock K
  holding lock = record lock { held = true }

  -- a request that waits
  abbrev pub waiting : PlainLock K → PlainLock K
  waiting lock = record lock { held = false }

  -- a request as its document sees it
  abbrev pub lock_row : PlainLock K → PlainRow
  lock_row lock = record { id = lock.id; name = lock.name; state = lock_state lock.held }

  -- the requests of a document, in the order in which they were made
  abbrev pub lock_rows : Label → List (PlainLock K) → List PlainRow
  lock_rows owner table = map lock_row (filter (is_owned owner) table)

module _ {K : Type 0} (cmp : K → K → Ordering) where
  -- the table after a steal: those that held the lock have gone, and the request holds it
  abbrev pub stolen : PlainLock K → List (PlainLock K) → List (PlainLock K)
  stolen lock table =
      filter (λ other. not (in_line cmp lock.key lock.name other && other.held)) table
      ++ holding lock ∷ []

  -- "request a lock": a steal removes those that hold the lock, and holds it. Any other request
  -- holds it where it is grantable, else leaves nothing where it is not to wait, and else waits.
  abbrev pub requested : Bool → PlainLock K → List (PlainLock K) → List (PlainLock K)
  requested if_available lock table =
      if lock.stole then stolen lock table
      else (if is_grantable lock.mode (line_of cmp lock.key lock.name table)
      then table ++ holding lock ∷ []
      else (if if_available then table else table ++ waiting lock ∷ []))

  -- what a request is answered
  abbrev pub request_answer : Bool → PlainLock K → List (PlainLock K) → LockAnswer
  request_answer if_available lock table =
      if lock.stole || is_grantable lock.mode (line_of cmp lock.key lock.name table)
      then answer.Held
      else (if if_available then answer.Unavailable else answer.Waiting)

  -- the table without the request of a document's number, which is this one if there is one
  abbrev pub released_by : Label → ℕ → Option (PlainLock K) → List (PlainLock K)
      → List (PlainLock K)
  released_by owner id None table = table
  released_by owner id (Some lock) table =
      processed cmp lock.key lock.name (filter (λ other. not (is_request_of owner id other)) table)

  -- "release a lock", or the end of a request that waits: it goes, and the queue is processed
  abbrev pub released : Label → ℕ → List (PlainLock K) → List (PlainLock K)
  released owner id table = released_by owner id (find (is_request_of owner id) table) table

  -- "termination of locks": the requests of a document are released, in their order
  abbrev pub without_owner : Label → List (PlainLock K) → List (PlainLock K)
  without_owner owner table =
      fold (λ rest id. released owner id rest) table (owned_ids owner table)
