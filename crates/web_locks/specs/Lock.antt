-- A request for a lock: who asks, for which name under which key, and whether the lock is held.
-- Source: Web Locks API, "Lock managers", "Modes and scheduling", "Locks" and "Lock requests".
-- Our own choice: held locks and waiting requests stand in one list, in the order in which they
-- were asked for. A document names its request by a number of its own.
use Rattle.std.specs.Prelude.{ℕ, nat_eq, Bool, true, false, ◌&&◌, List, map, filter, bytes_eq}
use Rattle.std.specs.List.{list_any}
use Rattle.std.specs.Ordering.{is_eq}
use Rattle.std.specs.declared.cmp.Ordering.{Ordering}
use Rattle.agent_base.specs.declared.refusals.Label.{Label}
use Rattle.web_locks.specs.declared.request.LockMode.{LockMode}
use Rattle.web_locks.specs.declared.request.LockMode.TheVariants.{Exclusive, Shared}

-- a request: `stole` is that it was asked for as a steal
pub record PlainLock (K : Type 0) : Type 0 where
  pub owner : Label
  pub id : ℕ
  pub key : K
  pub name : List ℕ
  pub mode : LockMode
  pub held : Bool
  pub stole : Bool

-- whether a mode is exclusive
abbrev pub is_exclusive : LockMode → Bool
is_exclusive Exclusive = true
is_exclusive Shared = false

module _ {K : Type 0} where
  -- whether a document owns a request
  abbrev pub is_owned : Label → PlainLock K → Bool
  is_owned owner lock = nat_eq owner.tab lock.owner.tab && nat_eq owner.frame lock.owner.frame

  -- whether a request is that of a document's number
  abbrev pub is_request_of : Label → ℕ → PlainLock K → Bool
  is_request_of owner id lock = is_owned owner lock && nat_eq id lock.id

  -- whether a document has a request of a number
  abbrev pub has_request : Label → ℕ → List (PlainLock K) → Bool
  has_request owner id table = list_any (is_request_of owner id) table

  -- the numbers of a document's requests, in their order
  abbrev pub owned_ids : Label → List (PlainLock K) → List ℕ
  owned_ids owner table = map (λ lock. lock.id) (filter (is_owned owner) table)

module _ {K : Type 0} (cmp : K → K → Ordering) where
  -- whether a request is for this name under this key
  abbrev pub in_line : K → List ℕ → PlainLock K → Bool
  in_line key name lock = is_eq (cmp key lock.key) && bytes_eq name lock.name

  -- the requests for a name under a key, in their order
  abbrev pub line_of : K → List ℕ → List (PlainLock K) → List (PlainLock K)
  line_of key name table = filter (in_line key name) table
