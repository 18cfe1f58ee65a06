-- The requests by the numbers in whose order they were made, and what finds their numbers. Only
-- private functions see it.
-- Source: none.
use Rattle.std.specs.Prelude.{◌≡◌, ℕ, Bool, not, ◌&&◌, List, Option, Some, None, filter, map, string_bytes, option_map, unwrap_or}
use Rattle.std.specs.Cmp.Lexicographic.{slice_cmp}
use Rattle.std.specs.Ordering.{nat_cmp, ordering_then}
use Rattle.std.specs.Rc.{rc_value}
use Rattle.std.specs.Global.{Global}
use Rattle.std.specs.declared.rc.Rc.{Rc}
use Rattle.std.specs.declared.cmp.Ordering.{Ordering}
use Rattle.key_map.specs.Entries.{map_get, map_remove, map_set}
use Rattle.web_locks.specs.declared.request.LockMode.{LockMode}
use Rattle.web_locks.specs.declared.request.LockMode.TheVariants.{Exclusive}
use Rattle.web_locks.specs.declared.resource.OwnId.{OwnId}
use Rattle.web_locks.specs.declared.resource.Resource.{Resource}
use Rattle.web_locks.specs.declared.index.Index.{Index}
use Rattle.web_locks.specs.Lock.{PlainLock, is_request_of, is_owned, in_line, line_of}
use Rattle.web_locks.specs.Requests.{holding}
use Rattle.web_locks.specs.Owners.{label_order}
use Rattle.web_locks.specs.Groups.{Adds, AddsAtMost, Removes, group_of, trimmed}

-- a resource that requests share
abbrev pub SharedResource : Type 0 → Type 0
SharedResource K = Rc (Resource K) Global

-- ---- rows

module _ {K : Type 0} where
  -- the requests of numbered rows, in their order
  abbrev pub locks_of : List (ℕ × PlainLock K) → List (PlainLock K)
  locks_of rows = map (λ e. e.1) rows

  -- the numbers of the rows whose requests pass a test
  abbrev pub numbers_where : (PlainLock K → Bool) → List (ℕ × PlainLock K) → List ℕ
  numbers_where test rows = map (λ e. e.0) (filter (λ e. test e.1) rows)

  -- the rows without the one of a number
  abbrev pub without_row : ℕ → List (ℕ × PlainLock K) → List (ℕ × PlainLock K)
  without_row number rows = map_remove nat_cmp number rows

  -- the row of a number
  abbrev pub row_at : ℕ → List (ℕ × PlainLock K) → Option (PlainLock K)
  row_at number rows = map_get nat_cmp number rows

  -- the mode of a row
  abbrev pub mode_at : ℕ → List (ℕ × PlainLock K) → LockMode
  mode_at number rows = unwrap_or (option_map (λ l. l.mode) (row_at number rows)) Exclusive

  -- the rows with one that holds its lock
  abbrev pub held_row : ℕ → List (ℕ × PlainLock K) → List (ℕ × PlainLock K)
  held_row number rows = held_by number (row_at number rows) rows
    where
      held_by : ℕ → Option (PlainLock K) → List (ℕ × PlainLock K) → List (ℕ × PlainLock K)
      held_by number None rows = rows
      held_by number (Some lock) rows = map_set nat_cmp number (holding lock) rows

-- ---- groups

-- numbers of documents in their order
abbrev pub id_order : OwnId → OwnId → Ordering
id_order a b = ordering_then (label_order a.owner b.owner) (nat_cmp a.id b.id)

module _ {G K : Type 0} (cmp : G → G → Ordering) (test : G → PlainLock K → Bool) where
  -- each group has the numbers of the rows that pass its test
  abbrev pub Tells : List (G × List ℕ) → List (ℕ × PlainLock K) → Type 0
  Tells groups rows = (q : G) → group_of cmp q groups ≡ numbers_where (test q) rows

  -- each group has the numbers of the rows that pass its test, but for one row
  abbrev pub TellsBut : ℕ → PlainLock K → List (G × List ℕ) → List (ℕ × PlainLock K) → Type 0
  TellsBut number lock groups rows =
      (q : G) → trimmed cmp (λ q. test q lock) number q groups
      ≡ numbers_where (test q) (without_row number rows)

-- ---- what finds the requests

module _ {K : Type 0} where
  -- whether a request is of a number of a document
  abbrev pub has_id : OwnId → PlainLock K → Bool
  has_id own lock = is_request_of own.owner own.id lock

module _ {K : Type 0} (cmp : K → K → Ordering) where
  -- names under keys in their order
  abbrev pub resource_order : Resource K → Resource K → Ordering
  resource_order a b =
      ordering_then (cmp a.key b.key)
      (slice_cmp nat_cmp (string_bytes a.name) (string_bytes b.name))

  -- the same of names that requests share
  abbrev pub shared_order : SharedResource K → SharedResource K → Ordering
  shared_order a b = resource_order (rc_value a) (rc_value b)

  -- whether a request is for a name under its key
  abbrev pub is_for : SharedResource K → PlainLock K → Bool
  is_for resource lock =
      in_line cmp (rc_value resource).key (string_bytes (rc_value resource).name) lock

  -- whether it waits for it
  abbrev pub waits_for : SharedResource K → PlainLock K → Bool
  waits_for resource lock = is_for resource lock && not lock.held

  -- whether it has stolen it
  abbrev pub stole_it : SharedResource K → PlainLock K → Bool
  stole_it resource lock = is_for resource lock && lock.stole

  -- the requests for a name, in their order
  abbrev pub line_at : SharedResource K → List (ℕ × PlainLock K) → List (PlainLock K)
  line_at resource rows =
      line_of cmp (rc_value resource).key (string_bytes (rc_value resource).name) (locks_of rows)

  -- a request is noted
  pub record IsNoted (number : ℕ) (lock : PlainLock K) (old new : Index K) : Type 0 where
    pub ids : Adds id_order (λ q. has_id q lock) number old.ids new.ids
    pub owners : Adds label_order (λ q. is_owned q lock) number old.owners new.owners
    pub queues : Adds shared_order (λ q. is_for q lock) number old.queues new.queues
    pub waiting : Adds shared_order (λ q. waits_for q lock) number old.waiting new.waiting
    pub thieves : Adds shared_order (λ q. stole_it q lock) number old.thieves new.thieves

  -- a request is noted in part
  pub record KeepsBut (number : ℕ) (lock : PlainLock K) (old new : Index K) : Type 0 where
    pub ids : AddsAtMost id_order (λ q. has_id q lock) number old.ids new.ids
    pub owners : AddsAtMost label_order (λ q. is_owned q lock) number old.owners new.owners
    pub queues : AddsAtMost shared_order (λ q. is_for q lock) number old.queues new.queues
    pub waiting : AddsAtMost shared_order (λ q. waits_for q lock) number old.waiting new.waiting
    pub thieves : AddsAtMost shared_order (λ q. stole_it q lock) number old.thieves new.thieves

  -- a request is forgotten
  pub record IsForgotten (number : ℕ) (lock : PlainLock K) (old new : Index K) : Type 0 where
    pub ids : Removes id_order (λ q. has_id q lock) number old.ids new.ids
    pub owners : Removes label_order (λ q. is_owned q lock) number old.owners new.owners
    pub queues : Removes shared_order (λ q. is_for q lock) number old.queues new.queues
    pub waiting : Removes shared_order (λ q. is_for q lock) number old.waiting new.waiting
    pub thieves : Removes shared_order (λ q. is_for q lock) number old.thieves new.thieves

  -- what finds the requests tells their numbers
  pub record AreTold (index : Index K) (rows : List (ℕ × PlainLock K)) : Type 0 where
    pub ids : Tells id_order has_id index.ids rows
    pub owners : Tells label_order is_owned index.owners rows
    pub queues : Tells shared_order is_for index.queues rows
    pub waiting : Tells shared_order waits_for index.waiting rows
    pub thieves : Tells shared_order stole_it index.thieves rows

  -- the same, but for a row that was added or is to go
  pub record AreToldBut (number : ℕ) (lock : PlainLock K) (index : Index K)
      (rows : List (ℕ × PlainLock K)) : Type 0 where
    pub ids : TellsBut id_order has_id number lock index.ids rows
    pub owners : TellsBut label_order is_owned number lock index.owners rows
    pub queues : TellsBut shared_order is_for number lock index.queues rows
    pub waiting : TellsBut shared_order waits_for number lock index.waiting rows
    pub thieves : TellsBut shared_order stole_it number lock index.thieves rows
