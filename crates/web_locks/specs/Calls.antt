-- The table after any calls, and what holds of it.
-- Source: Web Locks API, "Modes and scheduling": which locks can be held at one time, and that
-- requests for a name are processed in their order.
use Rattle.std.specs.Prelude.{◌≡◌, ℕ, Bool, true, false, ◌||◌, List, [], ◌∷◌, ◌++◌, fold, if◌then◌else◌}
use Rattle.std.specs.List.{list_any, IsDistinct}
use Rattle.std.specs.declared.cmp.Ordering.{Ordering}
use Rattle.agent_base.specs.declared.refusals.Label.{Label}
use Rattle.web_locks.specs.declared.request.LockMode.TheVariants.{Exclusive}
use Rattle.web_locks.specs.Lock.{PlainLock, is_exclusive, is_request_of, has_request, line_of}
use Rattle.web_locks.specs.Queue.{fits, held_modes, has_waiting}
use Rattle.web_locks.specs.Requests.{is_unsupported, requested, released, without_owner}

-- a call of the table
pub data LockCall (K : Type 0) : Type 0 where
  Request : (if_available : Bool) → (lock : PlainLock K) → LockCall K
  Release : (owner : Label) → (id : ℕ) → LockCall K
  DropOwner : (owner : Label) → LockCall K

module _ {K : Type 0} (cmp : K → K → Ordering) where
  -- the table after a call; one that is refused leaves it
  abbrev pub after_call : LockCall K → List (PlainLock K) → List (PlainLock K)
  after_call (Request if_available lock) table =
      if is_unsupported if_available lock || has_request lock.owner lock.id table then table
      else requested cmp if_available lock table
  after_call (Release owner id) table = released cmp owner id table
  after_call (DropOwner owner) table = without_owner cmp owner table

  -- the table after calls, of which the first finds it empty
  abbrev pub after_calls : List (LockCall K) → List (PlainLock K)
  after_calls calls = fold (λ table call. after_call call table) [] calls

  -- some calls make this table
  abbrev pub IsReached : List (PlainLock K) → Type 0
  IsReached table = (calls : List (LockCall K)) × (after_calls calls ≡ table)

-- what holds of the requests for one name
pub record IsGovernedLine {K : Type 0} (line : List (PlainLock K)) : Type 0 where
  -- an exclusive lock is held alone
  pub alone : list_any is_exclusive (held_modes line) ≡ true → held_modes line ≡ Exclusive ∷ []
  -- the first that waits does not fit those that are held
  pub first : (before behind : List (PlainLock K)) (lock : PlainLock K)
      → line ≡ before ++ lock ∷ behind → has_waiting before ≡ false → lock.held ≡ false
      → fits lock.mode (held_modes line) ≡ false
  -- none that is held without a steal has overtaken one that waits
  pub fair : (before behind : List (PlainLock K)) (lock : PlainLock K)
      → line ≡ before ++ lock ∷ behind → lock.held ≡ true → lock.stole ≡ false
      → has_waiting before ≡ false

-- no two requests are of one number of a document, and the requests for each name are governed
pub record IsGoverned {K : Type 0} (cmp : K → K → Ordering) (table : List (PlainLock K)) : Type 0
  where
    pub distinct : IsDistinct (λ a b. is_request_of a.owner a.id b) table
    pub lines : (key : K) (name : List ℕ) → IsGovernedLine (line_of cmp key name table)
