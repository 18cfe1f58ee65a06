-- A part of the table: the requests under some keys, as those of one top-level site.
-- Source: Web Locks API, "Lock managers": each storage bucket has its own, so that requests under
-- different keys have nothing to do with each other.
use Rattle.std.specs.Prelude.{◌≡◌, Bool, List, filter}
use Rattle.std.specs.List.{AllByRecursion}
use Rattle.std.specs.declared.cmp.Ordering.{Ordering}
use Rattle.std.specs.declared.cmp.Ordering.TheVariants.{Equal}
use Rattle.agent_base.specs.declared.refusals.Label.{Label}
use Rattle.web_locks.specs.Lock.{PlainLock}
use Rattle.web_locks.specs.Calls.{LockCall, Request, Release, DropOwner, after_calls}

-- keys that the order does not tell apart are in the same parts
abbrev pub IsEven : {K : Type 0} → (K → K → Ordering) → (K → Bool) → Type 0
IsEven {K} cmp under = (a b : K) → cmp a b ≡ Equal → under a ≡ under b

module _ {K : Type 0} (under : K → Bool) (own : Label → Bool) where
  -- the requests of a part: those whose keys it has
  abbrev pub part_of : List (PlainLock K) → List (PlainLock K)
  part_of table = filter (λ lock. under lock.key) table

  -- whether a call is of a part: it asks under one of its keys, or is of a document that it owns
  abbrev pub is_within : LockCall K → Bool
  is_within (Request if_available lock) = under lock.key
  is_within (Release owner id) = own owner
  is_within (DropOwner owner) = own owner

  -- a document asks under keys of the part that owns it, and no others
  abbrev pub AsksWithin : LockCall K → Type 0
  AsksWithin (Request if_available lock) = under lock.key ≡ own lock.owner
  AsksWithin (Release owner id) = Unit {0}
  AsksWithin (DropOwner owner) = Unit {0}

-- a part of the table is what the calls of that part make alone, whatever else is called between
abbrev pub ArePartsApart : {K : Type 0} → (K → K → Ordering) → Type 0
ArePartsApart {K} cmp =
    (under : K → Bool) (own : Label → Bool) (calls : List (LockCall K))
    → IsEven cmp under → AllByRecursion (AsksWithin under own) calls
    → part_of under own (after_calls cmp calls)
    ≡ after_calls cmp (filter (is_within under own) calls)
