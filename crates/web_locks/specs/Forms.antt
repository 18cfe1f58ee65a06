-- The forms that the requests for one name have. Only private functions see them.
-- Source: Web Locks API, "Modes and scheduling": they follow from which requests are given locks.
use Rattle.std.specs.Prelude.{◌≡◌, ◌⊎◌, Bool, true, false, not, ◌&&◌, ◌||◌, ℕ, List, [], ◌∷◌}
use Rattle.std.specs.List.{AllByRecursion, IsDistinct}
use Rattle.std.specs.declared.cmp.Ordering.{Ordering}
use Rattle.web_locks.specs.declared.request.LockMode.TheVariants.{Exclusive, Shared}
use Rattle.web_locks.specs.Lock.{PlainLock, is_exclusive, is_request_of, line_of}

module _ {K : Type 0} where
  abbrev pub AllWaiting : List (PlainLock K) → Type 0
  AllWaiting [] = Unit {0}
  AllWaiting (l ∷ ls) = (l.held ≡ false) × AllWaiting ls

  -- shared ones are held, and an exclusive one waits first, behind one that is held
  abbrev pub IsRun : Bool → List (PlainLock K) → Type 0
  IsRun some [] = Unit {0}
  IsRun some (l ∷ ls) =
      ((l.held ≡ true) × (l.mode ≡ Shared) × IsRun true ls)
      ⊎ ((l.held ≡ false) × (some ≡ true) × (l.mode ≡ Exclusive) × AllWaiting ls)

  -- the same, where any may wait first
  abbrev pub IsLoose : List (PlainLock K) → Type 0
  IsLoose [] = Unit {0}
  IsLoose (l ∷ ls) =
      ((l.held ≡ true) × (l.mode ≡ Shared) × IsLoose ls) ⊎ ((l.held ≡ false) × AllWaiting ls)

  -- an exclusive one is held by a steal
  abbrev pub IsStolen : List (PlainLock K) → Type 0
  IsStolen [] = ⊥
  IsStolen (l ∷ ls) =
      ((l.held ≡ true) × (l.mode ≡ Exclusive) × (l.stole ≡ true) × AllWaiting ls)
      ⊎ ((l.held ≡ false) × IsStolen ls)

  -- an exclusive one is held, by a steal where it is not the first
  abbrev pub IsAlone : List (PlainLock K) → Type 0
  IsAlone [] = ⊥
  IsAlone (l ∷ ls) =
      ((l.held ≡ true) × (l.mode ≡ Exclusive) × AllWaiting ls) ⊎ ((l.held ≡ false) × IsStolen ls)

  abbrev pub IsFormed : List (PlainLock K) → Type 0
  IsFormed ls = IsRun false ls ⊎ IsAlone ls

  -- a line of which some have gone, and whose queue is not processed yet
  abbrev pub IsOpen : List (PlainLock K) → Type 0
  IsOpen ls = IsLoose ls ⊎ IsAlone ls

  -- whether two requests are of one number of a document
  abbrev pub same_request : PlainLock K → PlainLock K → Bool
  same_request a b = is_request_of a.owner a.id b

  -- a request that has stolen its lock is exclusive, and holds it
  abbrev pub is_plain : PlainLock K → Bool
  is_plain lock = not lock.stole || lock.held && is_exclusive lock.mode

module _ {K : Type 0} (cmp : K → K → Ordering) where
  -- what the calls keep
  pub record IsKept (table : List (PlainLock K)) : Type 0 where
    pub distinct : IsDistinct same_request table
    pub formed : (key : K) (name : List ℕ) → IsFormed (line_of cmp key name table)

  -- what the table keeps
  pub record IsLockTable (table : List (PlainLock K)) : Type 0 where
    pub kept : IsKept table
    pub plain : AllByRecursion (λ lock. is_plain lock ≡ true) table
