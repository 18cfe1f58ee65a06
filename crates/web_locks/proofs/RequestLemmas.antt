-- A request that is made, and one that is released.
use Rattle.std.proofs.Common.{◌≡◌, inl, inr, ℕ, Bool, true, false, cond, not, List, [], ◌∷◌, ◌++◌, Option, Some, None, refl, sym, ap, ◌∙◌}
use Rattle.std.specs.Prelude.{◌&&◌, filter, find, is_some}
use Rattle.std.specs.List.Sorted.{IsStrictlySortedBy}
use Rattle.std.specs.Map.{keys_of}
use Rattle.std.specs.Ordering.{nat_cmp}
use Rattle.std.specs.declared.cmp.Ordering.{Ordering}
use Rattle.std.proofs.lemmas.List.{map-append}
use Rattle.std.proofs.lemmas.List.Elements.{filter-append}
use Rattle.agent_base.specs.declared.refusals.Label.{Label}
use Rattle.key_map.specs.Entries.{map_set}
use Rattle.web_locks.specs.Lock.{PlainLock, has_request, in_line, is_request_of, line_of}
use Rattle.web_locks.specs.Queue.{processed}
use Rattle.web_locks.specs.Requests.{holding, released, released_by, stolen}
use Rattle.web_locks.specs.Forms.{IsFormed, IsOpen, IsLockTable}
use Rattle.web_locks.specs.Numbers.{first_after}
use Rattle.web_locks.specs.Index.{SharedResource, held_row, is_for, locks_of, numbers_where, row_at}
use Rattle.web_locks.specs.Kept.{HasThief, without_held}
use Rattle.web_locks.proofs.LineLemmas.{run_loose}
use Rattle.web_locks.proofs.NumberLemmas.{number_apart, number_itself}
use Rattle.web_locks.proofs.RowLemmas.{AreBelow, IsFirst, first_found, row_last}
use Rattle.web_locks.proofs.ServedLemmas.{any_first, first_none, first_some_step, held_row_is}
use Rattle.web_locks.proofs.TableLemmas.{is_request_of-alike}

-- a line that is in one of the forms is open
open_formed : {K : Type 0} (ls : List (PlainLock K)) → IsFormed ls → IsOpen ls
open_formed ls (inl run) = inl (run_loose ls false run)
open_formed ls (inr alone) = inr alone

pub open_standing : {K : Type 0} (cmp : K → K → Ordering) (table : List (PlainLock K)) → IsLockTable cmp table → (key : K) (name : List ℕ)
    → IsOpen (line_of cmp key name table)
open_standing cmp table standing key name = open_formed (line_of cmp key name table) (standing.kept.formed key name)

module _ {K : Type 0} (owner : Label) (id : ℕ) where
  -- a number is used where it is found
  pub used_found : (o : Option ℕ) (rows : List (ℕ × PlainLock K)) → o ≡ first_after None (numbers_where (is_request_of owner id) rows)
      → has_request owner id (locks_of rows) ≡ is_some o
  used_found o rows is = sym (any_first (is_request_of owner id) rows) ∙ ap is_some (sym is)

  -- the request of a number that is found
  pub request_found : (n : ℕ) (rows : List (ℕ × PlainLock K)) → IsStrictlySortedBy nat_cmp (keys_of rows)
      → Some n ≡ first_after None (numbers_where (is_request_of owner id) rows) → IsFirst (is_request_of owner id) n rows
  request_found n rows sorted is =
      let cons = first_some_step n (numbers_where (is_request_of owner id) rows) (sym is) in
      first_found (is_request_of owner id) n cons.rest rows sorted cons.is

  -- a number that is not found releases nothing
  pub unused_released : (cmp : K → K → Ordering) (rows : List (ℕ × PlainLock K)) → first_after None (numbers_where (is_request_of owner id) rows) ≡ None
      → released cmp owner id (locks_of rows) ≡ locks_of rows
  unused_released cmp rows none = ap (λ f. released_by cmp owner id f (locks_of rows)) (first_none (is_request_of owner id) rows none)

  -- it is released as by its own number
  pub released_alike : (cmp : K → K → Ordering) (l : PlainLock K) → is_request_of owner id l ≡ true → (table : List (PlainLock K))
      → released cmp l.owner l.id table ≡ released cmp owner id table
  released_alike cmp l is table =
      ap (λ f. released_by cmp l.owner l.id f table) (ap (λ t. find t table) (λ i y. is_request_of-alike owner id l is y i))
      ∙ at (find (is_request_of owner id) table)
    where
      at : (found : Option (PlainLock K)) → released_by cmp l.owner l.id found table ≡ released_by cmp owner id found table
      at None = refl
      at (Some lock) =
          ap (λ (t : PlainLock K → Bool). processed cmp lock.key lock.name (filter (λ y. not (t y)) table)) (λ i y. is_request_of-alike owner id l is y i)

-- ---- a steal

module _ {K : Type 0} (cmp : K → K → Ordering) (r : SharedResource K) (n : ℕ) (lock : PlainLock K) (waits : lock.held ≡ false) where
  -- the request that steals is the last, and waits
  pub thief_pushed : (rows new : List (ℕ × PlainLock K)) → IsLockTable cmp (locks_of rows) → new ≡ rows ++ (n, lock) ∷ [] → HasThief cmp r new
  thief_pushed rows new standing is = record {
    front = rows;
    number = n;
    thief = lock;
    last = is;
    waits = waits;
    distinct = standing.kept.distinct;
    line = open_standing cmp (locks_of rows) standing _ _;
    plain = standing.plain;
  }

  below_filter : (test : ℕ × PlainLock K → Bool) (rows : List (ℕ × PlainLock K)) → AreBelow n rows → AreBelow n (filter test rows)
  below_filter test [] below = tt
  below_filter test (e ∷ es) below = at (test e) (below_filter test es below.1)
    where
      at : (b : Bool) → AreBelow n (filter test es) → AreBelow n (cond b (e ∷ filter test es) (filter test es))
      at true later = (below.0, later)
      at false later = later

  -- it stays where those that hold the lock go
  thief_stays : (rows : List (ℕ × PlainLock K)) → without_held cmp r (rows ++ (n, lock) ∷ []) ≡ without_held cmp r rows ++ (n, lock) ∷ []
  thief_stays rows =
      filter-append (λ e. not (is_for cmp r e.1 && e.1.held)) rows ((n, lock) ∷ [])
      ∙ ap (λ b. without_held cmp r rows ++ cond (not b) ((n, lock) ∷ []) []) (ap (λ h. is_for cmp r lock && h) waits ∙ none (is_for cmp r lock))
    where
      none : (b : Bool) → (b && false) ≡ false
      none true = refl
      none false = refl

  pub thief_row : (rows : List (ℕ × PlainLock K)) → AreBelow n rows → row_at n (without_held cmp r (rows ++ (n, lock) ∷ [])) ≡ Some lock
  thief_row rows below = ap (row_at n) (thief_stays rows) ∙ row_last n lock (without_held cmp r rows) (below_filter _ rows below)

  set_last : (y : PlainLock K) (rows : List (ℕ × PlainLock K)) → AreBelow n rows → map_set nat_cmp n y (rows ++ (n, lock) ∷ []) ≡ rows ++ (n, y) ∷ []
  set_last y [] below = rw (number_itself n) refl
  set_last y (e ∷ es) below = rw (number_apart n e.0 below.0) (ap (λ d. e ∷ d) (set_last y es below.1))

  locks_without : (rows : List (ℕ × PlainLock K)) → locks_of (without_held cmp r rows) ≡ filter (λ y. not (is_for cmp r y && y.held)) (locks_of rows)
  locks_without [] = refl
  locks_without (e ∷ es) = at (not (is_for cmp r e.1 && e.1.held)) (locks_without es)
    where
      at : (b : Bool) → locks_of (without_held cmp r es) ≡ filter (λ y. not (is_for cmp r y && y.held)) (locks_of es)
          → locks_of (cond b (e ∷ without_held cmp r es) (without_held cmp r es))
          ≡ cond b (e.1 ∷ filter (λ y. not (is_for cmp r y && y.held)) (locks_of es)) (filter (λ y. not (is_for cmp r y && y.held)) (locks_of es))
      at true later = ap (λ d. e.1 ∷ d) later
      at false later = later

  -- and then it holds the lock
  pub thief_holds : (rows : List (ℕ × PlainLock K)) → AreBelow n rows → ((q : PlainLock K) → is_for cmp r q ≡ in_line cmp lock.key lock.name q)
      → locks_of (held_row n (without_held cmp r (rows ++ (n, lock) ∷ []))) ≡ stolen cmp lock (locks_of rows)
  thief_holds rows below here =
      ap locks_of
      (held_row_is n lock (without_held cmp r (rows ++ (n, lock) ∷ [])) (thief_row rows below)
      ∙ ap (map_set nat_cmp n (holding lock)) (thief_stays rows)
      ∙ set_last (holding lock) (without_held cmp r rows) (below_filter _ rows below))
      ∙ map-append (λ e. e.1) (without_held cmp r rows) ((n, holding lock) ∷ [])
      ∙ ap (λ ls. ls ++ holding lock ∷ [])
      (locks_without rows ∙ ap (λ (t : PlainLock K → Bool). filter (λ y. not (t y && y.held)) (locks_of rows)) (λ i q. here q i))
