-- The forms that the requests for one name have: shared locks that are held and then requests that
-- wait, or one exclusive lock among requests that wait.
use Rattle.std.proofs.Common.{◌≡◌, ◌⊎◌, inl, inr, Bool, true, false, cond, not, List, [], ◌∷◌, refl, sym, ap, subst, ◌∙◌}
use Rattle.std.specs.Prelude.{◌&&◌, filter}
use Rattle.std.specs.List.{list_any}
use Rattle.web_locks.specs.declared.request.LockMode.{LockMode}
use Rattle.web_locks.specs.declared.request.LockMode.TheVariants.{Exclusive, Shared}
use Rattle.web_locks.specs.Lock.{PlainLock, is_exclusive}
use Rattle.web_locks.specs.Queue.{fits, held_modes}
use Rattle.web_locks.specs.Requests.{holding}
use Rattle.web_locks.specs.Forms.{AllWaiting, IsRun, IsLoose, IsStolen, IsAlone, IsFormed}

-- ---- modes

abbrev AllShared : List LockMode → Type 0
AllShared [] = Unit {0}
AllShared (m ∷ ms) = (m ≡ Shared) × AllShared ms

pub none_exclusive : (ms : List LockMode) → AllShared ms → list_any is_exclusive ms ≡ false
none_exclusive [] s = refl
none_exclusive (m ∷ ms) s = rw s.0 (none_exclusive ms s.1)

pub beside_exclusive : (mode : LockMode) → fits mode (Exclusive ∷ []) ≡ false
beside_exclusive Exclusive = refl
beside_exclusive Shared = refl

pub beside_shared : (ms : List LockMode) → AllShared ms → fits Shared ms ≡ true
beside_shared ms s = ap not (none_exclusive ms s)

pub both_parts : (a b : Bool) → (not a && b) ≡ true → (a ≡ false) × (b ≡ true)
both_parts true b is = absurd (cc is)
both_parts false b is = (refl, is)

pub one_part : (a b : Bool) → (not a && b) ≡ false → (a ≡ true) ⊎ ((a ≡ false) × (b ≡ false))
one_part true b is = inl refl
one_part false b is = inr (refl, is)

module _ {K : Type 0} where
  -- ---- forms

  pub waiting_loose : (ls : List (PlainLock K)) → AllWaiting ls → IsLoose ls
  waiting_loose [] w = tt
  waiting_loose (l ∷ ls) w = inr w

  pub run_loose : (ls : List (PlainLock K)) (some : Bool) → IsRun some ls → IsLoose ls
  run_loose [] some r = tt
  run_loose (l ∷ ls) some (inl r) = inl (r.0, r.1, run_loose ls true r.2)
  run_loose (l ∷ ls) some (inr r) = inr (r.0, r.3)

  stolen_alone : (ls : List (PlainLock K)) → IsStolen ls → IsAlone ls
  stolen_alone [] s = absurd s
  stolen_alone (l ∷ ls) (inl s) = inl (s.0, s.1, s.3)
  stolen_alone (l ∷ ls) (inr s) = inr s

  -- ---- the modes that are held

  modes_waiting : (ls : List (PlainLock K)) → AllWaiting ls → held_modes ls ≡ []
  modes_waiting [] w = refl
  modes_waiting (l ∷ ls) w = rw w.0 (modes_waiting ls w.1)

  pub modes_loose : (ls : List (PlainLock K)) → IsLoose ls → AllShared (held_modes ls)
  modes_loose [] r = tt
  modes_loose (l ∷ ls) (inl r) = rw r.0 (r.1, modes_loose ls r.2)
  modes_loose (l ∷ ls) (inr r) = rw r.0 (subst AllShared (sym (modes_waiting ls r.1)) tt)

  modes_stolen : (ls : List (PlainLock K)) → IsStolen ls → held_modes ls ≡ Exclusive ∷ []
  modes_stolen [] s = absurd s
  modes_stolen (l ∷ ls) (inl s) = rw s.0 (rw s.1 (ap (λ r. Exclusive ∷ r) (modes_waiting ls s.3)))
  modes_stolen (l ∷ ls) (inr s) = rw s.0 (modes_stolen ls s.1)

  pub modes_alone : (ls : List (PlainLock K)) → IsAlone ls → held_modes ls ≡ Exclusive ∷ []
  modes_alone [] a = absurd a
  modes_alone (l ∷ ls) (inl a) = rw a.0 (rw a.1 (ap (λ r. Exclusive ∷ r) (modes_waiting ls a.2)))
  modes_alone (l ∷ ls) (inr a) = rw a.0 (modes_stolen ls a.1)

  pub fits_alone : (mode : LockMode) (ls : List (PlainLock K)) → IsAlone ls → fits mode (held_modes ls) ≡ false
  fits_alone mode ls a = ap (fits mode) (modes_alone ls a) ∙ beside_exclusive mode

  -- ---- one name's queue is processed

  -- the requests for one name, as `granted` gives them their locks
  abbrev pub given : List LockMode → List (PlainLock K) → List (PlainLock K)
  given held [] = []
  given held (l ∷ ls) =
      cond l.held (l ∷ given held ls) (cond (fits l.mode held) (holding l ∷ given (l.mode ∷ held) ls) (l ∷ ls))

  pub given_held : (l : PlainLock K) (ls : List (PlainLock K)) (ms : List LockMode) → l.held ≡ true → given ms (l ∷ ls) ≡ l ∷ given ms ls
  given_held l ls ms held =
      ap (λ b. cond b (l ∷ given ms ls) (cond (fits l.mode ms) (holding l ∷ given (l.mode ∷ ms) ls) (l ∷ ls))) held

  waits_step : (l : PlainLock K) (ls : List (PlainLock K)) (ms : List LockMode) → l.held ≡ false
      → given ms (l ∷ ls) ≡ cond (fits l.mode ms) (holding l ∷ given (l.mode ∷ ms) ls) (l ∷ ls)
  waits_step l ls ms held =
      ap (λ b. cond b (l ∷ given ms ls) (cond (fits l.mode ms) (holding l ∷ given (l.mode ∷ ms) ls) (l ∷ ls))) held

  pub given_fits : (l : PlainLock K) (ls : List (PlainLock K)) (ms : List LockMode) → l.held ≡ false → fits l.mode ms ≡ true
      → given ms (l ∷ ls) ≡ holding l ∷ given (l.mode ∷ ms) ls
  given_fits l ls ms held fit = waits_step l ls ms held ∙ ap (λ b. cond b (holding l ∷ given (l.mode ∷ ms) ls) (l ∷ ls)) fit

  pub given_stops : (l : PlainLock K) (ls : List (PlainLock K)) (ms : List LockMode) → l.held ≡ false → fits l.mode ms ≡ false
      → given ms (l ∷ ls) ≡ l ∷ ls
  given_stops l ls ms held fit = waits_step l ls ms held ∙ ap (λ b. cond b (holding l ∷ given (l.mode ∷ ms) ls) (l ∷ ls)) fit

  blocked : (ls : List (PlainLock K)) → given (Exclusive ∷ []) ls ≡ ls
  blocked [] = refl
  blocked (l ∷ ls) = at l.held (blocked ls)
    where
      at : (b : Bool) → given (Exclusive ∷ []) ls ≡ ls
          → cond b (l ∷ given (Exclusive ∷ []) ls)
          (cond (fits l.mode (Exclusive ∷ [])) (holding l ∷ given (l.mode ∷ Exclusive ∷ []) ls) (l ∷ ls))
          ≡ l ∷ ls
      at true later = ap (λ r. l ∷ r) later
      at false later = rw (beside_exclusive l.mode) refl

  run_step : (l : PlainLock K) (ls : List (PlainLock K)) (m mode : LockMode) (ms : List LockMode) → AllShared (m ∷ ms) → l.held ≡ false → AllWaiting ls
      → ((n : LockMode) (ns : List LockMode) → AllShared (n ∷ ns) → IsLoose ls → IsRun true (given (n ∷ ns) ls)) → l.mode ≡ mode
      → IsRun true (cond (fits mode (m ∷ ms)) (holding l ∷ given (mode ∷ m ∷ ms) ls) (l ∷ ls))
  run_step l ls m Exclusive ms s held w later is = inr (held, refl, is, w)
  run_step l ls m Shared ms s held w later is =
      rw (beside_shared (m ∷ ms) s) (inl (refl, is, later Shared (m ∷ ms) (refl, s) (waiting_loose ls w)))

  run_given : (ls : List (PlainLock K)) (m : LockMode) (ms : List LockMode) → AllShared (m ∷ ms) → IsLoose ls → IsRun true (given (m ∷ ms) ls)
  run_given [] m ms s r = tt
  run_given (l ∷ ls) m ms s (inl r) = rw r.0 (inl (refl, r.1, run_given ls m ms s r.2))
  run_given (l ∷ ls) m ms s (inr r) =
      subst (λ b. IsRun true (cond b (l ∷ given (m ∷ ms) ls) (cond (fits l.mode (m ∷ ms)) (holding l ∷ given (l.mode ∷ m ∷ ms) ls) (l ∷ ls))))
      (sym r.0) (run_step l ls m l.mode ms s r.0 r.1 (λ n ns s' r'. run_given ls n ns s' r') refl)

  first_step : (l : PlainLock K) (ls : List (PlainLock K)) (mode : LockMode) → AllWaiting ls → l.mode ≡ mode
      → IsFormed (cond (fits mode []) (holding l ∷ given (mode ∷ []) ls) (l ∷ ls))
  first_step l ls Exclusive w is = subst (λ r. IsFormed (holding l ∷ r)) (sym (blocked ls)) (inr (inl (refl, is, w)))
  first_step l ls Shared w is = inl (inl (refl, is, run_given ls Shared [] (refl, tt) (waiting_loose ls w)))

  loose_formed : (ls : List (PlainLock K)) → IsLoose ls → IsFormed (given (held_modes ls) ls)
  loose_formed [] r = inl tt
  loose_formed (l ∷ ls) (inl r) =
      rw r.0 (inl (inl (refl, r.1, run_given ls l.mode (held_modes ls) (r.1, modes_loose ls r.2) r.2)))
  loose_formed (l ∷ ls) (inr r) =
      subst (λ ms. IsFormed (given ms (l ∷ ls))) (sym (modes_waiting (l ∷ ls) r))
      (subst (λ b. IsFormed (cond b (l ∷ given [] ls) (cond (fits l.mode []) (holding l ∷ given (l.mode ∷ []) ls) (l ∷ ls))))
      (sym r.0) (first_step l ls l.mode r.1 refl))

  settled_formed : (ls : List (PlainLock K)) → IsLoose ls ⊎ IsAlone ls → IsFormed (given (held_modes ls) ls)
  settled_formed ls (inl r) = loose_formed ls r
  settled_formed ls (inr a) =
      subst IsFormed (sym (ap (λ ms. given ms ls) (modes_alone ls a) ∙ blocked ls)) (inr a)

  -- ---- some go

  module _ (test : PlainLock K → Bool) where
    waiting_kept : (ls : List (PlainLock K)) → AllWaiting ls → AllWaiting (filter test ls)
    waiting_kept [] w = tt
    waiting_kept (l ∷ ls) w = at (test l) (waiting_kept ls w.1)
      where
        at : (b : Bool) → AllWaiting (filter test ls) → AllWaiting (cond b (l ∷ filter test ls) (filter test ls))
        at true later = (w.0, later)
        at false later = later

    pub loose_kept : (ls : List (PlainLock K)) → IsLoose ls → IsLoose (filter test ls)
    loose_kept [] r = tt
    loose_kept (l ∷ ls) (inl r) = at (test l) (loose_kept ls r.2)
      where
        at : (b : Bool) → IsLoose (filter test ls) → IsLoose (cond b (l ∷ filter test ls) (filter test ls))
        at true later = inl (r.0, r.1, later)
        at false later = later
    loose_kept (l ∷ ls) (inr r) = waiting_loose (filter test (l ∷ ls)) (waiting_kept (l ∷ ls) r)

    stolen_kept : (ls : List (PlainLock K)) → IsStolen ls → IsStolen (filter test ls) ⊎ AllWaiting (filter test ls)
    stolen_kept [] s = absurd s
    stolen_kept (l ∷ ls) (inl s) = at (test l) (waiting_kept ls s.3)
      where
        at : (b : Bool) → AllWaiting (filter test ls)
            → IsStolen (cond b (l ∷ filter test ls) (filter test ls)) ⊎ AllWaiting (cond b (l ∷ filter test ls) (filter test ls))
        at true later = inl (inl (s.0, s.1, s.2, later))
        at false later = inr later
    stolen_kept (l ∷ ls) (inr s) = at (test l) (stolen_kept ls s.1)
      where
        at : (b : Bool) → IsStolen (filter test ls) ⊎ AllWaiting (filter test ls)
            → IsStolen (cond b (l ∷ filter test ls) (filter test ls)) ⊎ AllWaiting (cond b (l ∷ filter test ls) (filter test ls))
        at true (inl later) = inl (inr (s.0, later))
        at true (inr later) = inr (s.0, later)
        at false later = later

    pub alone_kept : (ls : List (PlainLock K)) → IsAlone ls → IsLoose (filter test ls) ⊎ IsAlone (filter test ls)
    alone_kept [] a = absurd a
    alone_kept (l ∷ ls) (inl a) = at (test l) (waiting_kept ls a.2)
      where
        at : (b : Bool) → AllWaiting (filter test ls)
            → IsLoose (cond b (l ∷ filter test ls) (filter test ls)) ⊎ IsAlone (cond b (l ∷ filter test ls) (filter test ls))
        at true later = inr (inl (a.0, a.1, later))
        at false later = inl (waiting_loose (filter test ls) later)
    alone_kept (l ∷ ls) (inr a) = at (test l) (stolen_kept ls a.1)
      where
        at : (b : Bool) → IsStolen (filter test ls) ⊎ AllWaiting (filter test ls)
            → IsLoose (cond b (l ∷ filter test ls) (filter test ls)) ⊎ IsAlone (cond b (l ∷ filter test ls) (filter test ls))
        at true (inl later) = inr (inr (a.0, later))
        at true (inr later) = inl (inr (a.0, later))
        at false (inl later) = inr (stolen_alone (filter test ls) later)
        at false (inr later) = inl (waiting_loose (filter test ls) later)

    pub formed_kept : (ls : List (PlainLock K)) → IsFormed ls → IsLoose (filter test ls) ⊎ IsAlone (filter test ls)
    formed_kept ls (inl r) = inl (loose_kept ls (run_loose ls false r))
    formed_kept ls (inr a) = alone_kept ls a

    -- what is left of a line, once its queue is processed
    pub formed_processed : (ls : List (PlainLock K)) → IsFormed ls → IsFormed (given (held_modes (filter test ls)) (filter test ls))
    formed_processed ls f = settled_formed (filter test ls) (formed_kept ls f)
