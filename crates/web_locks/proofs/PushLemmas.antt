-- The forms of one name's requests, with one more behind them.
use Rattle.std.proofs.Common.{◌≡◌, ◌⊎◌, inl, inr, Bool, true, false, not, List, [], ◌∷◌, ◌++◌, refl, sym, subst, ◌∙◌}
use Rattle.std.specs.Prelude.{◌||◌}
use Rattle.web_locks.specs.declared.request.LockMode.{LockMode}
use Rattle.web_locks.specs.declared.request.LockMode.TheVariants.{Exclusive, Shared}
use Rattle.web_locks.specs.Lock.{PlainLock}
use Rattle.web_locks.specs.Queue.{fits, held_modes, has_waiting, is_grantable}
use Rattle.web_locks.specs.Forms.{AllWaiting, IsRun, IsStolen, IsAlone, IsFormed}
use Rattle.web_locks.proofs.LineLemmas.{beside_shared, both_parts, one_part, fits_alone, modes_loose, run_loose}

module _ {K : Type 0} where
  -- whether one waits, where the first is held or waits
  pub waits_behind : (l : PlainLock K) (ls : List (PlainLock K)) (b : Bool) → l.held ≡ true → has_waiting (l ∷ ls) ≡ b → has_waiting ls ≡ b
  waits_behind l ls b held is = subst (λ h. (not h || has_waiting ls) ≡ b) held is

  pub waits_first : (l : PlainLock K) (ls : List (PlainLock K)) → l.held ≡ false → has_waiting (l ∷ ls) ≡ true
  waits_first l ls held = rw held refl

  module _ (x : PlainLock K) where
    waiting_more : (ls : List (PlainLock K)) → x.held ≡ false → AllWaiting ls → AllWaiting (ls ++ x ∷ [])
    waiting_more [] held w = (held, tt)
    waiting_more (l ∷ ls) held w = (w.0, waiting_more ls held w.1)

    -- one that waits behind one that waits
    run_more : (ls : List (PlainLock K)) (some : Bool) → x.held ≡ false → IsRun some ls → has_waiting ls ≡ true → IsRun some (ls ++ x ∷ [])
    run_more [] some held r waits = absurd (cc waits)
    run_more (l ∷ ls) some held (inl r) waits =
        inl (r.0, r.1, run_more ls true held r.2 (waits_behind l ls true r.0 waits))
    run_more (l ∷ ls) some held (inr r) waits = inr (r.0, r.1, r.2, waiting_more ls held r.3)

    -- an exclusive one that is the first to wait
    run_first : (ls : List (PlainLock K)) (some : Bool) → x.held ≡ false → x.mode ≡ Exclusive → some ≡ true → IsRun some ls
        → has_waiting ls ≡ false → IsRun some (ls ++ x ∷ [])
    run_first [] some held mode is r none = inr (held, is, mode, tt)
    run_first (l ∷ ls) some held mode is (inl r) none =
        inl (r.0, r.1, run_first ls true held mode refl r.2 (waits_behind l ls false r.0 none))
    run_first (l ∷ ls) some held mode is (inr r) none = absurd (cc (sym (waits_first l ls r.0) ∙ none))

    -- a shared one that is held
    run_shared : (ls : List (PlainLock K)) (some : Bool) → x.held ≡ true → x.mode ≡ Shared → IsRun some ls
        → has_waiting ls ≡ false → IsRun some (ls ++ x ∷ [])
    run_shared [] some held mode r none = inl (held, mode, tt)
    run_shared (l ∷ ls) some held mode (inl r) none =
        inl (r.0, r.1, run_shared ls true held mode r.2 (waits_behind l ls false r.0 none))
    run_shared (l ∷ ls) some held mode (inr r) none = absurd (cc (sym (waits_first l ls r.0) ∙ none))

    stolen_more : (ls : List (PlainLock K)) → x.held ≡ false → IsStolen ls → IsStolen (ls ++ x ∷ [])
    stolen_more [] held s = absurd s
    stolen_more (l ∷ ls) held (inl s) = inl (s.0, s.1, s.2, waiting_more ls held s.3)
    stolen_more (l ∷ ls) held (inr s) = inr (s.0, stolen_more ls held s.1)

    alone_more : (ls : List (PlainLock K)) → x.held ≡ false → IsAlone ls → IsAlone (ls ++ x ∷ [])
    alone_more [] held a = absurd a
    alone_more (l ∷ ls) held (inl a) = inl (a.0, a.1, waiting_more ls held a.2)
    alone_more (l ∷ ls) held (inr a) = inr (a.0, stolen_more ls held a.1)

    stolen_end : (ls : List (PlainLock K)) → x.held ≡ true → x.mode ≡ Exclusive → x.stole ≡ true → AllWaiting ls → IsStolen (ls ++ x ∷ [])
    stolen_end [] held mode stole w = inl (held, mode, stole, tt)
    stolen_end (l ∷ ls) held mode stole w = inr (w.0, stolen_end ls held mode stole w.1)

    -- a steal, behind those that wait
    pub formed_stolen : (ls : List (PlainLock K)) → x.held ≡ true → x.mode ≡ Exclusive → x.stole ≡ true → AllWaiting ls → IsFormed (ls ++ x ∷ [])
    formed_stolen [] held mode stole w = inr (inl (held, mode, tt))
    formed_stolen (l ∷ ls) held mode stole w = inr (inr (w.0, stolen_end ls held mode stole w.1))

    -- an exclusive one that fits a run: there is none
    alone_first : (ls : List (PlainLock K)) → x.held ≡ true → x.mode ≡ Exclusive → IsRun false ls → fits Exclusive (held_modes ls) ≡ true
        → IsFormed (ls ++ x ∷ [])
    alone_first [] held mode r fit = inr (inl (held, mode, tt))
    alone_first (l ∷ ls) held mode (inl r) fit =
        let none : fits Exclusive (held_modes (l ∷ ls)) ≡ false = rw r.0 refl in absurd (cc (sym none ∙ fit))
    alone_first (l ∷ ls) held mode (inr r) fit = absurd (cc r.1)

    held_step : (ls : List (PlainLock K)) (mode : LockMode) → x.held ≡ true → x.mode ≡ mode → IsRun false ls → has_waiting ls ≡ false
        → fits mode (held_modes ls) ≡ true → IsFormed (ls ++ x ∷ [])
    held_step ls Exclusive held is r none fit = alone_first ls held is r fit
    held_step ls Shared held is r none fit = inl (run_shared ls false held is r none)

    -- one that is grantable, and is held
    pub formed_held : (ls : List (PlainLock K)) → x.held ≡ true → IsFormed ls → is_grantable x.mode ls ≡ true → IsFormed (ls ++ x ∷ [])
    formed_held ls held (inl r) can =
        let parts = both_parts (has_waiting ls) (fits x.mode (held_modes ls)) can in
        held_step ls x.mode held refl r parts.0 parts.1
    formed_held ls held (inr a) can =
        absurd (cc (sym (fits_alone x.mode ls a) ∙ (both_parts (has_waiting ls) (fits x.mode (held_modes ls)) can).1))

    first_waits : (ls : List (PlainLock K)) → x.held ≡ false → x.mode ≡ Exclusive → IsRun false ls → has_waiting ls ≡ false
        → fits Exclusive (held_modes ls) ≡ false → IsFormed (ls ++ x ∷ [])
    first_waits [] held mode r none fit = absurd (cc fit)
    first_waits (l ∷ ls) held mode (inl r) none fit =
        inl (inl (r.0, r.1, run_first ls true held mode refl r.2 (waits_behind l ls false r.0 none)))
    first_waits (l ∷ ls) held mode (inr r) none fit = absurd (cc r.1)

    waiting_step : (ls : List (PlainLock K)) (mode : LockMode) → x.held ≡ false → x.mode ≡ mode → IsRun false ls → has_waiting ls ≡ false
        → fits mode (held_modes ls) ≡ false → IsFormed (ls ++ x ∷ [])
    waiting_step ls Exclusive held is r none fit = first_waits ls held is r none fit
    waiting_step ls Shared held is r none fit =
        absurd (cc (sym (beside_shared (held_modes ls) (modes_loose ls (run_loose ls false r))) ∙ fit))

    -- one that is not grantable, and waits
    pub formed_waiting : (ls : List (PlainLock K)) → x.held ≡ false → IsFormed ls → is_grantable x.mode ls ≡ false → IsFormed (ls ++ x ∷ [])
    formed_waiting ls held (inr a) can = inr (alone_more ls held a)
    formed_waiting ls held (inl r) can = at (one_part (has_waiting ls) (fits x.mode (held_modes ls)) can)
      where
        at : (has_waiting ls ≡ true) ⊎ ((has_waiting ls ≡ false) × (fits x.mode (held_modes ls) ≡ false)) → IsFormed (ls ++ x ∷ [])
        at (inl waits) = inl (run_more ls false held r waits)
        at (inr parts) = waiting_step ls x.mode held refl r parts.0 parts.1
