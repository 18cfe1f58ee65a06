-- What holds of a line that has one of the forms.
use Rattle.std.proofs.Common.{◌≡◌, inl, inr, Bool, true, false, List, [], ◌∷◌, ◌++◌, refl, sym, ap, subst, ◌∙◌}
use Rattle.std.specs.List.{list_any}
use Rattle.web_locks.specs.declared.request.LockMode.TheVariants.{Exclusive}
use Rattle.web_locks.specs.Lock.{PlainLock, is_exclusive}
use Rattle.web_locks.specs.Queue.{fits, held_modes, has_waiting}
use Rattle.web_locks.specs.Calls.{IsGovernedLine}
use Rattle.web_locks.specs.Forms.{AllWaiting, IsRun, IsStolen, IsFormed}
use Rattle.web_locks.proofs.LineLemmas.{none_exclusive, fits_alone, modes_alone, modes_loose, run_loose}
use Rattle.web_locks.proofs.PushLemmas.{waits_behind, waits_first}

module _ {K : Type 0} where
  formed_alone : (ls : List (PlainLock K)) → IsFormed ls → list_any is_exclusive (held_modes ls) ≡ true → held_modes ls ≡ Exclusive ∷ []
  formed_alone ls (inl r) is =
      absurd (cc (sym (none_exclusive (held_modes ls) (modes_loose ls (run_loose ls false r))) ∙ is))
  formed_alone ls (inr a) is = modes_alone ls a

  module _ (lock : PlainLock K) (behind : List (PlainLock K)) where
    waiting_at : (before : List (PlainLock K)) → AllWaiting (before ++ lock ∷ behind) → lock.held ≡ false
    waiting_at [] w = w.0
    waiting_at (b ∷ bs) w = waiting_at bs w.1

    -- the first that waits in a run is exclusive
    run_waits : (before : List (PlainLock K)) (some : Bool) → IsRun some (before ++ lock ∷ behind) → has_waiting before ≡ false
        → lock.held ≡ false → lock.mode ≡ Exclusive
    run_waits [] some (inl r) none waits = absurd (cc (sym r.0 ∙ waits))
    run_waits [] some (inr r) none waits = r.2
    run_waits (b ∷ bs) some (inl r) none waits = run_waits bs true r.2 (waits_behind b bs false r.0 none) waits
    run_waits (b ∷ bs) some (inr r) none waits = absurd (cc (sym (waits_first b bs r.0) ∙ none))

    -- and one is held
    run_holds : (before : List (PlainLock K)) → IsRun false (before ++ lock ∷ behind) → lock.held ≡ false
        → fits Exclusive (held_modes (before ++ lock ∷ behind)) ≡ false
    run_holds [] (inl r) waits = absurd (cc (sym r.0 ∙ waits))
    run_holds [] (inr r) waits = absurd (cc r.1)
    run_holds (b ∷ bs) (inl r) waits = rw r.0 refl
    run_holds (b ∷ bs) (inr r) waits = absurd (cc r.1)

    formed_first : (before : List (PlainLock K)) → IsFormed (before ++ lock ∷ behind) → has_waiting before ≡ false
        → lock.held ≡ false → fits lock.mode (held_modes (before ++ lock ∷ behind)) ≡ false
    formed_first before (inl r) none waits =
        ap (λ m. fits m (held_modes (before ++ lock ∷ behind))) (run_waits before false r none waits) ∙ run_holds before r waits
    formed_first before (inr a) none waits = fits_alone lock.mode (before ++ lock ∷ behind) a

    run_fair : (before : List (PlainLock K)) (some : Bool) → IsRun some (before ++ lock ∷ behind) → lock.held ≡ true
        → has_waiting before ≡ false
    run_fair [] some r held = refl
    run_fair (b ∷ bs) some (inl r) held = rw r.0 (run_fair bs true r.2 held)
    run_fair (b ∷ bs) some (inr r) held = absurd (cc (sym held ∙ waiting_at bs r.3))

    stolen_at : (before : List (PlainLock K)) → IsStolen (before ++ lock ∷ behind) → lock.held ≡ true → lock.stole ≡ true
    stolen_at [] (inl s) held = s.2
    stolen_at [] (inr s) held = absurd (cc (sym held ∙ s.0))
    stolen_at (b ∷ bs) (inl s) held = absurd (cc (sym held ∙ waiting_at bs s.3))
    stolen_at (b ∷ bs) (inr s) held = stolen_at bs s.1 held

    formed_fair : (before : List (PlainLock K)) → IsFormed (before ++ lock ∷ behind) → lock.held ≡ true → lock.stole ≡ false
        → has_waiting before ≡ false
    formed_fair before (inl r) held stole = run_fair before false r held
    formed_fair [] (inr a) held stole = refl
    formed_fair (b ∷ bs) (inr (inl a)) held stole = absurd (cc (sym held ∙ waiting_at bs a.2))
    formed_fair (b ∷ bs) (inr (inr a)) held stole = absurd (cc (sym (stolen_at bs a.1 held) ∙ stole))

  pub formed_governed : (line : List (PlainLock K)) → IsFormed line → IsGovernedLine line
  formed_governed line f = record {
    alone = formed_alone line f;
    first = λ before behind lock is none waits.
        ap (λ l. fits lock.mode (held_modes l)) is ∙ formed_first lock behind before (subst IsFormed is f) none waits;
    fair = λ before behind lock is held stole. formed_fair lock behind before (subst IsFormed is f) held stole;
  }
