-- The steps of a plan, done as removals first and then the last step.
use Rattle.std.proofs.Common.{◌≡◌, ℤ, ℕ, zero, suc, ◌-◌, ◌<◌, ◌≤◌, Bool, true, false, cond, List, [], ◌∷◌, ◌++◌, take, drop, length, get_or, refl, ap, ◌∙◌, sym, arith, subst}
use Rattle.std.specs.Prelude.{◌||◌, Some, slice_get, nat_lt}
use Rattle.std.specs.List.{list_any}
use Rattle.std.proofs.lemmas.Bool.{ltb-true}
use Rattle.std.proofs.lemmas.List.{length-append}
use Rattle.std.proofs.lemmas.List.Sums.{sum_by-insert, fold-append}
use Rattle.partition_limits.specs.declared.tally.CellKind.{CellKind}
use Rattle.cookie_jar.specs.declared.step.JarStep.{JarStep}
use Rattle.cookie_jar.specs.declared.step.JarStep.TheVariants.{Insert, Replace}
use Rattle.cookie_jar.specs.Cookie.{PlainCookie, copies, counted, keeps_limits, same}
use Rattle.cookie_jar.specs.Lifetime.{is_expired}
use Rattle.cookie_jar.specs.Performed.{CanPut, after_put, after_removal, after_removals}
use Rattle.cookie_jar.specs.Steps.{after_step, after_steps, place_of, put_step, remove_step, removal_at, removals, live_steps, steps, going, place_now, rank, persists_at}
use Rattle.cookie_jar.specs.Cookie.{PlainJar}
use Rattle.cookie_jar.specs.Persistent.{apply_rows, persistent_part, rows_of_steps}
use Rattle.cookie_jar.specs.Planned.{PlainPlan, IsPlanFor}
use Rattle.cookie_jar.proofs.PutLemmas.{all_removed, small_pair}
use Rattle.cookie_jar.proofs.ValidLaws.{IsPut, last_put, same_self, valid_rows}

last_is : (ss : List JarStep) (s : JarStep) → slice_get (ss ++ s ∷ []) (length (ss ++ s ∷ []) - 1) ≡ Some s
last_is ss s = let e : length (ss ++ s ∷ []) - 1 ≡ length ss = omega (arith, length-append ss (s ∷ [])) in ap (slice_get (ss ++ s ∷ [])) e ∙ at ss
  where
    at : (ss : List JarStep) → slice_get (ss ++ s ∷ []) (length ss) ≡ Some s
    at [] = refl
    at (x ∷ ss) = at ss

-- what stands first from a place
pub head_at : (f : PlainCookie) (cs : List PlainCookie) (i : ℕ) → i < length cs → list_any (λ d. same f d) (take 1 (drop i cs)) ≡ true → same f (get_or cs i f) ≡ true
head_at f [] i lt h = absurd (omega arith)
head_at f (c ∷ cs) zero lt h = plain (same f c) h
  where
    plain : (b : Bool) → (b || false) ≡ true → b ≡ true
    plain true h = refl
    plain false h = h
head_at f (c ∷ cs) (suc i) lt h = head_at f cs i (omega arith) h

-- the last step of a plan can be done, and leaves what the plan leaves
pub put_done : (kind : CellKind) (fresh : PlainCookie) (cur : List PlainCookie) (place : ℕ) → IsPut kind fresh cur place
    → CanPut kind fresh cur (Some (put_step place cur)) × (after_put fresh cur (Some (put_step place cur)) ≡ after_step fresh cur (put_step place cur))
put_done kind fresh cur place put = at (nat_lt place (length cur)) refl put.limits put.once
  where
    r : ℕ
    r = rank place cur

    was : Bool
    was = persists_at place cur

    at : (b : Bool) → nat_lt place (length cur) ≡ b → keeps_limits kind (after_step fresh cur (cond b (Replace place r was) (Insert place r))) ≡ true
        → ((c : PlainCookie) → copies c (after_step fresh cur (cond b (Replace place r was) (Insert place r))) ≤ 1)
        → CanPut kind fresh cur (Some (cond b (Replace place r was) (Insert place r)))
        × (after_put fresh cur (Some (cond b (Replace place r was) (Insert place r))) ≡ after_step fresh cur (cond b (Replace place r was) (Insert place r)))
    at true is limits once =
        let lt = ltb-true place (length cur) is in
        (record { there = lt; alike = head_at fresh cur place lt (put.there lt); limits = limits }, refl)
    at false is limits once =
        let more = sum_by-insert (λ e. cond (same fresh e) 1 0) cur place fresh in
        let one : ◌≡◌ {A = ℕ} (cond (same fresh fresh) 1 0) 1 = rw (same_self fresh) refl in
        (record { there = put.inside; absent = omega (arith, more, one, once fresh); limits = limits }, refl)

-- a plan's removals, then its last step
abbrev pub IsDone : CellKind → PlainCookie → List PlainCookie → List JarStep → Type 0
IsDone kind fresh cs ss =
    CanPut kind fresh (after_removals cs ss) (slice_get ss (length ss - 1))
    × (after_put fresh (after_removals cs ss) (slice_get ss (length ss - 1)) ≡ after_steps fresh cs ss)

expired_done : (kind : CellKind) (fresh : PlainCookie) (cs : List PlainCookie) (place : ℕ) → IsDone kind fresh cs (removal_at place cs)
expired_done kind fresh cs place = at (nat_lt place (length cs))
  where
    at : (b : Bool) → IsDone kind fresh cs (cond b (remove_step place cs ∷ []) [])
    at true = (tt, refl)
    at false = (tt, refl)

-- the step that puts a cookie changes nothing where removals alone are done
put_removes_none : (cs cur : List PlainCookie) (place : ℕ) → after_removal cs (put_step place cur) ≡ cs
put_removes_none cs cur place = at (nat_lt place (length cur))
  where
    at : (b : Bool) → after_removal cs (cond b (Replace place (rank place cur) (persists_at place cur)) (Insert place (rank place cur))) ≡ cs
    at true = refl
    at false = refl

live_done : (kind : CellKind) (fresh : PlainCookie) (cs : List PlainCookie) (gone : List ℕ) (place : ℕ)
    → let first = removals cs [] gone in let cur = after_steps fresh cs first in IsPut kind fresh cur place → IsDone kind fresh cs (first ++ put_step place cur ∷ [])
live_done kind fresh cs gone place put =
    let first = removals cs [] gone in
    let cur = after_steps fresh cs first in
    let last = put_step place cur in
    let done = put_done kind fresh cur place put in
    let rest : after_removals cs (first ++ last ∷ []) ≡ cur = fold-append after_removal cs first (last ∷ []) ∙ put_removes_none (after_removals cs first) cur place ∙ all_removed fresh cs [] gone in
    let end = last_is first last in
    let full : after_steps fresh cs (first ++ last ∷ []) ≡ after_step fresh cur last = fold-append (after_step fresh) cs first (last ∷ []) in (
      subst (λ o. CanPut kind fresh (after_removals cs (first ++ last ∷ [])) o) (sym end) (subst (λ xs. CanPut kind fresh xs (Some last)) (sym rest) done.0),
      ap (after_put fresh (after_removals cs (first ++ last ∷ []))) end ∙ ap (λ xs. after_put fresh xs (Some last)) rest ∙ done.1 ∙ sym full,
    )

-- what was planned for a cell can be done there
pub plan_done : (kind : CellKind) (now : ℤ) (fresh : PlainCookie) (cs : List PlainCookie) → counted kind fresh ≤ 10240 → ((c : PlainCookie) → copies c cs ≤ 1)
    → IsDone kind fresh cs (steps kind now fresh cs)
plan_done kind now fresh cs small once = at (is_expired now fresh) refl
  where
    at : (b : Bool) → is_expired now fresh ≡ b → IsDone kind fresh cs (cond b (removal_at (place_of fresh cs) cs) (live_steps kind now fresh cs))
    at true is = expired_done kind fresh cs (place_of fresh cs)
    at false is = live_done kind fresh cs (going kind now fresh cs) (place_now (going kind now fresh cs) (place_of fresh cs)) (last_put kind now fresh cs small once is)

-- what was planned for a cell is done there
pub performs : (jar : PlainJar) (plan : PlainPlan) → IsPlanFor jar plan → IsDone jar.kind plan.fresh jar.cookies plan.steps
performs jar plan fit =
    subst (IsDone jar.kind plan.fresh jar.cookies) (sym fit.1) (plan_done jar.kind fit.0 plan.fresh jar.cookies (small_pair jar.kind plan.fresh fit.2) fit.3)

-- the last step can be done after the removals
pub put_may : (kind k : CellKind) (fresh : PlainCookie) (cs left : List PlainCookie) (ss first last : List JarStep) → k ≡ kind → left ≡ after_removals cs first → first ≡ ss → last ≡ ss
    → IsDone kind fresh cs ss → CanPut k fresh left (slice_get last (length last - 1))
put_may kind k fresh cs left ss first last ek el e1 e2 done =
    subst (λ x. CanPut x fresh left (slice_get last (length last - 1))) (sym ek)
    (subst (λ x. CanPut kind fresh left (slice_get x (length x - 1))) (sym e2)
    (subst (λ x. CanPut kind fresh x (slice_get ss (length ss - 1))) (sym (el ∙ ap (after_removals cs) e1)) done.0))

-- and leaves what the steps leave
pub put_leaves : (kind : CellKind) (fresh : PlainCookie) (cs left new : List PlainCookie) (ss first last : List JarStep) → left ≡ after_removals cs first → first ≡ ss → last ≡ ss
    → IsDone kind fresh cs ss → new ≡ after_put fresh left (slice_get last (length last - 1)) → new ≡ after_steps fresh cs ss
put_leaves kind fresh cs left new ss first last el e1 e2 done is =
    is ∙ ap (λ x. after_put fresh left (slice_get x (length x - 1))) e2 ∙ ap (λ x. after_put fresh x (slice_get ss (length ss - 1))) (el ∙ ap (after_removals cs) e1) ∙ done.1

-- the row changes of a plan are valid where it is done, and lead to what is kept of the cell
pub performs_rows : (jar : PlainJar) (plan : PlainPlan) → IsPlanFor jar plan
    → persistent_part (after_steps plan.fresh jar.cookies plan.steps) ≡ apply_rows jar.kind (persistent_part jar.cookies) (rows_of_steps plan.fresh plan.steps)
performs_rows jar plan fit =
    subst (λ ss. persistent_part (after_steps plan.fresh jar.cookies ss) ≡ apply_rows jar.kind (persistent_part jar.cookies) (rows_of_steps plan.fresh ss)) (sym fit.1)
    (sym (valid_rows jar.kind fit.0 plan.fresh jar.cookies (small_pair jar.kind plan.fresh fit.2) fit.3))
