-- What a store leaves, from the plan that it does.
use Rattle.std.proofs.Common.{◌≡◌, ℤ, ℕ, ◌≤◌, Bool, true, false, cond, List, [], ◌∷◌, length, refl, ap, ◌∙◌, sym, subst, inl, inr, ⊎_elim}
use Rattle.std.specs.Prelude.{◌⊎◌, Result, Ok, Err, IsOk, is_ok, nat_lt}
use Rattle.std.specs.List.{sum_by}
use Rattle.std.proofs.lemmas.Bool.{ltb-true}
use Rattle.agent_base.specs.Answers.{Answers}
use Rattle.suffix_list.specs.Suffix.{Rule}
use Rattle.setcookie_parse.specs.SetCookie.{CookieText}
use Rattle.partition_limits.specs.declared.tally.CellKind.{CellKind}
use Rattle.cookie_jar.specs.declared.cause.CookieDrop.{CookieDrop}
use Rattle.cookie_jar.specs.declared.cause.CookieDrop.TheVariants as why
use Rattle.cookie_jar.specs.declared.store.Stored.{Stored}
use Rattle.cookie_jar.specs.Access.{PlainAccess}
use Rattle.cookie_jar.specs.Cookie.{PlainCookie, PlainJar, IsCell, copies, counted, keeps_limits}
use Rattle.cookie_jar.specs.Drops.{dropped}
use Rattle.cookie_jar.specs.Lifetime.{is_expired}
use Rattle.cookie_jar.specs.NewCookie.{fresh, made}
use Rattle.cookie_jar.specs.Persistent.{apply_rows, persistent_part, rows_of_steps}
use Rattle.cookie_jar.specs.Planned.{PlainPlan, PlainStored, IsPlanFor, plan_of, planned, stored_answer, stored_of}
use Rattle.cookie_jar.specs.Steps.{after_steps, live_steps, place_of, removal_at, remove_step, steps, stored}
use Rattle.cookie_jar.specs.Stored.{plain_stored}
use Rattle.cookie_jar.proofs.CellLemmas.{removed_cell}
use Rattle.cookie_jar.proofs.PlanLemmas.{planned_plan}
use Rattle.cookie_jar.proofs.PutLemmas.{small_pair}
use Rattle.cookie_jar.proofs.StepLaws.{stored_fits}
use Rattle.cookie_jar.proofs.ValidLaws.{stored_once}

-- the plan of a text, where one is made
text_plan : (rules : List Rule) (text : CookieText) (access : PlainAccess) (jar : PlainJar) (moment now : ℤ) (p : PlainPlan) → moment ≡ now → planned rules text access jar.kind moment jar.cookies ≡ Ok p
    → plan_of jar.kind now (made rules text access now) jar.cookies ≡ p
text_plan rules text access jar moment now p e h =
    ap (λ n. plan_of jar.kind n (made rules text access n) jar.cookies) (sym e)
    ∙ planned_plan (plan_of jar.kind moment (made rules text access moment) jar.cookies) p (dropped rules text access moment jar.cookies) h

-- a plan is answered, so it is no drop
pub planned_stands : (rules : List Rule) (text : CookieText) (access : PlainAccess) (jar : PlainJar) (moment now : ℤ) (p : PlainPlan) → moment ≡ now → planned rules text access jar.kind moment jar.cookies ≡ Ok p
    → IsOk (planned rules text access jar.kind now jar.cookies)
planned_stands rules text access jar moment now p e h = subst (λ n. IsOk (planned rules text access jar.kind n jar.cookies)) e (ap is_ok h)

-- a plan stays one, whatever the room is
pub fit_over : (j k : PlainJar) (p : PlainPlan) → k.kind ≡ j.kind → k.cookies ≡ j.cookies → IsPlanFor j p → IsPlanFor k p
fit_over j k p ek ec fit = (
  fit.0,
  fit.1 ∙ ap (λ x. steps x fit.0 p.fresh j.cookies) (sym ek) ∙ ap (λ xs. steps k.kind fit.0 p.fresh xs) (sym ec),
  fit.2,
  λ c. subst (λ xs. copies c xs ≤ 1) (sym ec) (fit.3 c),
)

-- a list that a cell may have
abbrev pub IsHeld : CellKind → List PlainCookie → Type 0
IsHeld kind cs = (keeps_limits kind cs ≡ true) × ((c : PlainCookie) → copies c cs ≤ 1)

removal_held : (kind : CellKind) (fresh : PlainCookie) (cs : List PlainCookie) (place : ℕ) → IsHeld kind cs → IsHeld kind (after_steps fresh cs (removal_at place cs))
removal_held kind fresh cs place held = at (nat_lt place (length cs)) refl
  where
    cell : IsCell kind (record { cookies = length cs; bytes = sum_by (counted kind) cs }) cs
    cell = record { cookies = refl; bytes = refl; within = held.0; distinct = held.1 }

    at : (b : Bool) → nat_lt place (length cs) ≡ b → IsHeld kind (after_steps fresh cs (cond b (remove_step place cs ∷ []) []))
    at true is = let left = removed_cell kind (record { cookies = length cs; bytes = sum_by (counted kind) cs }) cs place fresh cell (ltb-true place (length cs) is) in (left.within, left.distinct)
    at false is = held

-- what is stored is within the limits, and no two of it are the same
pub stored_held : (kind : CellKind) (now : ℤ) (fresh : PlainCookie) (cs : List PlainCookie) → counted kind fresh ≤ 10240 → IsHeld kind cs → IsHeld kind (stored kind now fresh cs)
stored_held kind now fresh cs small held = at (is_expired now fresh) refl
  where
    at : (b : Bool) → is_expired now fresh ≡ b → IsHeld kind (stored kind now fresh cs)
    at true is =
        subst (IsHeld kind) (sym (ap (λ b. after_steps fresh cs (cond b (removal_at (place_of fresh cs) cs) (live_steps kind now fresh cs))) is)) (removal_held kind fresh cs (place_of fresh cs) held)
    at false is = (stored_fits kind now fresh cs is small, stored_once kind now fresh cs is held.1)

-- what is done of a plan in a cell with more room
pub done_over : (p : PlainPlan) (before cs new : List PlainCookie) → before ≡ cs → new ≡ after_steps p.fresh before p.steps → new ≡ after_steps p.fresh cs p.steps
done_over p before cs new e is = is ∙ ap (λ xs. after_steps p.fresh xs p.steps) e

-- a plan that is done leaves what is stored
pub leaves_stored : (rules : List Rule) (text : CookieText) (access : PlainAccess) (jar : PlainJar) (moment now : ℤ) (p : PlainPlan) (new : List PlainCookie) → moment ≡ now
    → planned rules text access jar.kind moment jar.cookies ≡ Ok p → new ≡ after_steps p.fresh jar.cookies p.steps → new ≡ stored jar.kind now (fresh rules text access now jar.cookies) jar.cookies
leaves_stored rules text access jar moment now p new e h is =
    subst (λ (q : PlainPlan). new ≡ after_steps q.fresh jar.cookies q.steps) (sym (text_plan rules text access jar moment now p e h)) is

-- and the steps of the answer lead there
pub leaves_steps : (rules : List Rule) (text : CookieText) (access : PlainAccess) (jar : PlainJar) (moment now : ℤ) (p : PlainPlan) (answer : PlainStored) (new : List PlainCookie) → moment ≡ now
    → planned rules text access jar.kind moment jar.cookies ≡ Ok p → answer ≡ stored_of p → new ≡ after_steps p.fresh jar.cookies p.steps
    → new ≡ after_steps (fresh rules text access now jar.cookies) jar.cookies answer.steps
leaves_steps rules text access jar moment now p answer new e h told is =
    is ∙ ap (λ ss. after_steps p.fresh jar.cookies ss) (sym (ap (λ (t : PlainStored). t.steps) told))
    ∙ ap (λ f. after_steps f jar.cookies answer.steps) (ap (λ (q : PlainPlan). q.fresh) (sym (text_plan rules text access jar moment now p e h)))

-- as their ranks do for what is kept
pub leaves_rows : (rules : List Rule) (text : CookieText) (access : PlainAccess) (jar before : PlainJar) (moment now : ℤ) (p : PlainPlan) (answer : PlainStored) (new : List PlainCookie) → moment ≡ now
    → planned rules text access jar.kind moment jar.cookies ≡ Ok p → answer ≡ stored_of p → before.kind ≡ jar.kind → before.cookies ≡ jar.cookies
    → persistent_part new ≡ apply_rows before.kind (persistent_part before.cookies) (rows_of_steps p.fresh p.steps)
    → persistent_part new ≡ apply_rows jar.kind (persistent_part jar.cookies) (rows_of_steps (fresh rules text access now jar.cookies) answer.steps)
leaves_rows rules text access jar before moment now p answer new e h told ek ec is =
    is ∙ ap (λ k. apply_rows k (persistent_part before.cookies) (rows_of_steps p.fresh p.steps)) ek
    ∙ ap (λ cs. apply_rows jar.kind (persistent_part cs) (rows_of_steps p.fresh p.steps)) ec
    ∙ ap (λ ss. apply_rows jar.kind (persistent_part jar.cookies) (rows_of_steps p.fresh ss)) (sym (ap (λ (t : PlainStored). t.steps) told))
    ∙ ap (λ f. apply_rows jar.kind (persistent_part jar.cookies) (rows_of_steps f answer.steps)) (ap (λ (q : PlainPlan). q.fresh) (sym (text_plan rules text access jar moment now p e h)))

-- a plan that is done leaves a list that a cell may have
pub leaves_held : (jar : PlainJar) (p : PlainPlan) (kind : CellKind) (new : List PlainCookie) → IsPlanFor jar p → kind ≡ jar.kind → new ≡ after_steps p.fresh jar.cookies p.steps
    → keeps_limits jar.kind jar.cookies ≡ true → IsHeld kind new
leaves_held jar p kind new fit ek is within =
    let whole : new ≡ stored jar.kind fit.0 p.fresh jar.cookies = is ∙ ap (after_steps p.fresh jar.cookies) fit.1 in
    subst (λ k. IsHeld k new) (sym ek) (subst (IsHeld jar.kind) (sym whole) (stored_held jar.kind fit.0 p.fresh jar.cookies (small_pair jar.kind p.fresh fit.2) (within, fit.3)))

-- a drop is answered as it was planned
pub drop_answers : (expected : Result PlainPlan CookieDrop) (r : Result Stored CookieDrop) (y w : CookieDrop) → r ≡ Err y → y ≡ w → (w ≡ why.NoMemory) ⊎ (expected ≡ Err w)
    → Answers plain_stored why.NoMemory (stored_answer expected) r
drop_answers expected r y w e1 e2 h =
    subst (Answers plain_stored why.NoMemory (stored_answer expected)) (sym (e1 ∙ ap Err e2)) (⊎_elim (λ free. inl free) (λ is. inr (ap stored_answer is)) h)

abbrev why_of : CookieDrop → Result Stored CookieDrop → CookieDrop
why_of d (Ok s) = d
why_of d (Err w) = w

-- an answer has one cause
pub one_cause : (r : Result Stored CookieDrop) (y w m : CookieDrop) → r ≡ Err y → y ≡ w → r ≡ Err m → w ≡ m
one_cause r y w m e1 e2 e3 = sym e2 ∙ ap (why_of y) (sym e1 ∙ e3)
