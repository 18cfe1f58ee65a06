use Rattle.std.proofs.Common.{arith, rules, ◌≡◌, ◌≤◌, ◌∙◌, ap, sym, subst, inl, inr, ⊎_elim, w64, to_z, of_z, true}
use Rattle.std.specs.Prelude.{Ok, Err, IsOk}
use Rattle.std.proofs.lemmas.Result.{err_from_is_err_and}
use Rattle.agent_base.specs.Answers.{Answers}
use Rattle.setcookie_parse.specs.Plain.{plain_text}
use Rattle.cookie_jar.specs.declared.cause.CookieDrop.TheVariants as why
use Rattle.cookie_jar.specs.Cookie.{PlainJar, copies, keeps_limits}
use Rattle.cookie_jar.specs.Planned as spec
use Rattle.cookie_jar.specs.Stored.{plain_stored}
use Rattle.cookie_jar.specs.Plain.{plain_access}
use Rattle.cookie_jar.proofs.StoreLemmas.{done_over, drop_answers, fit_over, leaves_held, leaves_rows, leaves_steps, leaves_stored, one_cause, planned_stands}
use Rattle.cookie_jar.proofs.jar.Jar.store.Goals as goal

pub perform-requires-clause-fit : goal.perform-requires-clause-fit
perform-requires-clause-fit c =
    fit_over c.args.self.now c.reserve.new.self c.in_ok-plan.plan c.in_ok-reserve.ensures.kind c.in_ok-reserve.ensures.cookies c.in_ok-plan.ensures.fit

pub perform-requires-clause-room : goal.perform-requires-clause-room
perform-requires-clause-room c = omega (arith, c.in_ok-reserve.ensures.room)

pub returns-in_err-plan-clause-answer : goal.returns-in_err-plan-clause-answer
returns-in_err-plan-clause-answer c =
    let list = c.args.list.now.rules in
    let text = plain_text c.args.text.now in
    let access = plain_access c.args.access.now in
    let jar = c.args.self.now in
    let e : to_z w64 (of_z w64 c.args.now) ≡ c.args.now = search rules in
    let p = err_from_is_err_and c.from_residual.result c.from_residual.ensures.1 in
    subst (λ n. Answers plain_stored why.NoMemory (spec.stored_answer (spec.planned list text access jar.kind n jar.cookies)) c.from_residual.result) e
    (drop_answers (spec.planned list text access jar.kind (to_z w64 (of_z w64 c.args.now)) jar.cookies) c.from_residual.result p.0 c.in_err-plan.field-0.0 p.1 p.2 c.in_err-plan.ensures.answer)

pub returns-in_err-plan-clause-memory : goal.returns-in_err-plan-clause-memory
returns-in_err-plan-clause-memory c is =
    let list = c.args.list.now.rules in
    let text = plain_text c.args.text.now in
    let access = plain_access c.args.access.now in
    let jar = c.args.self.now in
    let e : to_z w64 (of_z w64 c.args.now) ≡ c.args.now = search rules in
    let p = err_from_is_err_and c.from_residual.result c.from_residual.ensures.1 in
    ⊎_elim (λ early. inl early) (λ sure. inr (subst (λ n. IsOk (spec.planned list text access jar.kind n jar.cookies)) e sure))
    (c.in_err-plan.ensures.memory (ap Err (one_cause c.from_residual.result p.0 c.in_err-plan.field-0.0 why.NoMemory p.1 p.2 is)))

pub returns-in_err-plan-clause-distinct : goal.returns-in_err-plan-clause-distinct
returns-in_err-plan-clause-distinct c x = subst (λ (j : PlainJar). copies x j.cookies ≤ 1) c.self.view_is (c.self.invariant.distinct x)

pub returns-in_err-reserve-clause-memory : goal.returns-in_err-reserve-clause-memory
returns-in_err-reserve-clause-memory c is =
    let e : to_z w64 (of_z w64 c.args.now) ≡ c.args.now = search rules in
    inr (planned_stands c.args.list.now.rules (plain_text c.args.text.now) (plain_access c.args.access.now) c.args.self.now _ c.args.now c.in_ok-plan.plan e c.in_ok-plan.ensures.answer)

pub returns-in_err-reserve-clause-distinct : goal.returns-in_err-reserve-clause-distinct
returns-in_err-reserve-clause-distinct c x =
    subst (λ xs. copies x xs ≤ 1) (sym c.in_err-reserve.ensures.cookies) (subst (λ (j : PlainJar). copies x j.cookies ≤ 1) c.self.view_is (c.self.invariant.distinct x))

pub returns-clause-answer : goal.returns-clause-answer
returns-clause-answer c =
    let list = c.args.list.now.rules in
    let text = plain_text c.args.text.now in
    let access = plain_access c.args.access.now in
    let jar = c.args.self.now in
    let e : to_z w64 (of_z w64 c.args.now) ≡ c.args.now = search rules in
    ap (λ n. spec.stored_answer (spec.planned list text access jar.kind n jar.cookies)) (sym e) ∙ ap spec.stored_answer c.in_ok-plan.ensures.answer ∙ ap Ok (sym c.perform.ensures.answer)

pub returns-clause-memory : goal.returns-clause-memory
returns-clause-memory c is =
    let e : to_z w64 (of_z w64 c.args.now) ≡ c.args.now = search rules in
    inr (planned_stands c.args.list.now.rules (plain_text c.args.text.now) (plain_access c.args.access.now) c.args.self.now _ c.args.now c.in_ok-plan.plan e c.in_ok-plan.ensures.answer)

pub returns-clause-stored : goal.returns-clause-stored
returns-clause-stored c =
    let e : to_z w64 (of_z w64 c.args.now) ≡ c.args.now = search rules in
    let done = done_over c.in_ok-plan.plan c.reserve.new.self.cookies c.args.self.now.cookies c.perform.new.self.cookies c.in_ok-reserve.ensures.cookies c.perform.ensures.steps in
    leaves_stored c.args.list.now.rules (plain_text c.args.text.now) (plain_access c.args.access.now) c.args.self.now _ c.args.now c.in_ok-plan.plan c.perform.new.self.cookies e
    c.in_ok-plan.ensures.answer done

pub returns-clause-steps : goal.returns-clause-steps
returns-clause-steps c =
    let e : to_z w64 (of_z w64 c.args.now) ≡ c.args.now = search rules in
    let done = done_over c.in_ok-plan.plan c.reserve.new.self.cookies c.args.self.now.cookies c.perform.new.self.cookies c.in_ok-reserve.ensures.cookies c.perform.ensures.steps in
    leaves_steps c.args.list.now.rules (plain_text c.args.text.now) (plain_access c.args.access.now) c.args.self.now _ c.args.now c.in_ok-plan.plan (plain_stored c.perform.result) c.perform.new.self.cookies e
    c.in_ok-plan.ensures.answer c.perform.ensures.answer done

pub returns-clause-persistent : goal.returns-clause-persistent
returns-clause-persistent c =
    let e : to_z w64 (of_z w64 c.args.now) ≡ c.args.now = search rules in
    leaves_rows c.args.list.now.rules (plain_text c.args.text.now) (plain_access c.args.access.now) c.args.self.now c.reserve.new.self _ c.args.now c.in_ok-plan.plan (plain_stored c.perform.result) c.perform.new.self.cookies e
    c.in_ok-plan.ensures.answer c.perform.ensures.answer c.in_ok-reserve.ensures.kind c.in_ok-reserve.ensures.cookies c.perform.ensures.persistent

pub returns-clause-within : goal.returns-clause-within
returns-clause-within c =
    let done = done_over c.in_ok-plan.plan c.reserve.new.self.cookies c.args.self.now.cookies c.perform.new.self.cookies c.in_ok-reserve.ensures.cookies c.perform.ensures.steps in
    let within : keeps_limits c.args.self.now.kind c.args.self.now.cookies ≡ true = subst (λ (j : PlainJar). keeps_limits j.kind j.cookies ≡ true) c.self.view_is c.self.invariant.within in
    (leaves_held c.args.self.now c.in_ok-plan.plan c.perform.new.self.kind c.perform.new.self.cookies c.in_ok-plan.ensures.fit (c.perform.ensures.kind ∙ c.in_ok-reserve.ensures.kind) done within).0

pub returns-clause-distinct : goal.returns-clause-distinct
returns-clause-distinct c =
    let done = done_over c.in_ok-plan.plan c.reserve.new.self.cookies c.args.self.now.cookies c.perform.new.self.cookies c.in_ok-reserve.ensures.cookies c.perform.ensures.steps in
    let within : keeps_limits c.args.self.now.kind c.args.self.now.cookies ≡ true = subst (λ (j : PlainJar). keeps_limits j.kind j.cookies ≡ true) c.self.view_is c.self.invariant.within in
    (leaves_held c.args.self.now c.in_ok-plan.plan c.perform.new.self.kind c.perform.new.self.cookies c.in_ok-plan.ensures.fit (c.perform.ensures.kind ∙ c.in_ok-reserve.ensures.kind) done within).1
