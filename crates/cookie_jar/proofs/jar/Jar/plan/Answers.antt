use Rattle.std.proofs.Common.{rules, ◌≤◌, ◌≡◌, ◌∙◌, ap, sym, subst, false, map, inr, w64, to_z, of_z}
use Rattle.std.specs.Prelude.{IsOk, option_copied}
use Rattle.agent_base.specs.Answers.{Answers}
use Rattle.setcookie_parse.specs.Plain.{plain_text}
use Rattle.cookie_jar.specs.declared.cause.CookieDrop.TheVariants as why
use Rattle.cookie_jar.specs.Cookie.{PlainJar, copies}
use Rattle.cookie_jar.specs.Drops.{is_not_ascii_domain}
use Rattle.cookie_jar.specs.NewCookie.{lower_domain}
use Rattle.cookie_jar.specs.Planned as spec
use Rattle.cookie_jar.specs.Plain.{plain_access, plain_cookie}
use Rattle.agent_base.proofs.Logic.{answers_decided}
use Rattle.cookie_jar.proofs.PlanLemmas.{plan_fits, planned_is, planned_sure}
use Rattle.cookie_jar.proofs.UsedLemmas.{plan_used}
use Rattle.cookie_jar.proofs.jar.Jar.plan.Goals as goal
use Rattle.cookie_jar.proofs.jar.Jar.plan.Goals.{Joined-lower}

expected : (c : Joined-lower) → spec.planned_with c.args.list.now.rules (option_copied c.as_deref.result) (plain_text c.args.text.now) (plain_access c.args.access.now) c.self.inside.kind (to_z w64 (of_z w64 c.args.now)) (map plain_cookie c.deref.result.now)
    ≡ spec.planned c.args.list.now.rules (plain_text c.args.text.now) (plain_access c.args.access.now) c.args.self.now.kind c.args.now c.args.self.now.cookies
expected c =
    let list = c.args.list.now.rules in
    let text = plain_text c.args.text.now in
    let access = plain_access c.args.access.now in
    let e : to_z w64 (of_z w64 c.args.now) ≡ c.args.now = search rules in
    let lower : option_copied c.as_deref.result ≡ lower_domain (plain_text c.args.text.now) = search (rules, c.as_deref.ensures.value, c.in_ok-lower.ensures.value) in
    let ascii : is_not_ascii_domain (plain_text c.args.text.now) ≡ false = sym c.is_not_ascii_domain.ensures ∙ c.if-is_not_ascii_domain.false in
    ap (λ o. spec.planned_with list o text access c.self.inside.kind (to_z w64 (of_z w64 c.args.now)) (map plain_cookie c.deref.result.now)) lower
    ∙ ap (λ n. spec.planned_with list (lower_domain text) text access c.self.inside.kind n (map plain_cookie c.deref.result.now)) e
    ∙ ap (λ xs. spec.planned_with list (lower_domain text) text access c.self.inside.kind c.args.now (map plain_cookie xs)) c.deref.ensures.value
    ∙ planned_is list text access c.self.inside.kind c.args.now (map plain_cookie c.self.inside.cookies.items) ascii
    ∙ ap (λ (j : PlainJar). spec.planned list text access j.kind c.args.now j.cookies) c.self.view_is

pub returns-clause-answer : goal.returns-clause-answer
returns-clause-answer c =
    subst (λ x. Answers (λ p. p) why.NoMemory x c.planned_with.result) (expected c) (answers_decided (λ p. p) why.NoMemory _ c.planned_with.result c.planned_with.ensures.answer)

pub returns-clause-memory : goal.returns-clause-memory
returns-clause-memory c is =
    inr (subst (λ x. IsOk x) (expected c) (planned_sure c.args.list.now.rules (option_copied c.as_deref.result) (plain_text c.args.text.now) (plain_access c.args.access.now) c.self.inside.kind (to_z w64 (of_z w64 c.args.now))
    (map plain_cookie c.deref.result.now) c.planned_with.result c.planned_with.ensures.answer is))

pub returns-clause-fit : goal.returns-clause-fit
returns-clause-fit c =
    plan_fits c.args.list.now.rules (plain_text c.args.text.now) (plain_access c.args.access.now) c.args.self.now c.args.now c.planned_with.result c.requires.pair
    (λ x. subst (λ (j : PlainJar). copies x j.cookies ≤ 1) c.self.view_is (c.self.invariant.distinct x)) (returns-clause-answer c)

pub returns-clause-replaced : goal.returns-clause-replaced
returns-clause-replaced c =
    plan_used c.args.list.now.rules (plain_text c.args.text.now) (plain_access c.args.access.now) c.args.self.now c.args.now c.planned_with.result c.requires.pair
    (λ x. subst (λ (j : PlainJar). copies x j.cookies ≤ 1) c.self.view_is (c.self.invariant.distinct x)) (returns-clause-answer c)
