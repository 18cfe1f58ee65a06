use Rattle.std.proofs.Common.{rules, ◌≡◌, ◌∙◌, ap, sym, map, inr, w64, to_z, of_z}
use Rattle.std.specs.Prelude.{Ok, option_copied}
use Rattle.setcookie_parse.specs.Plain.{plain_text}
use Rattle.cookie_jar.specs.Borrowed.{plain_borrowed}
use Rattle.cookie_jar.specs.Drops.{first_drop, later_rows}
use Rattle.cookie_jar.specs.NewCookie.{made_with}
use Rattle.cookie_jar.specs.Planned as spec
use Rattle.cookie_jar.specs.Plain.{plain_access, plain_cookie}
use Rattle.cookie_jar.proofs.PlanLemmas.{plan_stands, plan_drops, decides}
use Rattle.cookie_jar.proofs.plan.planned_with.Goals as goal

pub returns-in-Some : goal.returns-in-Some
returns-in-Some c =
    let rules_of = c.args.list.now.rules in
    let lower = option_copied c.args.lower in
    let text = plain_text c.args.text.now in
    let access = plain_access c.args.access.now in
    let cs = map plain_cookie c.args.cookies.now in
    let e : to_z w64 (of_z w64 c.args.now) ≡ c.args.now = search rules in
    let some = ap (λ n. first_drop (later_rows rules_of lower text access n cs)) (sym e) ∙ sym c.in-Some.ensures in
    record { answer = inr (plan_drops rules_of lower text access c.args.kind c.args.now cs c.in-Some.why some) }

pub returns-in-None : goal.returns-in-None
returns-in-None c =
    let rules_of = c.args.list.now.rules in
    let lower = option_copied c.args.lower in
    let text = plain_text c.args.text.now in
    let access = plain_access c.args.access.now in
    let cs = map plain_cookie c.args.cookies.now in
    let e : to_z w64 (of_z w64 c.args.now) ≡ c.args.now = search rules in
    let none = ap (λ n. first_drop (later_rows rules_of lower text access n cs)) (sym e) ∙ sym c.in-None.ensures in
    let new = c.made-new.ensures ∙ ap (λ n. made_with (option_copied c.own_domain-own.result) text access n) e ∙ ap (λ o. made_with o text access c.args.now) c.own_domain-own.ensures in
    let same = ap (λ n. spec.plan_of c.args.kind n (plain_borrowed c.made-new.result) cs) e ∙ ap (λ x. spec.plan_of c.args.kind c.args.now x cs) new in
    record { answer = decides c.plan_unless_memory.result _ _ _ c.plan_unless_memory.ensures (plan_stands rules_of lower text access c.args.kind c.args.now cs none ∙ ap Ok (sym same)) }
