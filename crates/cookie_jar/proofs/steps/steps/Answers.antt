use Rattle.std.proofs.Common.{rules, ◌≡◌, ◌∙◌, false, map}
use Rattle.cookie_jar.specs.Borrowed.{plain_borrowed}
use Rattle.cookie_jar.specs.Lifetime.{is_expired}
use Rattle.cookie_jar.specs.Steps as spec
use Rattle.cookie_jar.specs.Plain.{plain_cookie}
use Rattle.cookie_jar.proofs.PutLemmas.{steps_are}
use Rattle.cookie_jar.proofs.steps.steps.Goals as goal

pub returns-in_ok-live_steps : goal.returns-in_ok-live_steps
returns-in_ok-live_steps c =
    let cs = map plain_cookie c.args.cookies.now in
    let fresh = plain_borrowed c.args.fresh.now in
    let live : is_expired c.args.now (plain_borrowed c.args.fresh.now) ≡ false = search (rules, c.is_expired.ensures, c.if-is_expired.false) in
    let gone : c.deref.result.now ≡ spec.going c.args.kind c.args.now (plain_borrowed c.args.fresh.now) (map plain_cookie c.args.cookies.now) = search (rules, c.deref.ensures.value, c.in_ok-gone.ensures) in
    c.in_ok-live_steps.ensures ∙ steps_are c.args.kind c.args.now fresh cs c.deref.result.now c.args.place live gone c.requires.place
