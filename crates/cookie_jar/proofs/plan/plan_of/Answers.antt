use Rattle.std.proofs.Common.{rules, ◌≡◌, map, sym, subst, w64, to_z, of_z}
use Rattle.std.specs.Prelude.{IfSome, IsTrue, option_map, is_some, unwrap_or}
use Rattle.cookie_jar.specs.Borrowed.{plain_borrowed}
use Rattle.cookie_jar.specs.Cookie.{same}
use Rattle.cookie_jar.specs.NewCookie.{replaced, kind_with}
use Rattle.cookie_jar.specs.Plain.{plain_cookie}
use Rattle.cookie_jar.proofs.NewCookieLemmas.{plan_is, same_at_place, steps_at}
use Rattle.cookie_jar.proofs.plan.plan_of.Goals as goal

pub to_cookie-requires : goal.to_cookie-requires
to_cookie-requires c =
    let new = plain_borrowed c.args.new.now in
    record {
      same = subst (λ o. IfSome o (λ x. IsTrue (same new x))) (sym c.cookie_at.ensures)
          (same_at_place new (map plain_cookie c.args.cookies.now) c.place_of-place.result c.place_of-place.ensures.value);
    }

pub returns : goal.returns
returns c =
    let cs = map plain_cookie c.args.cookies.now in
    let new = plain_borrowed c.args.new.now in
    let old : c.replaced_creation-old.result ≡ option_map (λ x. x.creation) (replaced c.args.now (plain_borrowed c.args.new.now) (map plain_cookie c.args.cookies.now)) = search (rules, c.replaced_creation-old.ensures) in
    let word : c.stored_kind.result ≡ kind_with c.args.now (plain_borrowed c.args.new.now) (is_some c.replaced_creation-old.result) = search (rules, c.stored_kind.ensures) in
    let fresh : plain_cookie c.in_ok-to_cookie.field-0 ≡ record (plain_borrowed c.args.new.now) { creation = unwrap_or c.replaced_creation-old.result c.args.new.now.creation } = search (rules, c.in_ok-to_cookie.ensures, c.unwrap_or.ensures) in
    let e : to_z w64 (of_z w64 c.args.now) ≡ c.args.now = search rules in
    let done = steps_at _ _ c.in_ok-to_cookie.ensures (to_z w64 (of_z w64 c.args.now)) c.args.now e c.args.kind cs c.in_ok-steps.field-0.items c.in_ok-steps.ensures in
    plan_is c.args.kind c.args.now new cs c.replaced_creation-old.result c.stored_kind.result c.in_ok-steps.field-0.items (plain_cookie c.in_ok-to_cookie.field-0) old word fresh done
