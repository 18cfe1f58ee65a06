use Rattle.std.proofs.Common.{rules, ◌≡◌, ◌∙◌, ap, map, w64, to_z, of_z}
use Rattle.cookie_jar.specs.Borrowed.{plain_borrowed}
use Rattle.cookie_jar.specs.Planned as spec
use Rattle.cookie_jar.specs.Plain.{plain_cookie}
use Rattle.cookie_jar.proofs.plan.plan_unless_memory.Goals as goal

pub returns : goal.returns
returns c =
    let e : to_z w64 (of_z w64 c.args.now) ≡ c.args.now = search rules in
    c.in_ok-plan_of.ensures ∙ ap (λ n. spec.plan_of c.args.kind n (plain_borrowed c.args.new.now) (map plain_cookie c.args.cookies.now)) e
