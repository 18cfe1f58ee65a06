use Rattle.std.proofs.Common.{◌≡◌, take, map}
use Rattle.cookie_jar.specs.Steps.{weigh}
use Rattle.cookie_jar.specs.Plain.{plain_cookie}
use Rattle.cookie_jar.proofs.steps.weigh_all.Given as goal

abbrev pub invariant-loop-cookie : goal.invariant-loop-cookie
invariant-loop-cookie l = l.rows.items ≡ map (λ c. weigh l.kind l.now (plain_cookie c)) (take l.cookie-index l.cookies)
