use Rattle.std.proofs.Common.{◌≤◌, subst}
use Rattle.cookie_jar.specs.Cookie.{PlainJar, copies}
use Rattle.cookie_jar.proofs.jar.Jar.len.Goals as goal

pub returns-clause-distinct : goal.returns-clause-distinct
returns-clause-distinct c x =
    subst (λ (j : PlainJar). copies x j.cookies ≤ 1) c.self.view_is (c.self.invariant.distinct x)
