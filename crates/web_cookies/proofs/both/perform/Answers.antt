-- Room for one cookie more leaves the plan one for the jar.
use Rattle.std.proofs.Common.{◌≤◌, sym, subst, ◌∙◌}
use Rattle.cookie_jar.specs.Cookie.{copies}
use Rattle.cookie_jar.specs.Steps.{steps}
use Rattle.web_cookies.proofs.both.perform.Goals as goal

pub perform-stored-requires-clause-fit : goal.perform-stored-requires-clause-fit
perform-stored-requires-clause-fit c =
    let fit = c.requires.fit in
    let kind = sym c.in_ok-reserve.ensures.kind in
    let cookies = sym c.in_ok-reserve.ensures.cookies in (
      fit.0,
      fit.1 ∙ (λ i. steps (kind i) fit.0 c.args.plan.fresh (cookies i)),
      fit.2,
      λ q. subst (λ cs. copies q cs ≤ 1) cookies (fit.3 q),
    )
