use Rattle.std.proofs.Common.{ap}
use Rattle.unwinding.specs.Admissible.{Acts}
use Rattle.script_actions.specs.Action.{Act, SetCookie}
use Rattle.generated_day.proofs.rows.set_cookie.Goals as goal

pub returns : goal.returns
returns c =
    ap (λ text. Acts (Act (record { tab = c.args.tab; frame = 0 }) (SetCookie text))) c.in_ok-format.ensures.ok
