use Rattle.std.proofs.Common.{not, sym, ap, ◌∙◌}
use Rattle.web_storage.proofs.OrderOfKeys.{order, alike}
use Rattle.buckets.specs.Shed.{is_best_effort}
use Rattle.web_storage.proofs.WriteLemmas.{mode_found}
use Rattle.web_storage.proofs.local.is_persistent.Goals as goal

pub returns-in-Persistent : goal.returns-in-Persistent
returns-in-Persistent c = ap (λ m. not (is_best_effort m)) (sym c.in-Persistent.is ∙ c.mode.ensures.mode)
    ∙ mode_found order alike c.args.key.now c.args.shed.now

pub returns-in-BestEffort : goal.returns-in-BestEffort
returns-in-BestEffort c = ap (λ m. not (is_best_effort m)) (sym c.in-BestEffort.is ∙ c.mode.ensures.mode)
    ∙ mode_found order alike c.args.key.now c.args.shed.now
