use Rattle.std.proofs.lemmas.Result.{on_ok_weaker}
use Rattle.twins.proofs.LeadLemmas.{leads_reopened}
use Rattle.twins.proofs.lines.reopen.Goals as goal

pub returns-in-Ok : goal.returns-in-Ok
returns-in-Ok c = record {
  leads = on_ok_weaker c.restart-in-Ok.result
      (λ restarts site. leads_reopened site c.args.agent.now c.restart.new.self c.args.found.now
      c.restart-in-Ok.new.self c.in-Ok.field-0 c.now-moment.result c.in-Ok.ensures.rules
      c.in-Ok.ensures.means c.in-Ok.ensures.device c.now-moment.ensures restarts)
      c.restart-in-Ok.ensures.restarted;
}
