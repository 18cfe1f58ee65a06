use Rattle.std.proofs.Common.{sym, subst}
use Rattle.std.proofs.lemmas.Result.{on_ok_weaker}
use Rattle.std.specs.Prelude.{OnOk}
use Rattle.origin_site.specs.Plain.{plain_site}
use Rattle.script_actions.specs.Plain.{step_of}
use Rattle.twins.specs.Collecting.{Leads}
use Rattle.twins.proofs.lines.step.Goals as goal

pub returns-in-Act : goal.returns-in-Act
returns-in-Act c = record {
  leads = subst (λ s. OnOk c.act.result (Leads (plain_site c.args.site.now) (step_of s)
      c.args.agent.now c.args.found.now c.act.new.agent c.act.new.found)) (sym c.in-Act.is) c.act.ensures.leads;
}

pub returns-in-Restart : goal.returns-in-Restart
returns-in-Restart c =
    let site = plain_site c.args.site.now in
    record {
      leads = on_ok_weaker c.reopen.result
          (λ all. subst (λ s. Leads site (step_of s)
          c.args.agent.now c.args.found.now c.reopen.new.agent c.reopen.new.found) (sym c.in-Restart.is)
          (all site)) c.reopen.ensures.leads;
    }
