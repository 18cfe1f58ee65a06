use Rattle.std.proofs.Common.{ap, subst, ◌∙◌}
use Rattle.unwinding.specs.FiniteCells.{get_cell}
use Rattle.origin_site.specs.Plain.{plain_site}
use Rattle.agent_model.specs.CookieCells.{domain_order}
use Rattle.agent_model.specs.Lines.{AgentWorld}
use Rattle.twins.specs.Collecting.{IsCopied}
use Rattle.twins.proofs.LineLemmas.{changed_else, changed_then}
use Rattle.twins.proofs.before.is_changed.Goals as goal
use Rattle.twins.proofs.before.is_changed.Goals.{then-changed, else-changed}

pub returns : goal.returns
returns c = record {
  changed = λ b world asks seen up kept.
      let site = plain_site c.args.site.now in
      let here = subst (IsCopied site world asks) c.in-Some.is kept in
      let after = c.in_ok-after.ensures.cookies
      ∙ ap (λ (w : AgentWorld). get_cell domain_order w.cells c.as_str.result.now) (c.in_ok-memory.ensures.up b seen up)
      ∙ ap (λ d. get_cell domain_order b.world.cells d) c.as_str.ensures.value in
      elim c.if-changed.branch [
        | then-changed w ↦ changed_then site world b.world c.args.changed asks c.if-changed.result
            w.if-changed.true (w.result-is ∙ w.if-changed.true)
        | else-changed w ↦ changed_else site world b.world c.in-Some.before.cookies
            c.in_ok-after.after.cookies c.args.changed asks w.same_cookies.result c.if-changed.result
            w.if-changed.false here.0 here.1 after w.same_cookies.ensures.same w.result-is
      ];
}
