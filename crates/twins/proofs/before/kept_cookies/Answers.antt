-- The cookies are those of the agent's world.
use Rattle.std.proofs.Common.{ap, ◌∙◌}
use Rattle.unwinding.specs.FiniteCells.{get_cell}
use Rattle.agent_model.specs.CookieCells.{domain_order}
use Rattle.agent_model.specs.Lines.{AgentWorld}
use Rattle.twins.proofs.before.kept_cookies.Goals as goal

pub returns : goal.returns
returns c = record {
  kept = λ a seen up. (
    c.if-not-asks.false,
    c.in_ok-domain_cookies.ensures.cookies
        ∙ ap (λ (w : AgentWorld). get_cell domain_order w.cells c.as_str.result.now) (c.in_ok-memory.ensures.up a seen up)
        ∙ ap (λ d. get_cell domain_order a.world.cells d) c.as_str.ensures.value,
  );
}
