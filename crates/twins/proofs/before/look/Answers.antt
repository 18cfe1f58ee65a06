-- What an agent has in memory stands for its world.
use Rattle.std.proofs.Common.{subst, sym, ap, ◌∙◌}
use Rattle.origin_site.specs.Plain.{plain_site}
use Rattle.script_actions.specs.Plain.{action_of}
use Rattle.agent_model.specs.Lines.{AgentWorld}
use Rattle.local_scripts.specs.Seen.{IsGivenAt}
use Rattle.agent_memory.specs.AgentState.{AgentState, world_of}
use Rattle.twins.proofs.before.look.Goals as goal

pub returns : goal.returns
returns c = record {
  before = λ a seen up.
      let site = plain_site c.args.site.now in
      let action = action_of c.args.action.now in
      let line = c.in_ok-line.line in
      let lent = c.in_ok-memory.ensures.memory in
      let world = sym (ap world_of lent) ∙ c.in_ok-memory.ensures.up a seen up in
      record {
        given =
            subst (λ (w : AgentWorld). IsGivenAt c.args.agent.now.memory.rules site c.args.changed w action line) world
            (subst (λ (m : AgentState). IsGivenAt m.rules site c.args.changed (world_of m) action line) lent
            c.in_ok-line.ensures.given);
        kept = c.in_ok-cookies.ensures.kept a seen up;
        changes = c.changes.ensures.up a seen up;
      };
}
