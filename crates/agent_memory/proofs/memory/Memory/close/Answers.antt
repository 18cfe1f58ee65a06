use Rattle.std.proofs.Common.{◌≡◌, [], refl, sym, ap, subst, ◌∙◌}
use Rattle.unwinding.specs.Durable.{line_changes}
use Rattle.std.specs.Prelude.{option_map}
use Rattle.origin_site.specs.Plain.{plain_site}
use Rattle.script_actions.specs.Action.{Close}
use Rattle.agent_model.specs.TheMachine.{machine}
use Rattle.agent_memory.specs.AgentState.{AgentState, world_of}
use Rattle.agent_memory.proofs.StandingLemmas.{reply_as, runs_from, runs_still, runs_without_tab}
use Rattle.agent_memory.proofs.RunsLemmas.{closes_none, runs_closed, runs_unchanged, standing_closed}
use Rattle.agent_memory.proofs.memory.Memory.close.Goals as goal

pub returns-in_default-clause-runs : goal.returns-in_default-clause-runs
returns-in_default-clause-runs c =
    let nowhere = sym c.in_ok-site.ensures.site ∙ ap (option_map plain_site) c.in_default.is in
    runs_still c.self.view_is (runs_without_tab (Close c.args.tab) _ c.self.invariant c.refused.result nowhere c.refused.ensures)

pub returns-in_err-site-clause-runs : goal.returns-in_err-site-clause-runs
returns-in_err-site-clause-runs c =
    runs_still c.self.view_is (runs_unchanged _ (Close c.args.tab)
    c.in_err-site.ensures.memory c.from_residual.result c.from_residual.ensures.0)

pub invariant_of-self : goal.invariant_of-self
invariant_of-self c =
    let place = sym c.in_ok-site.ensures.site ∙ ap (option_map plain_site) c.in-Some.is in
    standing_closed _ c.self.invariant c.args.tab (plain_site c.in-Some.site)
    place _ _ _ _ c.close.ensures.places c.close.ensures.cells c.close.ensures.held

pub returns-clause-runs : goal.returns-clause-runs
returns-clause-runs c =
    let place = sym c.in_ok-site.ensures.site ∙ ap (option_map plain_site) c.in-Some.is in
    runs_from c.self.view_is
    (runs_closed _ c.self.invariant c.args.tab (plain_site c.in-Some.site)
    place _ _ _ _ c.close.ensures.places c.close.ensures.cells c.close.ensures.held
    c.replied.result (reply_as (Close c.args.tab) c.replied.result c.replied.ensures refl c.answer.ensures))

pub returns-in_default-clause-changes : goal.returns-in_default-clause-changes
returns-in_default-clause-changes c = subst (λ (o : AgentState). line_changes (machine o.rules) (world_of o)
    (Close c.args.tab) ≡ []) c.self.view_is (closes_none _ c.self.invariant c.args.tab)

pub returns-in_err-site-clause-changes : goal.returns-in_err-site-clause-changes
returns-in_err-site-clause-changes c = subst (λ (o : AgentState). line_changes (machine o.rules) (world_of o)
    (Close c.args.tab) ≡ []) c.self.view_is (closes_none _ c.self.invariant c.args.tab)

pub returns-clause-changes : goal.returns-clause-changes
returns-clause-changes c = subst (λ (o : AgentState). line_changes (machine o.rules) (world_of o)
    (Close c.args.tab) ≡ []) c.self.view_is (closes_none _ c.self.invariant c.args.tab)
