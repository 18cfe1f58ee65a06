use Rattle.std.proofs.Common.{ap, sym, subst, ◌∙◌}
use Rattle.web_storage.specs.Stored.{held_with, without_areas}
use Rattle.web_cookies.specs.Stored.{partitioned_in}
use Rattle.agent_model.specs.Partition.{no_holdings}
use Rattle.agent_memory.specs.FrameTrees.{AreTrees}
use Rattle.agent_memory.specs.AgentState.{beside_storage, places_in, tabs_in}
use Rattle.agent_memory.proofs.TabLemmas.{places_after_close, tabs_after_close}
use Rattle.agent_memory.proofs.TreeLemmas.{trees_after_close}
use Rattle.agent_memory.proofs.holdings.Holdings.close.Goals as goal

pub invariant_of-self : goal.invariant_of-self
invariant_of-self c =
    subst (λ tabs. AreTrees tabs) (sym c.drop_tab.ensures.dropped)
    (trees_after_close c.args.tab c.self.inside.live.tabs c.self.invariant)

pub returns-clause-held : goal.returns-clause-held
unfolding held_with
returns-clause-held c = rw (← c.self.view_is)
    (c.close.ensures.closed (beside_storage c.drop_tab.new.self.tabs c.self.inside.cookies c.self.inside.grants.rows)
    ∙ ap (λ tabs. let before = held_with
    (record no_holdings {
      tabs = tabs;
      cookies = partitioned_in c.self.inside.cookies;
      grants =
          c.self.inside.grants.rows;
    }) c.self.inside.storage in
    record before { sessions = without_areas c.args.tab before.sessions })
    (ap tabs_in c.drop_tab.ensures.dropped ∙ tabs_after_close c.args.tab c.self.inside.live.tabs))

pub returns-clause-places : goal.returns-clause-places
returns-clause-places c = rw (← c.self.view_is)
    (ap places_in c.drop_tab.ensures.dropped ∙ places_after_close c.args.tab c.self.inside.live.tabs)
