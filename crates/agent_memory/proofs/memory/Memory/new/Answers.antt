-- Nothing is there, and the clock stands at the start.
use Rattle.std.proofs.Common.{◌≤◌, ℕ, ap, subst, sym, ◌∙◌}
use Rattle.agent_base.specs.Seconds.{last_moment}
use Rattle.agent_model.specs.TheMachine.{beginning}
use Rattle.agent_model.specs.Effects.{no_shared_cells}
use Rattle.agent_model.specs.Partition.{no_holdings}
use Rattle.agent_model.specs.Lines.{no_places}
use Rattle.one_store.proofs.WorldBeginningLemmas.{beginning_placed, beginning_whole}
use Rattle.agent_memory.specs.AgentState.{places_in}
use Rattle.agent_memory.proofs.OwnedLemmas.{owned_nothing}
use Rattle.agent_memory.proofs.StandingLemmas.{stands, world_is}
use Rattle.agent_memory.proofs.memory.Memory.new.Goals as goal

pub invariant_of-result : goal.invariant_of-result
invariant_of-result c = stands _ no_places no_shared_cells no_holdings (ap places_in c.new.ensures.tabs)
    c.new.ensures.cells c.new.ensures.held
    (subst (λ (now : ℕ). now ≤ last_moment) (sym c.new-clock.ensures.moment) c.requires) beginning_placed owned_nothing

pub returns-clause-beginning : goal.returns-clause-beginning
returns-clause-beginning c =
    world_is _ no_places no_shared_cells no_holdings (ap places_in c.new.ensures.tabs)
    c.new.ensures.cells c.new.ensures.held ∙ beginning_whole c.new-clock.result
    ∙ ap beginning c.new-clock.ensures.moment
