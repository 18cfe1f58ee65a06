use Rattle.std.proofs.Common.{◌∙◌}
use Rattle.agent_model.specs.Partition.{no_holdings}
use Rattle.agent_memory.specs.AgentState.{beside_storage, tabs_in}
use Rattle.agent_memory.proofs.holdings.Holdings.new.Goals as goal

pub returns-clause-held : goal.returns-clause-held
unfolding no_holdings
returns-clause-held c =
    c.new-2.ensures.empty (beside_storage c.new.result.tabs c.new-3.result c.new-4.result.rows)
    ∙ λ i. record no_holdings {
      tabs = tabs_in (c.new.ensures.empty i);
      cookies =
          c.new-3.ensures.partitioned i;
      grants = c.new-4.ensures.empty i;
    }
