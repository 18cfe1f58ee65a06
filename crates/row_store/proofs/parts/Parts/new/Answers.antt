-- Each part is empty.
use Rattle.agent_model.specs.Partition.{no_holdings}
use Rattle.durable_model.specs.Saved.{no_rows, nothing_saved}
use Rattle.row_store.proofs.parts.Parts.new.Goals as goal

pub returns-clause-saved : goal.returns-clause-saved
unfolding nothing_saved no_rows
returns-clause-saved c = λ i. record {
  under = record {
    areas = (c.new.ensures.empty no_holdings i).areas;
    persistent = (c.new.ensures.empty no_holdings i).persistent;
    cookies = c.new-2.ensures.partitioned i;
    grants = c.new-3.ensures.empty i;
  };
  cells = c.new-2.ensures.shared i;
}
