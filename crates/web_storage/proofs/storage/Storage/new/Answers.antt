use Rattle.web_storage.specs.Stored.{held_with, areas_in, keys_in, sessions_in}
use Rattle.agent_model.specs.Partition.{no_holdings}
use Rattle.web_storage.proofs.storage.Storage.new.Goals as goal

pub returns : goal.returns
unfolding held_with no_holdings
returns c = record {
  empty = λ beside i. record beside {
    areas = areas_in (c.new.ensures.empty i);
    persistent = keys_in (c.new.ensures.empty i);
    sessions = sessions_in (c.new-2.ensures.empty i);
  };
}
