use Rattle.durable_model.proofs.MigrateLemmas as of_lists
use Rattle.durable_model.proofs.states_migrate.Goals as goal

pub returns : goal.returns
returns c = record { law = of_lists.states_migrate }
