use Rattle.durable_model.proofs.HistoryLemmas.{has_isolated_histories, restarts_project}
use Rattle.durable_model.proofs.histories_are_isolated.Goals as goal

pub returns : goal.returns
returns c = record { lines = has_isolated_histories; restarts = restarts_project }
