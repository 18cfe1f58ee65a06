use Rattle.durable_model.proofs.FactLemmas.{has_facts}
use Rattle.durable_model.proofs.HistoryLemmas.{lines_keep, lines_valid, opens_kept}
use Rattle.durable_model.proofs.ProjectLemmas.{changes_project}
use Rattle.durable_model.proofs.ValidLemmas.{changes_keep_valid}
use Rattle.durable_model.proofs.lines_keep_durable_states.Goals as goal

pub returns : goal.returns
returns c = record { facts = has_facts; projects = changes_project; valid = changes_keep_valid; opens = opens_kept; follows = lines_keep; valid_lines = lines_valid }
