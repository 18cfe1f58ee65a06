use Rattle.agent_model.proofs.Isolated.{is_isolated, has_isolated_lines}
use Rattle.agent_model.proofs.isolation.Goals as goal

pub returns : goal.returns
returns c = record { answers = is_isolated; lines = has_isolated_lines }
