use Rattle.agent_model.proofs.GivenLemmas.{gives_exactly}
use Rattle.agent_model.proofs.OwnLemmas.{gives_by_own}
use Rattle.agent_model.proofs.LocalScriptLemmas.{refused_gives_none, others_give_none, others_left_out, lines_without_others, holds_only_changed}
use Rattle.agent_model.proofs.StandApartLemmas.{each_stands_apart}
use Rattle.agent_model.proofs.local_scripts.Goals as goal

pub returns : goal.returns
returns c = record { exact = gives_exactly; own = gives_by_own; refused = refused_gives_none; others = others_give_none; apart = each_stands_apart; left_out = others_left_out; lines = lines_without_others; held = holds_only_changed }
