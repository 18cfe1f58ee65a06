use Rattle.unwinding.proofs.ScriptLawProofs.{gives_by_own, others_left_out, holds_only_changed}
use Rattle.unwinding.proofs.laws.local_scripts.Goals as goal

pub returns : goal.returns
returns g c = record { own = gives_by_own g.M.Isolated.setting; left_out = others_left_out g.M.Isolated.setting; held = holds_only_changed g.M.Isolated.setting }
