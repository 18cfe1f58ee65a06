use Rattle.unwinding.proofs.LawProofs.{unwound}
use Rattle.unwinding.proofs.laws.unwinding.Goals as goal

pub returns : goal.returns
returns g c = record { unwound = unwound g.M.Isolated.setting }
