use Rattle.unwinding.proofs.LawProofs.{epoch_unwound}
use Rattle.unwinding.proofs.laws.epoch_unwinding.Goals as goal

pub returns : goal.returns
returns g c = record { unwound = epoch_unwound g.M.Isolated.setting }
