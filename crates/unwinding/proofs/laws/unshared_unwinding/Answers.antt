use Rattle.unwinding.proofs.LawProofs.{unshared_unwound}
use Rattle.unwinding.proofs.laws.unshared_unwinding.Goals as goal

pub returns : goal.returns
returns g c = record { unwound = unshared_unwound g.M.Isolated.setting }
