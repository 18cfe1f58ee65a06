use Rattle.unwinding.proofs.LawProofs.{printed_unwound}
use Rattle.unwinding.proofs.laws.printed_unwinding.Goals as goal

pub returns : goal.returns
returns g c = record { unwound = printed_unwound g.M.Isolated.setting }
