use Rattle.unwinding.proofs.LawProofs.{same_replies}
use Rattle.unwinding.proofs.laws.same_replies.Goals as goal

pub returns : goal.returns
returns g c = record { same = same_replies g.M.Isolated.setting }
