use Rattle.unwinding.proofs.LawProofs.{durable_follows}
use Rattle.unwinding.proofs.laws.durable_follows.Goals as goal

pub returns : goal.returns
returns g c = record { follows = durable_follows g.M.Isolated.setting }
