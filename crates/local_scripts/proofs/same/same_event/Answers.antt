use Rattle.std.proofs.Common.{arith}
use Rattle.local_scripts.proofs.SameEventLemmas.{same_event-Decides}
use Rattle.local_scripts.proofs.same.same_event.Goals as goal

pub returns : goal.returns
returns c = grind (arith, same_event-Decides)
