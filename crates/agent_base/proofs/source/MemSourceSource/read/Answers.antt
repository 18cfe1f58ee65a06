use Rattle.std.proofs.Common.{arith}
use Rattle.std.proofs.lemmas.List.{nil_from_length}
use Rattle.agent_base.proofs.source.MemSourceSource.read.Goals as goal

pub returns-clause-end : goal.returns-clause-end
returns-clause-end c none =
    nil_from_length _ (grind (arith, c.give.ensures.bytes, c.give.ensures.count, c.requires, none))
