-- The keys without one.
use Rattle.std.proofs.Common.{◌∙◌, ap}
use Rattle.std.specs.Map.{keys_of}
use Rattle.web_locks.specs.Numbers.{without_number}
use Rattle.web_locks.proofs.NumberLemmas.{keys_without}
use Rattle.web_locks.proofs.numbers.Numbers.remove.Goals as goal

pub returns-clause-removed : goal.returns-clause-removed
returns-clause-removed c =
    ap keys_of c.remove.ensures.removed
    ∙ keys_without c.args.number c.self.inside.set
    ∙ ap (without_number c.args.number) c.self.view_is
