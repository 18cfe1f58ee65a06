-- The keys with one more.
use Rattle.std.proofs.Common.{◌∙◌, ap}
use Rattle.std.specs.Map.{keys_of}
use Rattle.std.proofs.lemmas.Result.{on_ok_weaker}
use Rattle.web_locks.specs.Numbers.{with_number}
use Rattle.web_locks.proofs.NumberLemmas.{keys_with}
use Rattle.web_locks.proofs.numbers.Numbers.add.Goals as goal

pub returns-clause-added : goal.returns-clause-added
returns-clause-added c =
    on_ok_weaker c.insert.result
    (λ is. ap keys_of is ∙ keys_with c.args.number _ c.self.inside.set ∙ ap (with_number c.args.number) c.self.view_is)
    c.insert.ensures.inserted
