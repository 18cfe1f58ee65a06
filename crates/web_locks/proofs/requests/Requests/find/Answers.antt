-- The first of the numbers that are told.
use Rattle.std.proofs.Common.{◌∙◌, ap, None}
use Rattle.web_locks.specs.Numbers.{first_after}
use Rattle.web_locks.proofs.requests.Requests.find.Goals as goal

pub returns-clause-found : goal.returns-clause-found
returns-clause-found g c = λ told.
    c.next.ensures.next ∙ ap (first_after None) (told.ids (record { owner = c.args.owner; id = c.args.id }))
