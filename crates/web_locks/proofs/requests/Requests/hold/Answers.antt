-- The request waits no more.
use Rattle.std.proofs.Common.{◌∙◌, refl}
use Rattle.web_locks.proofs.ServedLemmas.{held_row_is}
use Rattle.web_locks.proofs.ToldLemmas.{all_held}
use Rattle.web_locks.proofs.requests.Requests.hold.Goals as goal

pub returns-clause-told : goal.returns-clause-told
returns-clause-told g c = λ lock found here told.
    rw (c.hold_row.ensures.held ∙ held_row_is c.args.number lock c.args.self.now.rows found)
    (all_held g.K.Ord.cmp c.args.number lock g.met.K.Ord.total c.args.resource.now c.args.self.now.index _ c.args.self.now.rows
    c.hold_row.ensures.ordered found here told refl refl refl refl c.remove.ensures.removed)
