-- The rows are the table's.
use Rattle.std.proofs.Common.{◌∙◌, ap, subst}
use Rattle.std.specs.Prelude.{find, option_map}
use Rattle.std.specs.List.{IsDistinct}
use Rattle.web_locks.specs.Forms.{same_request}
use Rattle.web_locks.specs.Lock.{is_owned}
use Rattle.web_locks.proofs.table.LockTable.first_id.Goals as goal

pub returns-clause-first : goal.returns-clause-first
returns-clause-first g c =
    c.first_id.ensures.first ∙ ap (λ table. option_map (λ l. l.id) (find (is_owned c.args.owner) table)) c.self.view_is

pub returns-clause-distinct : goal.returns-clause-distinct
returns-clause-distinct g c = subst (IsDistinct same_request) c.self.view_is c.self.invariant.1.kept.distinct
