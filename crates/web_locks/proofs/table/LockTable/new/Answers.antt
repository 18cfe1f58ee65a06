-- Nothing is asked for, and what finds the requests tells of none.
use Rattle.std.proofs.Common.{sym, subst}
use Rattle.web_locks.specs.Forms.{IsLockTable}
use Rattle.web_locks.specs.Index.{locks_of}
use Rattle.web_locks.proofs.StandingLemmas.{standing_none}
use Rattle.web_locks.proofs.table.LockTable.new.Goals as goal

pub invariant_of-result : goal.invariant_of-result
invariant_of-result g c = (
  c.new.ensures.indexed,
  subst (λ rows. IsLockTable g.K.Ord.cmp (locks_of rows)) (sym c.new.ensures.empty) (standing_none g.K.Ord.cmp g.met.K.Ord.total),
)
