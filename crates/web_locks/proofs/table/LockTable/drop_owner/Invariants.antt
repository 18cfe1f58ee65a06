-- What is left comes to the same end, and has one request of the document less.
use Rattle.std.proofs.Common.{◌≡◌, length}
use Rattle.web_locks.specs.Lock.{owned_ids}
use Rattle.web_locks.specs.Requests.{without_owner}
use Rattle.web_locks.proofs.table.LockTable.drop_owner.Given as goal

abbrev pub invariant-loop-id : goal.invariant-loop-id
invariant-loop-id g l = without_owner g.K.Ord.cmp l.owner l.self ≡ without_owner g.K.Ord.cmp l.owner l.initial.self

abbrev pub decreases-loop-id : goal.decreases-loop-id
decreases-loop-id g l = length (owned_ids l.owner l.self)
