-- What is left is processed to the same end, and one request less waits.
use Rattle.std.proofs.Common.{◌≡◌, true, length}
use Rattle.std.specs.List.{AllByRecursion}
use Rattle.web_locks.specs.Forms.{IsOpen, is_plain}
use Rattle.web_locks.specs.Index.{line_at, locks_of, numbers_where, waits_for}
use Rattle.web_locks.specs.Kept.{IsIndexed, processed_at}
use Rattle.web_locks.proofs.requests.Requests.process.Given as goal

abbrev pub invariant-loop-number : goal.invariant-loop-number
invariant-loop-number g l = record {
  indexed : IsIndexed g.K.Ord.cmp l.self;
  line : IsOpen (line_at g.K.Ord.cmp l.resource l.self.rows);
  plain : AllByRecursion (λ lock. is_plain lock ≡ true) (locks_of l.self.rows);
  same : processed_at g.K.Ord.cmp l.resource (locks_of l.self.rows) ≡ processed_at g.K.Ord.cmp l.resource (locks_of l.initial.self.rows);
}

abbrev pub decreases-loop-number : goal.decreases-loop-number
decreases-loop-number g l = length (numbers_where (waits_for g.K.Ord.cmp l.resource) l.self.rows)
