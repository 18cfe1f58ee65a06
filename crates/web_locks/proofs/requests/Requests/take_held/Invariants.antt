-- What is left without those that hold the lock is the same, and one request less is there.
use Rattle.std.proofs.Common.{◌≡◌, length}
use Rattle.web_locks.specs.Kept.{HasThief, IsIndexed, without_held}
use Rattle.web_locks.proofs.requests.Requests.take_held.Given as goal

abbrev pub invariant-loop-number : goal.invariant-loop-number
invariant-loop-number g l = record {
  indexed : IsIndexed g.K.Ord.cmp l.self;
  thief : HasThief g.K.Ord.cmp l.resource l.self.rows;
  same : without_held g.K.Ord.cmp l.resource l.self.rows ≡ without_held g.K.Ord.cmp l.resource l.initial.self.rows;
}

abbrev pub decreases-loop-number : goal.decreases-loop-number
decreases-loop-number g l = length l.self.rows
