-- The documents up to one have no requests, and fewer are left behind it.
use Rattle.std.proofs.Common.{length, filter}
use Rattle.key_map.specs.Entries.{is_after}
use Rattle.web_locks.specs.Index.{locks_of}
use Rattle.web_locks.specs.Owners.{label_order}
use Rattle.web_locks.proofs.OwnerLemmas.{ArePassed}
use Rattle.web_locks.proofs.requests.Requests.next_owner.Given as goal

abbrev pub invariant-loop-owner : goal.invariant-loop-owner
invariant-loop-owner g l = ArePassed l.fn.after l.last (locks_of l.self.rows)

abbrev pub decreases-loop-owner : goal.decreases-loop-owner
decreases-loop-owner g l = length (filter (λ e. is_after label_order l.last e.0) l.self.index.owners)
