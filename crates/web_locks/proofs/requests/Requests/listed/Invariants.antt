-- What is listed, and the rest behind a number, are all of the document's.
use Rattle.std.proofs.Common.{◌≡◌, ◌++◌, length, map}
use Rattle.web_locks.specs.Index.{locks_of}
use Rattle.web_locks.specs.Kept.{rest_of}
use Rattle.web_locks.specs.Plain.{plain_row}
use Rattle.web_locks.specs.Requests.{lock_rows}
use Rattle.web_locks.proofs.requests.Requests.listed.Given as goal

abbrev pub invariant-loop-number : goal.invariant-loop-number
invariant-loop-number g l =
    map plain_row l.rows.items ++ rest_of l.owner l.after l.self.rows ≡ lock_rows l.owner (locks_of l.self.rows)

abbrev pub decreases-loop-number : goal.decreases-loop-number
decreases-loop-number g l = length (rest_of l.owner l.after l.self.rows)
