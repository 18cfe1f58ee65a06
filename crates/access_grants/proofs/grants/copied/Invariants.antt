-- The rows so far are copied.
use Rattle.std.proofs.Common.{◌≡◌, map, take}
use Rattle.access_grants.specs.Plain.{plain_grant}
use Rattle.access_grants.proofs.grants.copied.Given as goal

abbrev pub invariant-loop-row : goal.invariant-loop-row
invariant-loop-row l = map plain_grant l.copies.items ≡ map plain_grant (take l.row-index l.rows)
