-- The rows so far are noted, in a map that has as much room as before.
use Rattle.std.proofs.Common.{map, take}
use Rattle.access_grants.specs.Plain.{plain_grant}
use Rattle.access_grants.proofs.NoteLemmas.{AreNoted}
use Rattle.access_grants.proofs.grants.note_rows.Given as goal

abbrev pub invariant-loop-place : goal.invariant-loop-place
invariant-loop-place l = AreNoted l.fn.places l.places (map plain_grant (take l.place l.rows))
