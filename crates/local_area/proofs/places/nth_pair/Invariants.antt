-- The pair is to be found among the entries that were not looked at.
use Rattle.std.proofs.Common.{◌≡◌, filter, drop}
use Rattle.std.specs.Prelude.{slice_get}
use Rattle.local_area.specs.Places.{is_pair}
use Rattle.local_area.proofs.places.nth_pair.Given as goal

abbrev pub invariant-loop-place : goal.invariant-loop-place
invariant-loop-place l =
    slice_get (filter is_pair (drop l.place l.entries.entries)) l.left
    ≡ slice_get (filter is_pair (drop l.first l.entries.entries)) l.n
