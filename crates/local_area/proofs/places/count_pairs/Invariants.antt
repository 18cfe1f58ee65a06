-- The pairs are counted among the entries that were looked at.
use Rattle.std.proofs.Common.{◌≡◌, ◌+◌, take}
use Rattle.local_area.specs.Places.{count_of}
use Rattle.local_area.proofs.places.count_pairs.Given as goal

abbrev pub invariant-loop-place : goal.invariant-loop-place
invariant-loop-place l =
    count_of (take l.first l.entries.entries) + l.count ≡ count_of (take l.place l.entries.entries)
