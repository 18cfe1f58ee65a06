use Rattle.std.proofs.Common.{◌≡◌, ◌++◌, drop, take}
use Rattle.hosts.specs.Entries.{found_at, without_first}
use Rattle.hosts.proofs.entries.place_of.Given as goal

-- the value of the path is among those that are left, and is the first one of its path there
abbrev pub invariant-loop-place : goal.invariant-loop-place
invariant-loop-place g l = record {
  value : found_at (drop l.place l.entries) l.path ≡ found_at l.entries l.path;
  first : without_first l.entries l.path ≡ take l.place l.entries ++ without_first (drop l.place l.entries) l.path;
}
