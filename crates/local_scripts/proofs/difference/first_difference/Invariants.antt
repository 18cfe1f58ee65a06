use Rattle.std.proofs.Common.{◌≡◌, take, map}
use Rattle.local_scripts.specs.Items.{item_of}
use Rattle.local_scripts.proofs.difference.first_difference.Given as goal

abbrev pub invariant-loop-place : goal.invariant-loop-place
invariant-loop-place l = take l.place (map item_of l.a) ≡ take l.place (map item_of l.b)
