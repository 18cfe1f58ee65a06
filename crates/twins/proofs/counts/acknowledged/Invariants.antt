-- The replies of the items so far are counted.
use Rattle.std.proofs.Common.{◌≡◌, map, take}
use Rattle.local_scripts.specs.Items.{item_of}
use Rattle.script_courses.specs.Twins.{acknowledged_in}
use Rattle.twins.proofs.counts.acknowledged.Given as goal

abbrev pub invariant-loop-item : goal.invariant-loop-item
invariant-loop-item l = l.count ≡ acknowledged_in (map item_of (take l.item-index l.items))
