use Rattle.std.proofs.Common.{take, ◌≤◌, vec_capacity}
use Rattle.disk_model.specs.MediumBuffers.{IsPlaced}
use Rattle.disk_model.proofs.recovery.keep_each.Given as goal

abbrev pub invariant-loop-range : goal.invariant-loop-range
invariant-loop-range l = record {
  placed : IsPlaced l.fn.synced.items l.contents (take l.range-index l.ranges) l.synced.items;
  capacity : vec_capacity l.fn.synced ≤ vec_capacity l.synced;
}
