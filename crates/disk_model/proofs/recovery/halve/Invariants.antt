use Rattle.std.proofs.Common.{◌≡◌, ◌++◌, take, drop}
use Rattle.disk_model.specs.Recovery.{halves}
use Rattle.disk_model.proofs.recovery.halve.Given as goal

abbrev pub invariant-loop-range : goal.invariant-loop-range
invariant-loop-range l = take l.range-index l.ranges ++ halves (drop l.range-index l.ranges) ≡ halves l.fn.ranges
