use Rattle.std.proofs.Common.{take}
use Rattle.disk_model.specs.Recovery.{IsSpoiled}
use Rattle.disk_model.proofs.recovery.spoil.Given as goal

abbrev pub invariant-loop-range : goal.invariant-loop-range
invariant-loop-range l = IsSpoiled l.fn.contents (take l.range-index l.ranges) l.contents
