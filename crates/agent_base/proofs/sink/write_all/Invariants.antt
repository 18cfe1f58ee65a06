use Rattle.std.proofs.Common.{◌≡◌, ◌≤◌, ◌-◌, length, take}
use Rattle.agent_base.specs.Streams.{Takes}
use Rattle.agent_base.proofs.sink.write_all.Given as goal

abbrev pub invariant-pieces : goal.invariant-pieces
invariant-pieces g l =
    let sink = g.K.Sink in
    record {
      still : sink.faults l.sink ≡ sink.faults l.fn.sink;
      within : l.at ≤ length l.bytes;
      so_far : Takes (sink.taken l.fn.sink) (sink.taken l.sink) (take l.at l.bytes);
    }

abbrev pub decreases-pieces : goal.decreases-pieces
decreases-pieces g l = length l.initial.bytes - l.at
