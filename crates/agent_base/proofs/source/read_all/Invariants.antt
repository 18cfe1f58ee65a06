use Rattle.std.proofs.Common.{◌≡◌, ◌≤◌, length}
use Rattle.agent_base.specs.Streams.{Gives}
use Rattle.agent_base.proofs.source.read_all.Given as goal

abbrev pub invariant-pieces : goal.invariant-pieces
invariant-pieces g l =
    let source = g.S.Source in
    record {
      still : source.faults l.source ≡ source.faults l.fn.source;
      so_far : Gives (source.left l.fn.source) (source.left l.source) l.bytes.items;
      within : length l.bytes.items ≤ l.limit;
    }
