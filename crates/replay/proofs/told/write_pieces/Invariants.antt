use Rattle.std.proofs.Common.{◌≡◌, flat_map, take}
use Rattle.agent_base.specs.Streams.{Takes}
use Rattle.replay.specs.LineParts.{piece_text}
use Rattle.replay.proofs.told.write_pieces.Given as goal

-- the texts of the pieces so far were taken, and no call has failed
abbrev pub invariant-loop-piece : goal.invariant-loop-piece
invariant-loop-piece g l = record {
  taken : Takes (g.E.Sink.taken l.fn.err) (g.E.Sink.taken l.err) (flat_map piece_text (take l.piece-index l.pieces));
  still : g.E.Sink.faults l.err ≡ g.E.Sink.faults l.fn.err;
}
