use Rattle.std.proofs.Common.{◌+◌, arith, drop, flat_map, subst, sym, take, take_all}
use Rattle.agent_base.proofs.Logic.{on_err}
use Rattle.agent_base.specs.Streams.{Takes, TakesPrefix}
use Rattle.replay.specs.LineParts.{piece_text}
use Rattle.replay.proofs.PrefixLemmas.{pieces_at, prefix_then}
use Rattle.replay.proofs.told.write_pieces.Goals as goal

pub returns-in_err-write_piece-clause-prefix : goal.returns-in_err-write_piece-clause-prefix
returns-in_err-write_piece-clause-prefix g c =
    let pieces = c.args.pieces.now in
    let i = c.loop-piece.piece-index in
    let taken = g.E.Sink.taken in
    on_err c.from_residual.result
    (subst (TakesPrefix (taken c.args.err.now) (taken c.write_piece.new.err)) (sym (pieces_at piece_text pieces i _ c.loop-piece-test.true))
    (prefix_then (taken c.args.err.now) (taken c.loop-piece.err) (taken c.write_piece.new.err) (flat_map piece_text (take i pieces)) _ (flat_map piece_text (drop (i + 1) pieces)) c.loop-piece.invariant.taken c.in_err-write_piece.ensures.prefix))

pub returns-clause-all : goal.returns-clause-all
returns-clause-all g c =
    subst (λ ps. Takes (g.E.Sink.taken c.args.err.now) (g.E.Sink.taken c.loop-piece.err) (flat_map piece_text ps))
    (take_all c.loop-piece.piece-index c.args.pieces.now (omega (arith, c.loop-piece-test.false))) c.loop-piece.invariant.taken
