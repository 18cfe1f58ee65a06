use Rattle.std.proofs.Common.{arith, ◌∙◌}
use Rattle.agent_base.proofs.Pieces.{takes_more, same_piece}
use Rattle.agent_base.proofs.sink.write_all.Goals as goal

pub pieces-preserved : goal.pieces-preserved
pieces-preserved g c = record {
  still = c.in_ok-at.ensures.cause.still ∙ c.pieces.invariant.still;
  within = omega (arith, c.in_ok-at.ensures.bound);
  so_far = takes_more _ _ _ c.args.bytes.now c.pieces.at c.in_ok-at.field-0 c.pieces.invariant.so_far (rw same_piece at c.in_ok-at.ensures.bytes);
}
