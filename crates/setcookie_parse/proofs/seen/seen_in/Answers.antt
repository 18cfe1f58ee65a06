use Rattle.std.proofs.Common.{◌∙◌, rules}
use Rattle.setcookie_parse.specs.AttributesSoFar.{plain_seen}
use Rattle.setcookie_parse.proofs.SeenLemmas.{seen_step, seen_end}
use Rattle.setcookie_parse.proofs.seen.seen_in.Goals as goal

pub pieces-preserved : goal.pieces-preserved
pieces-preserved c = record {
  text = search rules;
  same =
      seen_step (plain_seen c.pieces.seen) (plain_seen c.with_piece-seen.result) c.pieces.rest.now c.next_piece.result.0.now c.in-Some.later.now
      c.with_piece-seen.ensures (rw c.in-Some.is at c.next_piece.ensures.pieces)
      ∙ c.pieces.invariant.same;
}

pub returns-in-None : goal.returns-in-None
returns-in-None c =
    seen_end (plain_seen c.pieces.seen) (plain_seen c.with_piece-seen.result) c.pieces.rest.now c.next_piece.result.0.now
    c.with_piece-seen.ensures (rw c.in-None.is at c.next_piece.ensures.pieces)
    ∙ c.pieces.invariant.same
