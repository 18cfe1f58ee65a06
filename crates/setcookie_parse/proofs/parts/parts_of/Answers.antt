use Rattle.std.proofs.Common.{◌∙◌}
use Rattle.setcookie_parse.proofs.FoundLemmas.{completed_step, completed_end}
use Rattle.setcookie_parse.proofs.parts.parts_of.Goals as goal

pub tokens-preserved : goal.tokens-preserved
tokens-preserved c =
    completed_step c.tokens.parts c.with_piece-parts.result c.tokens.rest.now c.next_piece.result.0.now c.in-Some.later.now
    c.with_piece-parts.ensures (rw c.in-Some.is at c.next_piece.ensures.pieces)
    ∙ c.tokens.invariant

pub returns-in-None : goal.returns-in-None
returns-in-None c =
    completed_end c.tokens.parts c.with_piece-parts.result c.tokens.rest.now c.next_piece.result.0.now
    c.with_piece-parts.ensures (rw c.in-None.is at c.next_piece.ensures.pieces)
    ∙ c.tokens.invariant
