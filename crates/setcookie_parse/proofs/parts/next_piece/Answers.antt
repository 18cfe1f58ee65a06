use Rattle.setcookie_parse.specs.CookieDate.{is_delimiter}
use Rattle.setcookie_parse.proofs.SplitsLemmas.{split_at_place, split_last}
use Rattle.setcookie_parse.proofs.parts.next_piece.Goals as goal

pub returns-then-place-text-clause-pieces : goal.returns-then-place-text-clause-pieces
returns-then-place-text-clause-pieces c =
    split_at_place is_delimiter c.args.text.now c.first_delimiter-place.result c.first_delimiter-place.ensures.count c.if-place-text.true

pub returns-else-place-text-clause-pieces : goal.returns-else-place-text-clause-pieces
returns-else-place-text-clause-pieces c =
    split_last is_delimiter c.args.text.now c.first_delimiter-place.result c.first_delimiter-place.ensures.count c.if-place-text.false
