use Rattle.setcookie_parse.proofs.DigitsLemmas.{leading_pass, leading_value}
use Rattle.setcookie_parse.proofs.token.leading_number.Goals as goal

pub capped_number-requires-clause-digits : goal.capped_number-requires-clause-digits
capped_number-requires-clause-digits c = rw c.leading_digits-count.ensures.count (leading_pass c.args.text.now)

pub returns-then-count-most : goal.returns-then-count-most
returns-then-count-most c =
    leading_value c.args.text.now c.args.least c.args.most c.leading_digits-count.result c.leading_digits-count.ensures.count c.if-least-count.true c.if-count-most.true c.requires c.capped_number.result c.capped_number.ensures
