use Rattle.std.proofs.Common.{◌≡◌, ◌+◌, ◌*◌, min, take, get_or, arith, sym, ◌∙◌, ap}
use Rattle.std.specs.Char.{digit_value}
use Rattle.std.specs.Str.Parse.{digits_value}
use Rattle.std.proofs.lemmas.Int.Digits.{digits_value_more}
use Rattle.setcookie_parse.proofs.DigitsLemmas.{capped_more, digit_of}
use Rattle.setcookie_parse.proofs.digits.capped_number.Goals as goal

pub loop-digit-preserved : goal.loop-digit-preserved
loop-digit-preserved c =
    let digits = c.args.digits.now in
    let place = c.loop-digit.digit-index in
    let byte = digit_of (get_or digits place 0) (c.requires.digits place 0 c.loop-digit-test.true) in
    let more = digits_value_more 10 digits place c.loop-digit-test.true in
    let cut = capped_more (digits_value 10 (take place digits)) c.loop-digit.number (digit_value (get_or digits place 0)) c.args.limit c.loop-digit.invariant.1 in
    let digit : c.from.result ≡ digit_value (get_or digits place 0) = c.from.ensures ∙ sym byte in
    let value = c.min-number.ensures ∙ ap (λ n. min (c.loop-digit.number * 10 + n) c.args.limit) digit ∙ cut ∙ ap (λ n. min n c.args.limit) (sym more) in
    (omega (arith, c.min-number.ensures), value)
