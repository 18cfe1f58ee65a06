use Rattle.std.proofs.Common.{Some, ap, ◌∙◌}
use Rattle.setcookie_parse.proofs.DaysLemmas.{sum_fits, moment_is}
use Rattle.setcookie_parse.proofs.date.moment.Goals as goal

pub overflow_add-result : goal.overflow_add-result
overflow_add-result c =
    let sum = sum_fits c.in-Some.start c.seconds.result c.from.result c.in-Some.ensures.range c.seconds.ensures.below c.from.ensures in
    sum.0

pub returns-in-Some : goal.returns-in-Some
returns-in-Some c =
    let sum = sum_fits c.in-Some.start c.seconds.result c.from.result c.in-Some.ensures.range c.seconds.ensures.below c.from.ensures in
    ap (λ z. Some z) sum.1
    ∙ moment_is c.args.time c.args.day c.args.month c.args.year c.in-Some.start c.in-Some.ensures.value
    c.if-year-lt1601.false c.if-year-gt9999.false c.if-time-gt23.false c.if-time-gt59.false c.if-time-gt59-2.false
    c.seconds.result c.seconds.ensures.value
