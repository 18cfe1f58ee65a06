use Rattle.std.proofs.Common.{Some}
use Rattle.setcookie_parse.proofs.KindLemmas.{kind_is}
use Rattle.setcookie_parse.proofs.attribute.attribute_of.Goals as goal

pub returns-in-Some-clause-kind : goal.returns-in-Some-clause-kind
returns-in-Some-clause-kind c =
    kind_is c.args.piece.now c.split_attribute.result.0.now c.split_attribute.result.1.now (Some c.in-Some.kind)
    c.split_attribute.ensures.name c.split_attribute.ensures.value c.if-value-gt-VALUE_LIMIT.false c.in-Some.ensures
