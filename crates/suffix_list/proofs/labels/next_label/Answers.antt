use Rattle.std.proofs.Common.{rules, ◌≡◌, ◌+◌, ◌<◌, ◌==◌, length, get_or, take, drop, Some, arith}
use Rattle.std.proofs.lemmas.Bool.{eqb-true}
use Rattle.std.proofs.lemmas.Str.{lead_after_ascii}
use Rattle.memchr.specs.Find.{IsFirstByte}
use Rattle.suffix_list.proofs.LabelLemmas.{labels_of-dotted, labels_of-whole}
use Rattle.suffix_list.proofs.labels.next_label.Goals as goal

pub range_from-requires : goal.range_from-requires
range_from-requires c above =
    let first : IsFirstByte (λ b. b == 46) c.args.name.now (Some c.in-Some.dot) = rw c.in-Some.is at (rw c.as_bytes.ensures.value at c.memchr.ensures) in
    let is : get_or c.args.name.now c.in-Some.dot 0 ≡ 46 = eqb-true _ 46 first.1 in
    let inside : c.in-Some.dot < length c.args.name.now = first.0.high in
    (omega arith, lead_after_ascii c.args.name.now c.in-Some.dot c.utf8.name (omega (arith, is)))

pub returns-in-Some-clause-labels : goal.returns-in-Some-clause-labels
returns-in-Some-clause-labels c =
    let first : IsFirstByte (λ b. b == 46) c.args.name.now (Some c.in-Some.dot) = rw c.in-Some.is at (rw c.as_bytes.ensures.value at c.memchr.ensures) in
    let label : c.range.result.now ≡ take c.in-Some.dot c.args.name.now = search rules in
    let rest : c.range_from.result.now ≡ drop (c.in-Some.dot + 1) c.args.name.now = c.range_from.ensures.value in
    rw label (rw rest (labels_of-dotted c.args.name.now c.in-Some.dot first))

pub returns-in-None-clause-labels : goal.returns-in-None-clause-labels
returns-in-None-clause-labels c = labels_of-whole c.args.name.now (rw c.in-None.is at (rw c.as_bytes.ensures.value at c.memchr.ensures))
