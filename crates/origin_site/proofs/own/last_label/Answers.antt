use Rattle.std.proofs.Common.{◌≡◌, ◌∙◌, ◌+◌, ◌<◌, ◌==◌, ap, sym, length, get_or, take, drop, Some, arith}
use Rattle.std.specs.List.{join_with_byte}
use Rattle.std.proofs.lemmas.Bool.{eqb-true}
use Rattle.std.proofs.lemmas.List.{take_all}
use Rattle.std.proofs.lemmas.Str.{lead_after_ascii}
use Rattle.memchr.specs.Find.{IsLastByte}
use Rattle.suffix_list.specs.Suffix.{last_of}
use Rattle.suffix_list.proofs.LabelLemmas.{labels_of-whole, last_begins, last_label}
use Rattle.origin_site.proofs.KindLemmas.{last_behind_dot, last_one}
use Rattle.origin_site.proofs.own.last_label.Goals as goal

pub range_from-requires : goal.range_from-requires
range_from-requires c above =
    let last : IsLastByte (λ b. b == 46) c.args.host.now (Some c.in-Some.dot) = rw c.in-Some.is at (rw c.as_bytes.ensures.value at c.memrchr.ensures) in
    let is : get_or c.args.host.now c.in-Some.dot 0 ≡ 46 = eqb-true _ 46 last.1 in
    let inside : c.in-Some.dot < length c.args.host.now = last.0.high in
    (omega arith, lead_after_ascii c.args.host.now c.in-Some.dot c.utf8.host (omega (arith, is)))

pub returns-in-Some : goal.returns-in-Some
returns-in-Some c =
    let host = c.args.host.now in
    let last : IsLastByte (λ b. b == 46) host (Some c.in-Some.dot) = rw c.in-Some.is at (rw c.as_bytes.ensures.value at c.memrchr.ensures) in
    let whole : take (length host) host ≡ host = take_all (length host) host (omega arith) in
    c.range_from.ensures.value
    ∙ last_behind_dot host (c.in-Some.dot + 1) (last_begins host (length host) c.in-Some.dot (rw whole last)) (last_label host c.in-Some.dot last)

pub returns-in-None : goal.returns-in-None
returns-in-None c =
    let one = labels_of-whole c.args.host.now (rw c.in-None.is at (rw c.as_bytes.ensures.value at c.memrchr.ensures)) in
    sym (ap (λ ls. join_with_byte 46 (last_of 1 ls)) one)
