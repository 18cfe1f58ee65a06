use Rattle.std.proofs.Common.{◌≡◌, ◌+◌, ◌-◌, ◌<◌, ◌≤◌, [], Some, None, false, cond, length, drop, arith, ap, ◌∙◌, sym}
use Rattle.std.specs.Prelude.{bytes_eq}
use Rattle.std.specs.List.{join_with_byte}
use Rattle.std.proofs.lemmas.Bool.{both_ways, eq-eqb, false_from_ne_true}
use Rattle.std.proofs.lemmas.Slice.Eq.{bytes_eq-Decides}
use Rattle.suffix_list.specs.Suffix.{labels_of, last_labels}
use Rattle.suffix_list.proofs.LabelLemmas.{last_labels_all}
use Rattle.suffix_list.proofs.DomainLemmas.{last_labels_fewer}
use Rattle.suffix_list.proofs.labels.one_label_more.Goals as goal

pub returns-then-labels-count : goal.returns-then-labels-count
returns-then-labels-count c =
    let few : length (labels_of c.args.name.now) ≤ c.args.count = omega (arith, c.count_labels-labels.ensures, c.if-labels-count.true) in
    let whole = last_labels_all c.args.count c.args.name.now few in
    sym (ap (λ b. cond b None (Some (last_labels (c.args.count + 1) c.args.name.now))) ((bytes_eq-Decides _ _).1 whole))

pub returns : goal.returns
returns c =
    let fewer : c.args.count < length (labels_of c.args.name.now) = omega (arith, c.count_labels-labels.ensures, c.if-labels-count.false) in
    let some : (c.args.name.now ≡ []) → ⊥ = λ e. both_ways _ c.if-is_empty.false (c.is_empty.ensures ∙ eq-eqb _ 0 (ap length e)) in
    let other : bytes_eq (last_labels c.args.count c.args.name.now) c.args.name.now ≡ false = false_from_ne_true _ (λ e. last_labels_fewer c.args.count c.args.name.now fewer some ((bytes_eq-Decides _ _).0 e)) in
    let place : length (labels_of c.args.name.now) - (c.args.count + 1) ≡ c.count_labels-labels.result - c.args.count - 1 = omega (arith, c.count_labels-labels.ensures) in
    ap Some (c.labels_from.ensures.value ∙ ap (λ n. join_with_byte 46 (drop n (labels_of c.args.name.now))) (sym place))
    ∙ sym (ap (λ b. cond b None (Some (last_labels (c.args.count + 1) c.args.name.now))) other)
