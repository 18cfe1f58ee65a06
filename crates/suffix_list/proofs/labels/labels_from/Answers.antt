use Rattle.std.proofs.Common.{◌≡◌, ◌∙◌, ap, sym, drop, length, length-drop, arith}
use Rattle.std.specs.List.{join_with_byte}
use Rattle.suffix_list.specs.Suffix.{labels_of}
use Rattle.suffix_list.proofs.LabelLemmas.{join_labels, behind_next, behind_last}
use Rattle.suffix_list.proofs.labels.labels_from.Goals as goal

pub labels-preserved : goal.labels-preserved
labels-preserved c = record {
  text = search;
  behind = sym (behind_next c.labels.counter (labels_of c.args.name.now) _ _ (sym c.labels.invariant.behind ∙ rw c.in_default-Some.is-1 at c.next_label.ensures.labels));
}

pub returns-in_default-None-clause-value : goal.returns-in_default-None-clause-value
returns-in_default-None-clause-value c =
    let none = behind_last c.labels.counter c.args.place (labels_of c.args.name.now) _ (sym c.labels.invariant.behind ∙ rw c.in_default-None.is-1 at c.next_label.ensures.labels) c.labels-test.true in
    ap (join_with_byte 46) (sym none)

pub returns-in_default-None-clause-labels : goal.returns-in_default-None-clause-labels
returns-in_default-None-clause-labels c fewer =
    let none = behind_last c.labels.counter c.args.place (labels_of c.args.name.now) _ (sym c.labels.invariant.behind ∙ rw c.in_default-None.is-1 at c.next_label.ensures.labels) c.labels-test.true in
    absurd (omega (arith, ap length none, length-drop c.args.place (labels_of c.args.name.now)))

pub returns-clause-value : goal.returns-clause-value
returns-clause-value c =
    let end : c.labels.counter ≡ c.args.place = omega (arith, c.labels.auto.counter-end, c.labels-test.false) in
    sym (join_labels c.labels.rest.now) ∙ ap (join_with_byte 46) (c.labels.invariant.behind ∙ ap (λ i. drop i (labels_of c.args.name.now)) end)
