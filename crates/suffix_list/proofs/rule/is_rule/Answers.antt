use Rattle.std.proofs.Common.{◌≡◌, ◌∙◌, ap, sym, ◌∷◌}
use Rattle.std.specs.Prelude.{◌&&◌}
use Rattle.std.specs.List.{list_all}
use Rattle.suffix_list.specs.Suffix.{labels_of}
use Rattle.suffix_list.specs.ListText.{is_label, is_rule}
use Rattle.suffix_list.proofs.LabelLemmas.{some_label}
use Rattle.suffix_list.proofs.RuleLemmas.{conditions_more}
use Rattle.suffix_list.proofs.rule.is_rule.Goals as goal

pub returns-then-first : goal.returns-then-first
returns-then-first c =
    let split : labels_of c.args.name.now ≡ c.next_label.result.0.now ∷ labels_of c.in-Some.more.now = rw c.in-Some.is at c.next_label.ensures.labels in
    c.all_labels.ensures
    ∙ ap (λ b. b && list_all is_label (labels_of c.in-Some.more.now)) (sym c.if-first.true)
    ∙ conditions_more c.args.is_exception c.next_label.result.0.now (labels_of c.in-Some.more.now) c.is_first-first.result (some_label c.in-Some.more.now) c.is_first-first.ensures
    ∙ ap (λ ls. is_rule (record { is_exception = c.args.is_exception; labels = ls })) (sym split)
