use Rattle.std.proofs.Common.{◌-◌, ◌∙◌, ◌≡◌, ap, drop, length, arith}
use Rattle.suffix_list.specs.Suffix.{labels_of}
use Rattle.suffix_list.proofs.LabelLemmas.{some_label}
use Rattle.suffix_list.proofs.labels.last_labels.Goals as goal

pub returns-clause-labels : goal.returns-clause-labels
returns-clause-labels c some =
    let has = some_label c.args.name.now in
    let place : c.saturating_sub.result ≡ length (labels_of c.args.name.now) - c.args.count = c.saturating_sub.ensures ∙ ap (λ n. n - c.args.count) c.count_labels.ensures in
    c.labels_from.ensures.labels (omega (arith, place, has, some)) ∙ ap (λ n. drop n (labels_of c.args.name.now)) place
