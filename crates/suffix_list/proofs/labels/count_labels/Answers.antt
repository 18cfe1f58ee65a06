use Rattle.std.proofs.Common.{rules, tests, ◌==◌, ◌∙◌, ◌+◌, sym, ap}
use Rattle.std.proofs.lemmas.Iterator.Consumers.{count_from_yields_List, YieldsList-from_filter}
use Rattle.std.proofs.lemmas.Iterator.{YieldsList-from_slice}
use Rattle.std.proofs.lemmas.List.Splits.{length-slice_split}
use Rattle.std.proofs.lemmas.List.Sums.{length-filter}
use Rattle.suffix_list.proofs.labels.count_labels.Goals as goal

pub returns : goal.returns
returns c =
    let counted = count_from_yields_List c.filter.result c.count.result c.count.ensures.ran (YieldsList-from_filter _ (λ b. b == 46) (YieldsList-from_slice c.args.name.now (cc)) c.filter.ensures.closure (λ x r q k. search (rules, tests))) in
    ap (λ n. n + 1) (counted ∙ length-filter (λ b. b == 46) c.args.name.now) ∙ sym (length-slice_split (λ b. b == 46) c.args.name.now)
