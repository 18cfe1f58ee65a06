use Rattle.std.proofs.Common.{ap, cond, drop, lit<}
use Rattle.std.proofs.lemmas.Str.Pattern.{strip_prefix_char}
use Rattle.suffix_list.specs.Suffix.{labels_of}
use Rattle.suffix_list.proofs.RuleLemmas.{unmarked}
use Rattle.suffix_list.proofs.rule.split_mark.Goals as goal

pub returns-in-None : goal.returns-in-None
returns-in-None c =
    let parts = rw c.in-None.is at (strip_prefix_char 33 c.args.text.now c.strip_prefix.result c.strip_prefix.ensures.cases (lit< tt)) in
    ap (λ b. record { is_exception = b; labels = labels_of (cond b (drop 1 c.args.text.now) c.args.text.now) }) (unmarked c.args.text.now parts)
