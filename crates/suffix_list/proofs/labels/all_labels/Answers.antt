use Rattle.std.proofs.Common.{lit<, rules}
use Rattle.std.proofs.lemmas.Iterator.Search.{all_from_yields_List}
use Rattle.std.proofs.lemmas.Iterator.Splits.{YieldsList-from_str_split}
use Rattle.suffix_list.specs.ListText.{is_label}
use Rattle.suffix_list.proofs.labels.all_labels.Goals as goal

pub returns : goal.returns
returns c = all_from_yields_List is_label _ _ c.all.result c.all.ensures.ran (YieldsList-from_str_split 46 c.args.name.now (lit< tt) c.split.ensures.text c.split.ensures.has_more c.split.ensures.pattern) (λ x b q k. search rules)
