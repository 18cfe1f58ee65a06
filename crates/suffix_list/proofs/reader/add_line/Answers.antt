use Rattle.suffix_list.specs.Names.{plain_rule}
use Rattle.suffix_list.proofs.RuleLemmas.{rule_in-is_rule}
use Rattle.suffix_list.proofs.reader.add_line.Goals as goal

pub add-requires : goal.add-requires
add-requires c =
    let line = rw c.in-Ok-Some.field-0-is at c.in-Ok-Some.ensures in
    rule_in-is_rule c.args.line.now (plain_rule c.in-Ok-Some.rule) line.1
