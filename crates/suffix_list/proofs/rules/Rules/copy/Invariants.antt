use Rattle.std.proofs.Common.{◌≡◌, map, take}
use Rattle.suffix_list.specs.Names.{plain_rule}
use Rattle.suffix_list.proofs.rules.Rules.copy.Given as goal

abbrev pub invariant-rules : goal.invariant-rules
invariant-rules l = l.rules ≡ map plain_rule (take l.rule-index l.rule-items)
