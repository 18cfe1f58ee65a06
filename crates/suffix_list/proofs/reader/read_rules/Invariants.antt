use Rattle.std.proofs.Common.{◌≡◌, ◌+◌, ◌≤◌, ◌<◌, length, []}
use Rattle.suffix_list.specs.ListText.{lines_of}
use Rattle.suffix_list.specs.Lines.{rules_from}
use Rattle.suffix_list.proofs.reader.read_rules.Given as goal

abbrev pub invariant-lines : goal.invariant-lines
invariant-lines l = record {
  number : l.number + length l.rest ≤ length l.bytes + 1;
  counted : 0 < l.number;
  same : rules_from l.number l.rules (lines_of l.rest) ≡ rules_from 1 [] (lines_of l.bytes);
}

abbrev pub decreases-lines : goal.decreases-lines
decreases-lines l = length l.rest
