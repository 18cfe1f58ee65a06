use Rattle.std.proofs.Common.{◌≡◌, List, ◌+◌, ◌≤◌, drop, length, map}
use Rattle.std.specs.Prelude.{max}
use Rattle.suffix_list.specs.declared.rules.KeptRule.{KeptRule}
use Rattle.suffix_list.specs.Suffix.{labels_of}
use Rattle.suffix_list.specs.Names.{BeginsLabel, TellsOf, longest, marks_at, plain_rule}
use Rattle.suffix_list.proofs.PassLemmas.{adds, excepts}
use Rattle.suffix_list.proofs.marks.suffix_labels.Given as goal

abbrev pub invariant-labels : goal.invariant-labels
invariant-labels l = record {
  begins : BeginsLabel l.host l.start;
  room : l.count + l.start ≤ length l.host + 1;
  here : l.here ≡ marks_at l.names (drop l.start l.host);
  count : l.count ≡ length (labels_of (drop l.start l.host));
  exceptions : (kept : List KeptRule) → TellsOf l.names kept → l.exception ≡ longest excepts (map plain_rule kept) (labels_of (drop l.start l.host));
  rules : (kept : List KeptRule) → TellsOf l.names kept → l.longest ≡ max 1 (longest adds (map plain_rule kept) (labels_of (drop l.start l.host)));
}

abbrev pub decreases-labels : goal.decreases-labels
decreases-labels l = l.start
