use Rattle.std.proofs.Common.{◌≡◌, drop}
use denote.Text.{Utf8}
use denote.Shadow.{shadow}
use Rattle.suffix_list.specs.Suffix.{labels_of}
use Rattle.suffix_list.proofs.labels.labels_from.Given as goal

abbrev pub invariant-labels : goal.invariant-labels
invariant-labels l = record {
  text : shadow (Utf8 l.rest);
  behind : labels_of l.rest ≡ drop l.counter (labels_of l.name);
}
