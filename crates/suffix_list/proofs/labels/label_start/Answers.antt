use Rattle.std.proofs.Common.{◌==◌, take, Some}
use Rattle.memchr.specs.Find.{IsLastByte}
use Rattle.suffix_list.proofs.LabelLemmas.{last_label, last_begins, labels_of-whole}
use Rattle.suffix_list.proofs.labels.label_start.Goals as goal

pub returns-in-Some-clause-begins : goal.returns-in-Some-clause-begins
returns-in-Some-clause-begins c =
    let last : IsLastByte (λ b. b == 46) (take c.args.end c.args.name.now) (Some c.in-Some.dot) = rw c.in-Some.is at (rw c.as_bytes.ensures.value at c.memrchr.ensures) in
    last_begins c.args.name.now c.args.end c.in-Some.dot last

pub returns-in-Some-clause-label : goal.returns-in-Some-clause-label
returns-in-Some-clause-label c = last_label (take c.args.end c.args.name.now) c.in-Some.dot (rw c.in-Some.is at (rw c.as_bytes.ensures.value at c.memrchr.ensures))

pub returns-in-None-clause-label : goal.returns-in-None-clause-label
returns-in-None-clause-label c = labels_of-whole (take c.args.end c.args.name.now) (rw c.in-None.is at (rw c.as_bytes.ensures.value at c.memrchr.ensures))
