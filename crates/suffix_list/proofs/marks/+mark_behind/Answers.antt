use Rattle.std.proofs.Common.{◌≡◌, ◌∷◌, []}
use Rattle.std.proofs.lemmas.Result.{on_ok_weaker}
use Rattle.suffix_list.specs.Suffix.{labels_of}
use Rattle.suffix_list.specs.Names.{marks_at}
use Rattle.suffix_list.proofs.NoteLemmas.{behind_noted, behind_none}
use Rattle.suffix_list.proofs.marks.+mark_behind.Goals as goal

pub returns-in_ok-mark_inner-in_default-Some : goal.returns-in_ok-mark_inner-in_default-Some
returns-in_ok-mark_inner-in_default-Some t c =
    let split : labels_of c.args.name.now ≡ c.next_label.result.0.now ∷ labels_of c.in_default-Some.more.now = rw c.in_default-Some.is-1 at c.next_label.ensures.labels in
    on_ok_weaker c.mark_behind.result (λ later other.
    behind_noted c.args.name.now c.next_label.result.0.now c.in_default-Some.more.now other
    (marks_at c.args.names.now other) (marks_at c.mark_inner.new.names other) (marks_at c.mark_behind.new.names other) split
    (c.in_ok-mark_inner-in_default-Some.ensures other) (later other))
    c.mark_behind.ensures

pub returns-in_default-None : goal.returns-in_default-None
returns-in_default-None t c = λ other.
    let whole : labels_of c.args.name.now ≡ c.next_label.result.0.now ∷ [] = rw c.in_default-None.is-1 at c.next_label.ensures.labels in
    behind_none c.args.name.now c.next_label.result.0.now other (marks_at c.args.names.now other) whole
