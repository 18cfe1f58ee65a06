use Rattle.std.proofs.Common.{◌≡◌, ◌∙◌, ap, not, sym, ◌∷◌, [], ◌++◌}
use Rattle.std.specs.Prelude.{◌&&◌, bytes_eq, string_bytes, codes}
use Rattle.std.specs.Cmp.Lexicographic.{pointwise}
use Rattle.suffix_list.specs.Suffix.{labels_of}
use Rattle.suffix_list.proofs.KeptLemmas.{labels_eq}
use Rattle.suffix_list.proofs.NoteLemmas.{starred_name, starred_none}
use Rattle.suffix_list.proofs.marks.parent_of.Goals as goal

pub returns-then-eq : goal.returns-then-eq
returns-then-eq c = λ name.
    let split : labels_of c.as_str.result.now ≡ c.next_label.result.0.now ∷ labels_of c.in_default-Some.parent.now = rw c.in_default-Some.is-1 at c.next_label.ensures.labels in
    let star = sym c.eq.ensures ∙ c.if-eq.true in
    ap (λ b. not b && bytes_eq (string_bytes c.args.rule.now.name) (codes "*." ++ name)) c.if-rule.false
    ∙ starred_name (string_bytes c.args.rule.now.name) c.next_label.result.0.now (labels_of c.in_default-Some.parent.now) name (ap labels_of (sym c.as_str.ensures.value) ∙ split)
    ∙ ap (λ b. b && pointwise bytes_eq (labels_of c.in_default-Some.parent.now) (labels_of name)) star
    ∙ labels_eq c.in_default-Some.parent.now name
    ∙ sym (ap (λ p. bytes_eq p.now name) c.in_default-Some.parent-is)

pub returns-in_default-None : goal.returns-in_default-None
returns-in_default-None c = λ name.
    let whole : labels_of c.as_str.result.now ≡ c.next_label.result.0.now ∷ [] = rw c.in_default-None.is-1 at c.next_label.ensures.labels in
    ap (λ b. not b && bytes_eq (string_bytes c.args.rule.now.name) (codes "*." ++ name)) c.if-rule.false
    ∙ starred_name (string_bytes c.args.rule.now.name) c.next_label.result.0.now [] name (ap labels_of (sym c.as_str.ensures.value) ∙ whole)
    ∙ starred_none name (bytes_eq c.next_label.result.0.now (codes "*"))
