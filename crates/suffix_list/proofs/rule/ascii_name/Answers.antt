use Rattle.std.proofs.Common.{◌≡◌, ◌∙◌, sym, ap, ◌∷◌, ⊎_elim, inl, inr}
use Rattle.std.specs.Prelude.{bytes_eq, codes, option_map, string_bytes, Some}
use Rattle.std.proofs.lemmas.Bool.{not-true, not-false}
use Rattle.std.proofs.lemmas.Result.{err_from_is_err_and}
use Rattle.std.proofs.lemmas.Slice.Eq.{bytes_eq-Decides}
use Rattle.suffix_list.specs.Suffix.{labels_of}
use Rattle.suffix_list.proofs.RuleLemmas.{ascii_whole, ascii_starred, labels_answer}
use Rattle.suffix_list.proofs.rule.ascii_name.Goals as goal

pub returns-then-ne : goal.returns-then-ne
returns-then-ne c =
    labels_answer c.to_ascii.result _ _
    (ascii_whole c.args.name.now c.next_label.result.0.now _ c.next_label.ensures.labels (not-true (bytes_eq c.next_label.result.0.now (codes "*")) (sym c.ne.ensures ∙ c.if-ne.true)))
    c.to_ascii.ensures

pub returns-in_err-ascii-in-Some : goal.returns-in_err-ascii-in-Some
returns-in_err-ascii-in-Some c =
    let split : labels_of c.args.name.now ≡ c.next_label.result.0.now ∷ labels_of c.in-Some.parent.now = rw c.in-Some.is at c.next_label.ensures.labels in
    let is = ascii_starred c.args.name.now c.next_label.result.0.now c.in-Some.parent.now split (not-false (bytes_eq c.next_label.result.0.now (codes "*")) (sym c.ne.ensures ∙ c.if-ne.false)) in
    let p = err_from_is_err_and c.from_residual.result c.from_residual.ensures.1 in
    rw (p.1, p.2) (⊎_elim (λ memory. inl memory) (λ none. inr (is ∙ ap (λ o. option_map (λ more. c.next_label.result.0.now ∷ more) (option_map labels_of o)) none)) c.in_err-ascii-in-Some.ensures)

pub returns-in_ok-format-in-Some : goal.returns-in_ok-format-in-Some
returns-in_ok-format-in-Some c =
    let split : labels_of c.args.name.now ≡ c.next_label.result.0.now ∷ labels_of c.in-Some.parent.now = rw c.in-Some.is at c.next_label.ensures.labels in
    let is = ascii_starred c.args.name.now c.next_label.result.0.now c.in-Some.parent.now split (not-false (bytes_eq c.next_label.result.0.now (codes "*")) (sym c.ne.ensures ∙ c.if-ne.false)) in
    let star = (bytes_eq-Decides c.next_label.result.0.now (codes "*")).0 (not-false (bytes_eq c.next_label.result.0.now (codes "*")) (sym c.ne.ensures ∙ c.if-ne.false)) in
    is ∙ ap (λ o. option_map (λ more. c.next_label.result.0.now ∷ more) (option_map labels_of o)) c.in_ok-ascii-in-Some.ensures
    ∙ ap (λ label. Some (label ∷ labels_of (string_bytes c.in_ok-ascii-in-Some.ascii))) star
    ∙ ap (λ bs. Some (labels_of bs)) (sym c.in_ok-format-in-Some.ensures.ok)
