use Rattle.std.proofs.Common.{◌≡◌, ◌+◌, ◌∙◌, ap, [], ◌∷◌, inl, inr, ⊎_elim, option_copied}
use Rattle.std.proofs.lemmas.Result.{err_from_is_err_and}
use Rattle.suffix_list.specs.ListText.{lines_of}
use Rattle.suffix_list.specs.Lines.{lines_after, rules_from, unless_faulty}
use Rattle.suffix_list.proofs.LineLemmas.{scan_step}
use Rattle.suffix_list.proofs.reader.read_rules.Goals as goal

pub returns-in_err-rules : goal.returns-in_err-rules
returns-in_err-rules c =
    let behind = lines_after (option_copied c.next_line.result.1) in
    let is = scan_step c.args.bytes.now c.lines.rest.now c.lines.number c.lines.rules c.next_line.result.0.now behind c.lines.invariant.same c.next_line.ensures.lines in
    let p = err_from_is_err_and c.from_residual.result c.from_residual.ensures.1 in
    rw (p.1, p.2) (⊎_elim (λ memory. inl memory) (λ fault. inr (is ∙ ap (unless_faulty (λ more. rules_from (c.lines.number + 1) more behind)) fault)) c.in_err-rules.ensures)

pub returns-in-None : goal.returns-in-None
returns-in-None c =
    let split : lines_of c.lines.rest.now ≡ c.next_line.result.0.now ∷ [] = rw c.in-None.is at c.next_line.ensures.lines in
    scan_step c.args.bytes.now c.lines.rest.now c.lines.number c.lines.rules c.next_line.result.0.now [] c.lines.invariant.same split
    ∙ ap (unless_faulty (λ more. rules_from (c.lines.number + 1) more [])) c.in_ok-rules.ensures
