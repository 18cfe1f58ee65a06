use Rattle.std.proofs.Common.{◌≡◌, refl, sym, ◌∙◌}
use Rattle.std.proofs.lemmas.Result.{IfErr-at_err}
use Rattle.line_session.proofs.RefusalLemmas.{fault_takes, fault_told}
use Rattle.line_session.proofs.reading.read.Goals as goal

pub returns-in-Err : goal.returns-in-Err
returns-in-Err c =
    let bytes = c.args.line.now in
    let one = sym c.is_one_line.ensures ∙ c.if-not-is_one_line.false in
    fault_told bytes c.in-Err.fault c.refused.result one c.in-Err.ensures.line
    (fault_takes bytes c.in-Err.fault one c.in-Err.ensures.blank
    (λ some long. IfErr-at_err (λ why. c.in-Err.fault ≡ why) (c.in-Err.ensures.too_long some long) refl)
    (λ some short broken. IfErr-at_err (λ why. c.in-Err.fault ≡ why) (c.in-Err.ensures.not_utf8 some short broken) refl))
    c.refused.ensures
