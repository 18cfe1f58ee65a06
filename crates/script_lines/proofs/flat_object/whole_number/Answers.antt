use Rattle.std.proofs.Common.{◌≡◌, get_or, false, ◌==◌, sym, ap, ◌∙◌, IfSome, subst}
use Rattle.std.specs.Prelude.{Some}
use Rattle.fast_float.specs.Text.{scan}
use Rattle.serde_json.specs.Data.{unsigned}
use Rattle.serde_json.specs.Read.{number_of, number_from}
use Rattle.script_lines.proofs.flat_object.whole_number.Goals as goal

pub returns-else-has_minus : goal.returns-else-has_minus
unfolding number_of
returns-else-has_minus c =
    let s = c.as_bytes-bytes.result.now in
    let digit : (get_or s 0 0 == 45) ≡ false = sym c.has_minus.ensures ∙ c.if-has_minus.false in
    let read : number_from false (scan s) ≡ number_of s = rw digit in
    let same : number_from false c.scan.result ≡ number_of c.args.text.now = ap (number_from false) c.scan.ensures.parts ∙ read ∙ ap number_of c.as_bytes-bytes.ensures.value in
    subst (λ number. IfSome c.digits_of.result (λ n. number ≡ Some (unsigned n))) same c.digits_of.ensures
