use Rattle.std.proofs.Common.{◌≡◌, arith, ◌∙◌, ap, FitsSigned, w64}
use Rattle.std.specs.Prelude.{pos, ◌-ℤ◌, ◌*ℤ◌, int_div}
use Rattle.std.proofs.lemmas.Int.{ints, to_z-of_z}
use Rattle.jiff.specs.Words.{epoch_day}
use Rattle.jiff_core.specs.Calendar.{IsWithin}
use Rattle.jiff_core.proofs.DateLemmas.{epoch_day_range}
use Rattle.setcookie_parse.proofs.DaysLemmas.{div_days, epoch_zero}
use Rattle.setcookie_parse.proofs.date.seconds_to.Goals as goal

pub returns : goal.returns
returns c =
    let month : c.date.result.month ≡ 1 = cc in
    let day : c.date.result.day ≡ 1 = cc in
    let zero : epoch_day c.date.result ≡ pos 0 = rw (c.date.ensures.0, month, day) epoch_zero in
    let same : epoch_day c.args.day -ℤ epoch_day c.date.result ≡ epoch_day c.args.day = omega (arith, ints) in
    let value : c.as_secs.result ≡ epoch_day c.args.day *ℤ pos 86400 =
    c.as_secs.ensures ∙ ap (λ n. int_div n (pos 1000000000)) (c.duration_since.ensures ∙ ap (λ d. d *ℤ pos 86400000000000) same) ∙ div_days (epoch_day c.args.day) in
    let known = epoch_day_range c.args.day in
    let low = known.0 in
    let high = known.1 in
    let range : IsWithin 400000000000 c.as_secs.result = (omega (arith, ints), omega (arith, ints)) in
    let above = range.0 in
    let below = range.1 in
    let fits : FitsSigned w64 c.as_secs.result = omega (arith, ints) in
    let kept = to_z-of_z w64 c.as_secs.result fits in
    record { value = kept ∙ value; range = rw kept range }
