use Rattle.std.proofs.Common.{arith, ◌≤◌, length}
use Rattle.setcookie_parse.proofs.trim.trim_end.Goals as goal

pub range-requires-clause-end_boundary : goal.range-requires-clause-end_boundary
range-requires-clause-end_boundary c =
    let within : c.len_without_blanks.result ≤ length c.args.text.now = omega (arith, c.len_without_blanks.ensures.len) in
    (within, λ below wide. absurd (omega (arith, c.len_without_blanks.ensures.cut below)))
