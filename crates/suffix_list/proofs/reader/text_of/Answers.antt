use Rattle.std.proofs.Common.{◌≤◌, length, arith, not}
use Rattle.std.proofs.lemmas.List.Sums.{prefix_len-le-length}
use Rattle.suffix_list.specs.ListText.{is_white}
use Rattle.suffix_list.proofs.reader.text_of.Goals as goal

pub range-requires-clause-end_boundary : goal.range-requires-clause-end_boundary
range-requires-clause-end_boundary c =
    let short = prefix_len-le-length (λ b. not (is_white b)) c.args.line.now in
    let within : c.text_len.result ≤ length c.args.line.now = omega (arith, short, c.text_len.ensures.len) in
    (within, λ below wide. absurd (omega (arith, c.text_len.ensures.cut below)))
