use Rattle.std.proofs.Common.{◌≡◌, to_z, of_z, w64, rules}
use Rattle.row_lines.proofs.TokenLemmas.{joined}
use Rattle.row_lines.proofs.rows.put_cookie.Goals as goal

pub returns : goal.returns
returns c =
    let t0 : to_z w64 (of_z w64 c.args.expiry) ≡ c.args.expiry = search rules in
    let f0 = rw t0 at c.in_ok-put_marks.ensures in
    let s2 = joined f0 c.put_later.ensures in
    let s1 = joined c.in_ok-put_bit.ensures s2 in
    joined c.in_ok-begin.ensures.puts s1
