use Rattle.std.proofs.Common.{◌≡◌, to_z, of_z, w64, rules}
use Rattle.row_lines.proofs.TokenLemmas.{joined}
use Rattle.row_lines.proofs.rows.put_grant.Goals as goal

pub returns : goal.returns
returns c =
    let t0 : to_z w64 (of_z w64 c.args.row.now.until) ≡ c.args.row.now.until = search rules in
    let f0 = rw t0 at c.in_ok-put_moment.ensures.puts in
    joined c.in_ok-begin.ensures.puts (joined c.in_ok-put_truth.ensures.puts (joined c.in_ok-put_text.ensures.puts (joined c.in_ok-put_site.ensures (joined c.in_ok-put_site-2.ensures (joined f0 c.end.ensures.puts)))))
