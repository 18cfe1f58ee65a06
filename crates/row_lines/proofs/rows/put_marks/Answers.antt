use Rattle.std.proofs.Common.{◌≡◌, to_z, of_z, w64, rules}
use Rattle.std.specs.Prelude.{string_bytes}
use Rattle.std.specs.Rc.{rc_value}
use Rattle.row_lines.proofs.TokenLemmas.{joined}
use Rattle.row_lines.proofs.rows.put_marks.Goals as goal

pub returns : goal.returns
returns c =
    let t0 : to_z w64 (of_z w64 c.args.cookie.now.creation) ≡ c.args.cookie.now.creation = search rules in
    let f0 = rw t0 at c.in_ok-put_moment.ensures.puts in
    let t1 : to_z w64 (of_z w64 c.args.expiry) ≡ c.args.expiry = search rules in
    let f1 = rw t1 at c.in_ok-put_moment-2.ensures.puts in
    let t2 : c.as_str.result.now ≡ string_bytes (rc_value c.args.cookie.now.identity).domain = search rules in
    let f2 = rw t2 at c.in_ok-put_text.ensures.puts in
    joined f0 (joined f2 (joined f1 (joined c.in_ok-put_truth.ensures.puts c.put_truth-2.ensures.puts)))
