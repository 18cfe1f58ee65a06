use Rattle.std.proofs.Common.{◌≡◌, rules}
use Rattle.std.specs.Prelude.{string_bytes}
use Rattle.std.specs.Rc.{rc_value}
use Rattle.row_lines.proofs.TokenLemmas.{joined}
use Rattle.row_lines.proofs.rows.put_later.Goals as goal

pub returns : goal.returns
returns c =
    let f0 = rw (c.same_site_text.ensures.name) at c.in_ok-put_text-4.ensures.puts in
    let t1 : c.as_str.result.now ≡ string_bytes (rc_value c.args.cookie.now.identity).name = search rules in
    let f1 = rw t1 at c.in_ok-put_text.ensures.puts in
    let t2 : c.as_str-2.result.now ≡ string_bytes (rc_value c.args.cookie.now.identity).path = search rules in
    let f2 = rw t2 at c.in_ok-put_text-2.ensures.puts in
    let t3 : c.as_str-3.result.now ≡ string_bytes (rc_value c.args.cookie.now.value) = search rules in
    let f3 = rw t3 at c.in_ok-put_text-5.ensures.puts in
    let s6 = joined f3 c.end.ensures.puts in
    let s5 = joined c.in_ok-put_top.ensures s6 in
    let s4 = joined c.in_ok-put_truth.ensures.puts s5 in
    let s3 = joined f0 s4 in
    let s2 = joined c.in_ok-put_text-3.ensures.puts s3 in
    let s1 = joined f2 s2 in
    joined f1 s1
