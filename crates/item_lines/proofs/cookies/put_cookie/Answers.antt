use Rattle.std.proofs.Common.{◌≡◌, to_z, of_z, w64, rules}
use Rattle.std.specs.Prelude.{string_bytes}
use Rattle.std.specs.Rc.{rc_value}
use Rattle.item_lines.proofs.MemberLemmas.{begun, after, after_plain}
use Rattle.item_lines.proofs.cookies.put_cookie.Goals as goal

pub returns : goal.returns
returns c =
    let t0 : to_z w64 (of_z w64 c.args.cookie.now.creation) ≡ c.args.cookie.now.creation = search rules in
    let f0 = rw t0 at c.in_ok-put_moment.ensures in
    let t1 : c.as_str.result.now ≡ string_bytes (rc_value c.args.cookie.now.identity).domain = search rules in
    let f1 = rw t1 at c.in_ok-put_text.ensures.puts in
    begun c.in_ok-begin.ensures.puts (after f0 (after_plain f1 (after c.in_ok-put_moment_or_null.ensures (after_plain c.in_ok-put_truth.ensures.puts (after_plain c.in_ok-put_truth-2.ensures.puts c.put_later.ensures)))))
