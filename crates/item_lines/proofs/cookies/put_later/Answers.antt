use Rattle.std.proofs.Common.{◌≡◌, to_z, of_z, w64, rules}
use Rattle.std.specs.Prelude.{string_bytes}
use Rattle.std.specs.Rc.{rc_value}
use Rattle.item_lines.proofs.MemberLemmas.{after, after_plain, only}
use Rattle.item_lines.proofs.cookies.put_later.Goals as goal

pub returns : goal.returns
returns c =
    let t0 : to_z w64 (of_z w64 c.args.cookie.now.last) ≡ c.args.cookie.now.last = search rules in
    let f0 = rw t0 at c.in_ok-put_moment.ensures in
    let t1 : c.as_str.result.now ≡ string_bytes (rc_value c.args.cookie.now.identity).name = search rules in
    let f1 = rw t1 at c.in_ok-put_text.ensures.puts in
    let t2 : c.as_str-2.result.now ≡ string_bytes (rc_value c.args.cookie.now.identity).path = search rules in
    let f2 = rw t2 at c.in_ok-put_text-2.ensures.puts in
    let f3 = rw c.same_site_text.ensures.name at c.in_ok-put_text-3.ensures.puts in
    let t4 : c.as_str-3.result.now ≡ string_bytes (rc_value c.args.cookie.now.value) = search rules in
    let f4 = rw t4 at c.in_ok-put_text-4.ensures.puts in
    after f0 (after_plain f1 (after_plain f2 (after_plain f3 (after_plain c.in_ok-put_truth.ensures.puts (after_plain f4 (only c.end.ensures.puts tt))))))
