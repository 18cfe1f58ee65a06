use Rattle.std.proofs.Common.{◌≡◌, rules}
use Rattle.std.specs.Prelude.{string_bytes}
use Rattle.item_lines.proofs.MemberLemmas.{begun, after, after_plain, only}
use Rattle.item_lines.proofs.lines.put_nav.Goals as goal

pub returns : goal.returns
returns c =
    let f1 = rw c.navigator_text.ensures at c.in_ok-put_text.ensures.puts in
    let f2 = rw c.method_text.ensures at c.in_ok-put_text-3.ensures.puts in
    let t3 : c.as_str.result.now ≡ string_bytes c.args.url.now.text = search rules in
    let f3 = rw t3 at c.in_ok-put_text-4.ensures.puts in
    begun c.in_ok-begin.ensures.puts (after_plain f1 (after_plain c.in_ok-put_text-2.ensures.puts (after c.in_ok-put_number.ensures (after c.in_ok-put_head.ensures (after_plain f2 (after c.in_ok-put_number-2.ensures (after_plain f3 (only c.end.ensures.puts tt))))))))
