use Rattle.std.proofs.Common.{◌≡◌, rules}
use Rattle.std.specs.Prelude.{string_bytes}
use Rattle.item_lines.proofs.MemberLemmas.{begun, after, after_plain, only}
use Rattle.item_lines.proofs.addresses.put_parts.Goals as goal

pub returns : goal.returns
returns c =
    let t1 : c.as_str.result.now ≡ string_bytes c.args.url.now.host = search rules in
    let f1 = rw t1 at c.in_ok-put_text.ensures.puts in
    let t2 : c.as_str-2.result.now ≡ string_bytes c.args.url.now.path = search rules in
    let f2 = rw t2 at c.in_ok-put_text-2.ensures.puts in
    begun c.in_ok-begin.ensures.puts (after_plain f1 (after_plain c.in_ok-put_truth.ensures.puts (after_plain c.in_ok-put_truth-2.ensures.puts (after_plain f2 (after c.in_ok-put_number.ensures (only c.end.ensures.puts tt))))))
