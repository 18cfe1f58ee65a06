use Rattle.std.proofs.Common.{◌≡◌, rules}
use Rattle.std.specs.Prelude.{string_bytes}
use Rattle.item_lines.proofs.MemberLemmas.{after, after_plain, only}
use Rattle.item_lines.proofs.entries.put_arrival.Goals as goal

pub returns : goal.returns
returns c =
    let f1 = rw c.method_text.ensures at c.in_ok-put_text.ensures.puts in
    let t2 : c.as_str.result.now ≡ string_bytes c.args.url.now.text = search rules in
    let f2 = rw t2 at c.in_ok-put_text-2.ensures.puts in
    after_plain f1 (after c.in_ok-put_number.ensures (after_plain c.in_ok-put_truth.ensures.puts (after c.in_ok-put_number-2.ensures (after_plain f2 (only c.end.ensures.puts tt)))))
