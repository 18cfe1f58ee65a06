use Rattle.std.proofs.Common.{◌≡◌, rules}
use Rattle.std.specs.Prelude.{string_bytes}
use Rattle.item_lines.proofs.MemberLemmas.{after, after_plain, only}
use Rattle.item_lines.proofs.lines.put_place.Goals as goal

pub returns : goal.returns
returns c =
    let t1 : c.as_str.result.now ≡ string_bytes c.args.url.now.text = search rules in
    let f1 = rw t1 at c.in_ok-put_text.ensures.puts in
    after c.in_ok-put_number.ensures (after_plain f1 (only c.end.ensures.puts tt))
