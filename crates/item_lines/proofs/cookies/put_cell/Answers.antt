use Rattle.std.proofs.Common.{◌≡◌, rules}
use Rattle.std.specs.Prelude.{string_bytes}
use Rattle.item_lines.proofs.MemberLemmas.{begun, after, after_plain, only}
use Rattle.item_lines.proofs.cookies.put_cell.Goals as goal

pub returns : goal.returns
returns c =
    let t1 : c.as_str.result.now ≡ string_bytes c.args.held.now.domain = search rules in
    let f1 = rw t1 at c.in_ok-put_text.ensures.puts in
    begun c.in_ok-begin.ensures.puts (after c.in_ok-put_cookies.ensures (after_plain f1 (only c.end.ensures.puts tt)))
