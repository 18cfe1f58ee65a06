use Rattle.item_lines.proofs.MemberLemmas.{begun, after, after_plain, only}
use Rattle.item_lines.proofs.lines.put_set.Goals as goal

pub returns : goal.returns
returns c =
    let f1 = rw c.area_text.ensures at c.in_ok-put_text.ensures.puts in
    begun c.in_ok-begin.ensures.puts (after_plain f1 (after_plain c.in_ok-put_text-2.ensures.puts (after c.in_ok-put_number.ensures (after_plain c.in_ok-put_text-3.ensures.puts (after c.in_ok-put_number-2.ensures (after_plain c.in_ok-put_text-4.ensures.puts (only c.end.ensures.puts tt)))))))
