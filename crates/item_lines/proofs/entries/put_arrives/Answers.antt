use Rattle.item_lines.proofs.MemberLemmas.{begun, after, after_plain}
use Rattle.item_lines.proofs.entries.put_arrives.Goals as goal

pub returns : goal.returns
returns c =
    let f1 = rw c.load_text.ensures at c.in_ok-put_text-2.ensures.puts in
    begun c.in_ok-begin.ensures.puts (after c.in_ok-put_address.ensures (after c.in_ok-put_number.ensures (after_plain c.in_ok-put_text.ensures.puts (after c.in_ok-put_head.ensures (after c.in_ok-put_held.ensures (after_plain f1 c.put_arrival.ensures))))))
