use Rattle.item_lines.proofs.MemberLemmas.{begun, after, after_plain, only}
use Rattle.item_lines.proofs.entries.put_end.Goals as goal

pub returns : goal.returns
returns c =
    begun c.in_ok-begin.ensures.puts (after c.in_ok-put_number.ensures (after_plain c.in_ok-put_text.ensures.puts (after c.in_ok-put_number-2.ensures (after c.in_ok-put_number-3.ensures (only c.end.ensures.puts tt)))))
