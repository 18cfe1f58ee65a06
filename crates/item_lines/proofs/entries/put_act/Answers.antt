use Rattle.item_lines.proofs.MemberLemmas.{after, after_plain, only}
use Rattle.item_lines.proofs.entries.put_act.Goals as goal

pub returns : goal.returns
returns c =
    after c.in_ok-put_number.ensures (after_plain c.in_ok-put_text.ensures.puts (after c.in_ok-put_held.ensures (after c.in_ok-put_line.ensures (after c.in_ok-put_number-2.ensures (only c.end.ensures.puts tt)))))
