use Rattle.item_lines.proofs.MemberLemmas.{begun, after_plain}
use Rattle.item_lines.proofs.lines.put_answer.Goals as goal

pub returns : goal.returns
returns c =
    let f1 = rw c.prompt_text.ensures at c.in_ok-put_text.ensures.puts in
    begun c.in_ok-begin.ensures.puts (after_plain f1 c.put_document.ensures)
