use Rattle.item_lines.proofs.MemberLemmas.{begun}
use Rattle.item_lines.proofs.lines.put_bare.Goals as goal

pub returns : goal.returns
returns c =
    begun c.in_ok-begin.ensures.puts c.put_document.ensures
