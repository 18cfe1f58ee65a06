use Rattle.item_lines.proofs.MemberLemmas.{named}
use Rattle.item_lines.proofs.cookies.put_held_jar.Goals as goal

pub returns : goal.returns
returns c =
    named c.in_ok-key.ensures c.put_cell.ensures
