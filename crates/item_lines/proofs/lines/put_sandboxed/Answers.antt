use Rattle.item_lines.proofs.MemberLemmas.{after_plain}
use Rattle.item_lines.proofs.lines.put_sandboxed.Goals as goal

pub returns : goal.returns
returns c =
    after_plain c.in_ok-put_text.ensures.puts c.put_place.ensures
