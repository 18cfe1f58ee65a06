use Rattle.item_lines.proofs.MemberLemmas.{after}
use Rattle.item_lines.proofs.entries.put_act_at.Goals as goal

pub returns : goal.returns
returns c =
    after c.in_ok-put_address.ensures c.put_act.ensures
