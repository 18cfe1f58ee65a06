use Rattle.std.proofs.Common.{map, subst, sym}
use Rattle.std.specs.Prelude.{codes, option_to_list}
use Rattle.local_scripts.specs.Items.{held_of}
use Rattle.item_lines.specs.Members.{PutsMember}
use Rattle.item_lines.specs.Parts.{held_data}
use Rattle.item_lines.proofs.MemberLemmas.{only}
use Rattle.item_lines.proofs.cookies.put_held.Goals as goal

pub returns-in-None : goal.returns-in-None
returns-in-None c =
    subst (λ held. PutsMember c.put_null.result c.args.writer.now c.put_null.new.writer (codes "held") (held_data (map held_of (option_to_list held)))) (sym c.in-None.is)
    (only c.put_null.ensures.puts tt)
