use Rattle.std.proofs.Common.{subst, sym}
use Rattle.item_lines.specs.Members.{PutsMember}
use Rattle.item_lines.specs.Parts.{moment_or_null}
use Rattle.item_lines.proofs.MemberLemmas.{only}
use Rattle.item_lines.proofs.numbers.put_moment_or_null.Goals as goal

pub returns-in-None : goal.returns-in-None
returns-in-None c =
    subst (λ moment. PutsMember c.put_null.result c.args.writer.now c.put_null.new.writer c.args.name.now (moment_or_null moment)) (sym c.in-None.is) (only c.put_null.ensures.puts tt)
