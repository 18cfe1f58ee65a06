use Rattle.std.proofs.Common.{◌≡◌, to_z, of_z, w64, rules}
use Rattle.item_lines.proofs.MemberLemmas.{only, short_moment}
use Rattle.item_lines.proofs.numbers.put_moment.Goals as goal

pub returns : goal.returns
returns c =
    let t0 : to_z w64 (of_z w64 c.args.moment) ≡ c.args.moment = search rules in
    let f0 = rw t0 at c.put_moment.ensures.puts in
    only f0 (short_moment c.args.moment c.ranges.moment.sfits)
