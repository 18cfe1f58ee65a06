-- All channels but the one that a message is posted on, where it is there.
use Rattle.std.proofs.Common.{arith}
use Rattle.broadcast_channel.specs.Hearers.{by_id}
use Rattle.broadcast_channel.proofs.MapLemmas.{length-parts}
use Rattle.broadcast_channel.proofs.ViewLemmas.{by_id_total}
use Rattle.broadcast_channel.proofs.hearers.Hearers.others.Goals as goal

pub returns-in-Ok-clause-others : goal.returns-in-Ok-clause-others
returns-in-Ok-clause-others g c =
    rw (← c.self.view_is)
    (grind (
      arith,
      c.in-Ok.ensures.1,
      c.saturating_sub.ensures,
      c.from-own.ensures,
      c.len-all.ensures.len,
      c.contains.ensures.contains,
      length-parts (by_id g.O.Ord.cmp) (by_id_total g.O.Ord.cmp g.met.O.Ord.total) c.args.from.now c.self.inside.queues.entries c.len-all.ensures.ordered,
    ))
