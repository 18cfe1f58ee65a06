-- The closure settles each queue.
use Rattle.std.proofs.Common.{rules}
use Rattle.broadcast_channel.specs.Hearers.{by_id, IsSettled}
use Rattle.broadcast_channel.proofs.MapLemmas.{each-retained}
use Rattle.broadcast_channel.proofs.hearers.Hearers.settle.Goals as goal

pub returns : goal.returns
returns g c = record {
  settled =
      rw (← c.self.view_is)
      (each-retained _ (IsSettled (by_id g.O.Ord.cmp) c.args.from.now c.args.ready) _ (λ k v b w f' t. search rules) c.self.inside.queues.entries c.retain.new.self.entries
      c.retain.ensures.filtered);
}
