-- The closure offers the message to each queue.
use Rattle.std.proofs.Common.{rules}
use Rattle.broadcast_channel.specs.Hearers.{IsOfferedTo}
use Rattle.broadcast_channel.proofs.MapLemmas.{each-retained}
use Rattle.broadcast_channel.proofs.hearers.Hearers.offer.Goals as goal

pub returns : goal.returns
returns g c = record {
  offered =
      rw (← c.self.view_is)
      (each-retained _ (IsOfferedTo c.args.message.now) _ (λ k v b w f' t. search rules) c.self.inside.queues.entries c.retain.new.self.entries c.retain.ensures.filtered);
}
