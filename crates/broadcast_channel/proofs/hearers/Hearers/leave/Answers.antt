-- The channel's queue is taken out.
use Rattle.std.proofs.Common.{ap, ◌∙◌}
use Rattle.key_map.specs.Entries.{map_remove}
use Rattle.key_map.proofs.EntriesLemmas.{map_remove-first}
use Rattle.broadcast_channel.specs.Hearers.{by_id}
use Rattle.broadcast_channel.proofs.ViewLemmas.{by_id_total}
use Rattle.broadcast_channel.proofs.hearers.Hearers.leave.Goals as goal

pub returns : goal.returns
returns g c = record {
  left =
      c.remove.ensures.entries
      ∙ map_remove-first (by_id g.O.Ord.cmp) (by_id_total g.O.Ord.cmp g.met.O.Ord.total) c.args.id.now c.self.inside.queues.entries c.len.ensures.ordered
      ∙ ap (map_remove (by_id g.O.Ord.cmp) c.args.id.now) c.self.view_is;
}
