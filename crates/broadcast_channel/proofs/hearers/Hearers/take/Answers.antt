-- The queue that is there is emptied, and a channel that is not there has none.
use Rattle.std.proofs.Common.{ap, sym, ◌∙◌}
use Rattle.key_map.specs.Entries.{map_set}
use Rattle.key_map.proofs.EntriesLemmas.{map_set-missing}
use Rattle.broadcast_channel.specs.Queue.{empty_queue}
use Rattle.broadcast_channel.specs.Hearers.{by_id}
use Rattle.broadcast_channel.proofs.ViewLemmas.{by_id_total}
use Rattle.broadcast_channel.proofs.hearers.Hearers.take.Goals as goal
use Rattle.broadcast_channel.proofs.hearers.Hearers.take.Goals.{in-Some, in-None}

pub returns-clause-emptied : goal.returns-clause-emptied
returns-clause-emptied g c =
    let ids = by_id g.O.Ord.cmp in
    elim c.match-get_mut.branch [
      | in-Some w ↦
          rw (w.self-inside-is, ← c.self.view_is)
          ((c.get_mut.follows.holds w.take.new.self).0 ∙ ap (λ q. map_set ids c.args.id.now q c.self.inside.queues.entries) w.take.ensures.emptied)
      | in-None w ↦
          rw (w.self-inside-is, ← c.self.view_is)
          (ap (λ m. m.entries) c.get_mut.follows.holds-at-none
          ∙ sym (map_set-missing ids (by_id_total g.O.Ord.cmp g.met.O.Ord.total) c.args.id.now empty_queue c.self.inside.queues.entries (sym w.in-None.ensures.value)))
    ]
