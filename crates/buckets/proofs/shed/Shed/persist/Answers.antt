-- The bucket that is there is made persistent.
use Rattle.std.proofs.Common.{◌∙◌, ap, sym}
use Rattle.std.specs.Prelude.{unwrap_or}
use Rattle.key_map.specs.Entries.{map_set}
use Rattle.key_map.proofs.EntriesLemmas.{map_set-missing}
use Rattle.buckets.specs.Shed.{fresh_bucket, persistent_bucket, persisted}
use Rattle.buckets.proofs.shed.Shed.persist.Goals as goal
use Rattle.buckets.proofs.shed.Shed.persist.Goals.{in-Some, in-None}

pub returns-clause-persisted : goal.returns-clause-persisted
returns-clause-persisted g c = elim c.match-get_mut.branch [
  | in-Some w ↦
      rw (w.self-inside-is, rw w.in-Some.is at (c.get_mut.follows.holds w.persist_bucket.new.bucket), w.persist_bucket.ensures.persistent)
      (ap (λ o. map_set g.K.Ord.cmp c.args.key.now (persistent_bucket (unwrap_or o fresh_bucket)) c.self.inside.buckets) w.in-Some.ensures.value
      ∙ ap (persisted g.K.Ord.cmp c.args.key.now) c.self.view_is)
  | in-None w ↦
      rw (w.self-inside-is, c.get_mut.follows.holds-at-none)
      (sym (map_set-missing g.K.Ord.cmp g.met.K.Ord.total c.args.key.now _ c.self.inside.buckets (sym w.in-None.ensures.value))
      ∙ ap (persisted g.K.Ord.cmp c.args.key.now) c.self.view_is)
]
