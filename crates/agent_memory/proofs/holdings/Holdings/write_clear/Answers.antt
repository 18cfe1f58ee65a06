-- An area without pairs has no row change.
use Rattle.std.proofs.Common.{Ok, ap, sym, refl}
use Rattle.storage_key.specs.Plain.{plain_key}
use Rattle.agent_model.specs.Changes.{durable_in}
use Rattle.agent_model.specs.Partition.{area_of}
use Rattle.agent_memory.specs.HoldingsView.{held_of}
use Rattle.agent_memory.proofs.WritesLemmas.{clears_none, clears_some, writes_as, writes_none}
use Rattle.agent_memory.proofs.holdings.Holdings.write_clear.Goals as goal

pub returns-then-not-has_pairs : goal.returns-then-not-has_pairs
returns-then-not-has_pairs c =
    let key = plain_key c.args.key.now in
    let pairs = area_of c.args.area c.args.tab key (held_of c.args.self.now) in
    record {
      limit = refl;
      changes = writes_none _ (clears_none c.args.area key pairs
          (sym c.if-not-has_pairs.ensures)) c.args.body.now.bytes (Ok (tt {0}));
    }

pub returns : goal.returns
returns c =
    let key = plain_key c.args.key.now in
    let pairs = area_of c.args.area c.args.tab key (held_of c.args.self.now) in
    record {
      limit = c.write_in.ensures.limit;
      changes =
          writes_as _ _ c.args.body.now.bytes c.write_in.new.body.bytes c.write_in.result
          (ap (durable_in c.args.area) (clears_some key pairs (sym c.if-not-has_pairs.ensures))) c.write_in.ensures.changes;
    }
