-- What stays is read, and a snapshot can be made of it.
use Rattle.row_store.proofs.StayingLemmas.{migrated_standing}
use Rattle.row_store.proofs.rows.Rows.migrate.Goals as goal

pub invariant_of-self : goal.invariant_of-self
invariant_of-self c = migrated_standing c.args.list.now.rules c.self.inside.parts c.migrate.new.self
    c.migrate.ensures.state c.migrate.ensures.sessions c.self.invariant
