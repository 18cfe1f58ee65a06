-- The durable state stays.
use Rattle.row_store.proofs.PieceLemmas.{stays_standing}
use Rattle.row_store.proofs.rows.Rows.reserve.Goals as goal

pub invariant_of-self : goal.invariant_of-self
invariant_of-self c = stays_standing c.self.inside.parts c.reserve.new.self
    c.reserve.ensures.undone c.self.invariant
