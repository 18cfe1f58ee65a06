use Rattle.row_store.proofs.PieceLemmas.{nothing_standing}
use Rattle.row_store.proofs.rows.RowsReplay.begin.Goals as goal

pub invariant_of-self : goal.invariant_of-self
invariant_of-self c = nothing_standing c.new.result c.new.ensures.saved c.new.ensures.sessions
