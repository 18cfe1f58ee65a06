use Rattle.row_store.proofs.PieceLemmas.{nothing_standing}
use Rattle.row_store.proofs.rows.Rows.new.Goals as goal

pub invariant_of-result : goal.invariant_of-result
invariant_of-result c = nothing_standing c.new.result c.new.ensures.saved c.new.ensures.sessions
