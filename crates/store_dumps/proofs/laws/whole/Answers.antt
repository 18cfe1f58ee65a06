use Rattle.store_dumps.proofs.RowLemmas.{each_row}
use Rattle.store_dumps.proofs.laws.whole.Goals as goal

pub returns : goal.returns
returns c = record { rows = each_row }
