use Rattle.item_lines.proofs.LawLemmas.{ends_differ, items_differ, scripts_differ}
use Rattle.item_lines.proofs.laws.items_differ_as_their_lines_do.Goals as goal

pub returns-clause-items : goal.returns-clause-items
returns-clause-items c = items_differ

pub returns-clause-ends : goal.returns-clause-ends
returns-clause-ends c = ends_differ

pub returns-clause-scripts : goal.returns-clause-scripts
returns-clause-scripts c = scripts_differ
