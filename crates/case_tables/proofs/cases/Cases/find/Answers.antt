use Rattle.std.proofs.Common.{bytes_eq, ◌∙◌}
use Rattle.case_tables.proofs.RowsLemmas.{first_value-rows}
use Rattle.case_tables.proofs.cases.Cases.find.Goals as goal

pub returns : goal.returns
returns g c = record { value = c.first_named.ensures ∙ first_value-rows (λ other. bytes_eq other c.args.name.now) c.args.self.now.rows.now }
