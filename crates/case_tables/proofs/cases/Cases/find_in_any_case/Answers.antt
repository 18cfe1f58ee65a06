use Rattle.std.proofs.Common.{◌∙◌}
use Rattle.case_tables.specs.Rows.{same_in_any_case}
use Rattle.case_tables.proofs.RowsLemmas.{first_value-rows}
use Rattle.case_tables.proofs.cases.Cases.find_in_any_case.Goals as goal

pub returns : goal.returns
returns g c =
    record { value = c.first_named_in_any_case.ensures ∙ first_value-rows (λ other. same_in_any_case other c.args.name.now) c.args.self.now.rows.now }
