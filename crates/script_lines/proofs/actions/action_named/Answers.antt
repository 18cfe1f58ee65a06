use Rattle.std.proofs.Common.{ap, bytes_eq, option_map, ◌∙◌}
use Rattle.script_lines.specs.Actions.{table}
use Rattle.script_lines.specs.Names.{row_of}
use Rattle.script_lines.proofs.NameLemmas.{first_value-map, names}
use Rattle.script_lines.proofs.actions.action_named.Goals as goal

pub returns : goal.returns
unfolding table
returns c = ap (option_map row_of) c.find.ensures.value ∙ first_value-map row_of (λ other. bytes_eq other c.args.name.now) names
