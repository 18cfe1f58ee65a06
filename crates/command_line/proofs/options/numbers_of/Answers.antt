use Rattle.std.proofs.Common.{ap, ◌∙◌}
use Rattle.command_line.specs.Options.{checkpoint_of}
use Rattle.command_line.proofs.options.numbers_of.Goals as goal

pub returns-clause-checkpoint : goal.returns-clause-checkpoint
returns-clause-checkpoint c = c.checkpoint_of.ensures ∙ ap checkpoint_of c.value_named-2.ensures
