use Rattle.std.proofs.Common.{IfSome, Option, map, string_bytes, subst, sym}
use Rattle.command_line.specs.Words.{PlainCommand, IsInRange}
use Rattle.command_line.proofs.CommandLemmas.{command_in_range}
use Rattle.command_line.proofs.commands.read_words.Goals as goal

pub returns-in-Some-clause-range : goal.returns-in-Some-clause-range
returns-in-Some-clause-range c =
    subst (λ (command : Option PlainCommand). IfSome command IsInRange) (sym c.in-Some.ensures)
    (command_in_range (map string_bytes c.args.words.now))
