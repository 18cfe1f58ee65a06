use Rattle.std.proofs.Common.{IfSome, Option, map, string_bytes, subst, sym}
use Rattle.command_line.specs.Shows.{IsShowInRange, PlainShow}
use Rattle.command_line.proofs.ShowLemmas.{show_in_range}
use Rattle.command_line.proofs.shows.read_show_words.Goals as goal

pub returns-clause-range : goal.returns-clause-range
returns-clause-range c =
    subst (λ (command : Option PlainShow). IfSome command IsShowInRange) (sym c.show_in.ensures)
    (show_in_range (map string_bytes c.args.words.now))
