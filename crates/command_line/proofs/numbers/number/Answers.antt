use Rattle.std.proofs.Common.{◌≡◌, true, rules}
use Rattle.command_line.specs.Options.{is_number}
use Rattle.command_line.proofs.NumberLemmas.{number_past}
use Rattle.command_line.proofs.numbers.number.Goals as goal

pub returns-in-Err : goal.returns-in-Err
returns-in-Err c =
    let is : is_number c.args.text.now ≡ true = search rules in
    number_past c.args.text.now c.in-Err.field-0 c.args.first c.args.last is c.ranges.last.fits c.in-Err.ensures.value.0
