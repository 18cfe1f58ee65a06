use Rattle.std.proofs.Common.{◌≡◌, length, map, string_bytes}
use Rattle.command_line.specs.Walk.{value_in}
use Rattle.command_line.proofs.options.value_named.Given as goal

abbrev pub invariant-pairs : goal.invariant-pairs
invariant-pairs l =
    value_in l.name (map string_bytes l.words) ≡ value_in l.name (map string_bytes l.rest)

abbrev pub decreases-pairs : goal.decreases-pairs
decreases-pairs l = length l.rest
