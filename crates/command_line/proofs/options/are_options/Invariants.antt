use Rattle.std.proofs.Common.{◌≡◌, is_some, length, map, string_bytes}
use Rattle.command_line.specs.Options.{options_of}
use Rattle.command_line.proofs.options.are_options.Given as goal

abbrev pub invariant-pairs : goal.invariant-pairs
invariant-pairs l =
    is_some (options_of (map string_bytes l.words)) ≡ is_some (options_of (map string_bytes l.rest))

abbrev pub decreases-pairs : goal.decreases-pairs
decreases-pairs l = length l.rest
