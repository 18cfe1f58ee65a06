-- What contracts see of a command.
-- Source: none.
use Rattle.std.specs.Prelude.{option_map}
use Rattle.command_line.specs.Words.{PlainCommand}
use Rattle.command_line.specs.Words as plain
use Rattle.command_line.specs.declared.commands.Command.{Command}
use Rattle.command_line.specs.declared.commands.Command.TheVariants.{Help, Replay, Dump}
use Rattle.command_line.specs.declared.commands.Command.TheVariants.{Selftest, Twin}

-- a command
abbrev pub plain_command : Command → PlainCommand
plain_command Help = plain.Help
plain_command (Replay list store batch checkpoint start) =
    plain.Replay list.now (option_map (λ path. path.now) store) batch checkpoint start
plain_command (Twin site list batch checkpoint start) =
    plain.Twin site.now list.now batch checkpoint start
plain_command (Dump list store) = plain.Dump list.now store.now
plain_command (Selftest seed) = plain.Selftest seed
