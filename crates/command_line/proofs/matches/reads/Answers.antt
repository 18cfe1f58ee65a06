use Rattle.std.proofs.Common.{ap, map, string_bytes, ◌∙◌}
use Rattle.command_line.specs.Plain.{plain_command}
use Rattle.command_line.specs.Program.{is_found}
use Rattle.command_line.proofs.ConfirmLemmas.{command_read}
use Rattle.command_line.proofs.matches.reads.Goals as goal

pub returns-in-Ok-clause-finds : goal.returns-in-Ok-clause-finds
returns-in-Ok-clause-finds c = (command_read (map string_bytes c.args.words.now) (plain_command c.args.command) c.requires.value c.requires.memory).finds

pub returns-in-Ok-clause-same : goal.returns-in-Ok-clause-same
returns-in-Ok-clause-same c =
    c.is_found.ensures ∙ ap (is_found (plain_command c.args.command)) c.in-Ok.ensures.found
    ∙ (command_read (map string_bytes c.args.words.now) (plain_command c.args.command) c.requires.value c.requires.memory).finds

pub returns-in-Err-clause-finds : goal.returns-in-Err-clause-finds
returns-in-Err-clause-finds c = (command_read (map string_bytes c.args.words.now) (plain_command c.args.command) c.requires.value c.requires.memory).finds

pub returns-in-Err-clause-refused : goal.returns-in-Err-clause-refused
returns-in-Err-clause-refused c =
    c.in-Err.ensures.refused (command_read (map string_bytes c.args.words.now) (plain_command c.args.command) c.requires.value c.requires.memory).takes_them
