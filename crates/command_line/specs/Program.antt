-- The command as `clap` is told it, and what it found. Only private functions see it.
-- Source: none.
use Rattle.std.specs.Prelude.{ℕ, Bool, true, false, ◌&&◌, ◌==◌, List, Option, Some, None, nat_eq}
use Rattle.std.specs.Prelude.{option_and_then, bytes_eq, codes, if◌then◌else◌}
use Rattle.std.specs.Option.{option_eq}
use Rattle.clap.specs.Words.{App, Row, Rule, Text, first_of, new_app, new_rule, with_rule}
use Rattle.clap.specs.Words.{with_subcommand}
use Rattle.command_line.specs.Options.{batch_of, checkpoint_of, start_of}
use Rattle.command_line.specs.Words.{PlainCommand, Help, Replay, Twin, Dump, Selftest, seed_of}
use Rattle.clap.specs.declared.builder.ArgAction.TheVariants.{Set}
use Rattle.clap.specs.declared.builder.command.Command.{Command}
use Rattle.clap.specs.declared.builder.command.Command.TheViews.{out-Command}

-- a word that has to stand, by its place
abbrev pub place_rule : Text → Rule
place_rule name = record (new_rule name) { required = true; action = Some Set }

-- an option, of this name behind `--`
abbrev pub option_rule : Text → Rule
option_rule name = record (new_rule name) { long = Some name; action = Some Set }

-- a command with the options of a run that are numbers
abbrev pub with_numbers : App → App
with_numbers app = with_rule
    (with_rule (with_rule app (option_rule (codes "batch"))) (option_rule (codes "checkpoint")))
    (option_rule (codes "start"))

-- a run of a script
abbrev pub replay_app : App
replay_app = with_numbers
    (with_rule (with_rule (new_app (codes "replay")) (place_rule (codes "list")))
    (option_rule (codes "store")))

-- a comparison of two scripts
abbrev pub twin_app : App
twin_app = with_numbers
    (with_rule (with_rule (new_app (codes "twin")) (place_rule (codes "site")))
    (place_rule (codes "list")))

-- a dump of a store
abbrev pub dump_app : App
dump_app = with_rule (with_rule (new_app (codes "dump")) (place_rule (codes "list")))
    (place_rule (codes "store"))

-- a self-test
abbrev pub selftest_app : App
selftest_app = with_rule (new_app (codes "selftest")) (place_rule (codes "seed"))

-- the program's name and its settings, before its commands
abbrev pub bare_app : App
bare_app =
    let app = new_app (codes "cuvandil") in
    record app {
      top = record app.top {
        no_binary_name = true;
        disable_help_flag = true;
        disable_help_subcommand = true;
      };
    }

-- the program
abbrev pub program_app : App
program_app = with_subcommand
    (with_subcommand
    (with_subcommand (with_subcommand bare_app replay_app.top) twin_app.top) dump_app.top)
    selftest_app.top

-- the command has an option that is one of its commands' too
abbrev pub has_globals : Command → Bool
has_globals command = (out-Command command).has_globals

-- the value of this name that was found among the matches of this command
abbrev pub found_in : (command name : Text) → Option (Text × List Row) → Option Text
found_in command name met = option_and_then
    (λ matches. if bytes_eq matches.0 command then first_of name matches.1 else None) met

-- the numbers that were found among the matches of this command are these
abbrev pub has_numbers : Text → (batch checkpoint start : ℕ) → Option (Text × List Row) → Bool
has_numbers command batch checkpoint start met =
    (batch_of (found_in command (codes "batch") met) == batch)
    && ((checkpoint_of (found_in command (codes "checkpoint") met) == checkpoint)
    && (start_of (found_in command (codes "start") met) == start))

-- what was found is this command, which is not the usage line
abbrev pub is_found : PlainCommand → Option (Text × List Row) → Bool
is_found Help met = false
is_found (Replay list store batch checkpoint start) met =
    option_eq bytes_eq (found_in (codes "replay") (codes "list") met) (Some list)
    && (option_eq bytes_eq (found_in (codes "replay") (codes "store") met) store
    && has_numbers (codes "replay") batch checkpoint start met)
is_found (Twin site list batch checkpoint start) met =
    option_eq bytes_eq (found_in (codes "twin") (codes "site") met) (Some site)
    && (option_eq bytes_eq (found_in (codes "twin") (codes "list") met) (Some list)
    && has_numbers (codes "twin") batch checkpoint start met)
is_found (Dump list store) met =
    option_eq bytes_eq (found_in (codes "dump") (codes "list") met) (Some list)
    && option_eq bytes_eq (found_in (codes "dump") (codes "store") met) (Some store)
is_found (Selftest seed) met = option_eq nat_eq
    (option_and_then seed_of (found_in (codes "selftest") (codes "seed") met)) (Some seed)
