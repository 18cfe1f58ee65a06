use Rattle.std.proofs.Common.{◌≡◌, ◌∙◌, true, rules}
use Rattle.std.specs.Prelude.{bytes_eq}
use Rattle.clap.specs.Words.{found_of, rows_of}
use Rattle.clap.specs.declared.parser.matches.ArgMatches.TheViews.{out-ArgMatches}
use Rattle.command_line.proofs.FoundLemmas.{first_value_is, found_by_rows}
use Rattle.command_line.proofs.matches.value_of.Goals as goal

pub returns-in-Some : goal.returns-in-Some
returns-in-Some c =
    let same : bytes_eq c.in-Some.met.now c.args.command.now ≡ true = search rules in
    c.get_str.ensures ∙ first_value_is (found_of c.in-Some.inner.now) c.args.name.now
    ∙ found_by_rows c.args.command.now c.args.name.now c.in-Some.met.now (rows_of (found_of c.in-Some.inner.now)) (out-ArgMatches c.args.matches.now).subcommand
    same c.in-Some.ensures.name c.in-Some.ensures.rows
