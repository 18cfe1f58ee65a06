use Rattle.std.proofs.Common.{◌≡◌, codes, Some, ap, ap₂, map, string_bytes, true, false, ◌∙◌, rules}
use Rattle.std.specs.Prelude.{is_some}
use Rattle.command_line.specs.Options.{batch_of, options_of, start_of}
use Rattle.command_line.specs.Walk.{value_in}
use Rattle.command_line.specs.Words.{Twin, comparison_of}
use Rattle.command_line.proofs.PairLemmas.{comparison_found, no_options, store_stands}
use Rattle.command_line.proofs.commands.comparison.Goals.{then-not-are_options-via-then-not-are_options, then-not-are_options-via-else-not-are_options+then-is_some}
use Rattle.command_line.proofs.commands.comparison.Goals as goal

pub returns-then-not-are_options : goal.returns-then-not-are_options
returns-then-not-are_options c =
    let words = map string_bytes c.args.rest.now in
    let make = comparison_of c.args.site.now c.args.list.now in
    elim c.then-not-are_options.branch [
      | then-not-are_options-via-then-not-are_options w ↦ (let none : is_some (options_of words) ≡ false = search rules in no_options make words none)
      | then-not-are_options-via-else-not-are_options+then-is_some w ↦ (let stands : is_some (value_in (codes "--store") words) ≡ true = search rules in store_stands make words stands)
    ]

pub returns : goal.returns
returns c =
    let words = map string_bytes c.args.rest.now in
    let stand : is_some (options_of words) ≡ true = search rules in
    let none : is_some (value_in (codes "--store") words) ≡ false = search rules in
    let numbers = c.numbers_of-batch.ensures in
    ap₂ (λ b s. Some (Twin c.args.site.now c.args.list.now b c.numbers_of-batch.result.checkpoint s)) numbers.batch numbers.start
    ∙ ap (λ e. Some (Twin c.args.site.now c.args.list.now (batch_of (value_in (codes "--batch") words)) e (start_of (value_in (codes "--start") words)))) numbers.checkpoint
    ∙ comparison_found c.args.site.now c.args.list.now words stand none
