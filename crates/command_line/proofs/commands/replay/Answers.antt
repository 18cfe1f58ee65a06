use Rattle.std.proofs.Common.{◌≡◌, cond, codes, None, Some, ap, ap₂, map, string_bytes, sym, true, ◌∙◌, rules}
use Rattle.std.specs.Prelude.{is_some, option_map}
use Rattle.command_line.specs.Options.{batch_of, is_path, options_of, start_of}
use Rattle.command_line.specs.Walk.{value_in}
use Rattle.command_line.specs.Words.{Replay, run_of}
use Rattle.command_line.proofs.PairLemmas.{run_found}
use Rattle.command_line.proofs.commands.replay.Goals as goal

pub returns : goal.returns
returns c =
    let words = map string_bytes c.args.rest.now in
    let path : is_path c.args.list.now ≡ true = search rules in
    let stand : is_some (options_of words) ≡ true = search rules in
    let numbers = c.numbers_of-batch.ensures in
    ap₂ (λ b s. Some (Replay c.args.list.now (option_map (λ path. path.now) c.value_named.result) b c.numbers_of-batch.result.checkpoint s)) numbers.batch numbers.start
    ∙ ap₂ (λ store e. Some (Replay c.args.list.now store (batch_of (value_in (codes "--batch") words)) e (start_of (value_in (codes "--start") words)))) c.value_named.ensures numbers.checkpoint
    ∙ run_found c.args.list.now words stand
    ∙ ap (λ b. cond b (option_map (run_of c.args.list.now) (options_of words)) None) (sym path)
