-- `clap` takes the words of each command but the usage line, and finds that command.
use Rattle.std.proofs.Common.{◌≡◌, ℕ, ◌==◌, ◌&&◌, true, cond, List, [], ◌∷◌, Option, Some, None, IfSome, codes, is_some, map, refl, ap, ap₂, subst, ◌∙◌}
use Rattle.std.specs.Prelude.{bytes_eq, nat_eq}
use Rattle.std.specs.Option.{option_eq}
use Rattle.std.proofs.lemmas.Bool.{eq-eqb}
use Rattle.std.proofs.lemmas.Slice.Eq.{bytes_eq-Decides}
use Rattle.clap.specs.Words.{Row, Text, first_of, subcommand_of, takes}
use Rattle.command_line.specs.Options.{Pair, batch_of, checkpoint_of, is_path, options_of, start_of, storeless_of, value_named}
use Rattle.command_line.specs.Program.{found_in, has_numbers, is_found, program_app}
use Rattle.command_line.specs.Words.{Dump, PlainCommand, Selftest, TakesMemory, command_of, comparison_of, first_seed, last_seed, run_of, seed_of}
use Rattle.command_line.proofs.ClapLemmas.{IsTaken, value_row}
use Rattle.command_line.proofs.CommandLemmas.{command_is}
use Rattle.command_line.proofs.DumpLemmas.{dump_taken}
use Rattle.command_line.proofs.OptionLemmas.{number_plain, path_plain, run_numbers, store_option, twin_numbers}
use Rattle.command_line.proofs.RunLemmas.{option_found, option_row, run_taken}
use Rattle.command_line.proofs.SelftestLemmas.{selftest_taken}
use Rattle.command_line.proofs.TwinLemmas.{number_found, twin_taken}

-- the words are taken, and what is found is this command
pub record IsConfirmed (words : List Text) (command : PlainCommand) : Type 0 where
  pub takes_them : takes program_app words ≡ true
  pub finds : is_found command (subcommand_of program_app words) ≡ true

same_text : (text : Option Text) → option_eq bytes_eq text text ≡ true
same_text None = refl
same_text (Some text) = (bytes_eq-Decides text text).1 refl

-- the numbers among the rows of a command are those of its options
numbers_found : (command : Text) (rows : List Row) (options : List Pair) → first_of (codes "batch") rows ≡ value_named (codes "--batch") options → first_of (codes "checkpoint") rows ≡ value_named (codes "--checkpoint") options
    → first_of (codes "start") rows ≡ value_named (codes "--start") options
    → has_numbers command (batch_of (value_named (codes "--batch") options)) (checkpoint_of (value_named (codes "--checkpoint") options)) (start_of (value_named (codes "--start") options)) (Some (command, rows)) ≡ true
numbers_found command rows options batch checkpoint start =
    let here : (name : Text) → found_in command name (Some (command, rows)) ≡ first_of name rows = λ name. ap (λ b. cond b (first_of name rows) None) ((bytes_eq-Decides command command).1 refl) in
    ap₂ (λ x y. x && y) (ap (λ v. batch_of v == batch_of (value_named (codes "--batch") options)) (here (codes "batch") ∙ batch) ∙ eq-eqb (batch_of (value_named (codes "--batch") options)) _ refl)
    (ap₂ (λ x y. x && y) (ap (λ v. checkpoint_of v == checkpoint_of (value_named (codes "--checkpoint") options)) (here (codes "checkpoint") ∙ checkpoint) ∙ eq-eqb (checkpoint_of (value_named (codes "--checkpoint") options)) _ refl)
    (ap (λ v. start_of v == start_of (value_named (codes "--start") options)) (here (codes "start") ∙ start) ∙ eq-eqb (start_of (value_named (codes "--start") options)) _ refl))

-- what is found where the options are these
run_is_found : (list : Text) (words : List Text) (options : List Pair) → options_of words ≡ Some options
    → is_found (run_of list options) (Some (codes "replay", value_row (codes "list") list ∷ map option_row options)) ≡ true
run_is_found list words options are =
    let store = option_found list (codes "--store") (codes "store") words options store_option are in
    let batch = option_found list (codes "--batch") (codes "batch") words options run_numbers.batch are in
    let checkpoint = option_found list (codes "--checkpoint") (codes "checkpoint") words options run_numbers.checkpoint are in
    let start = option_found list (codes "--start") (codes "start") words options run_numbers.start are in
    ap₂ (λ x y. x && y) (same_text (Some list))
    (ap₂ (λ x y. x && y) (ap (λ v. option_eq bytes_eq v (value_named (codes "--store") options)) store ∙ same_text (value_named (codes "--store") options))
    (numbers_found (codes "replay") (value_row (codes "list") list ∷ map option_row options) options batch checkpoint start))

-- the same of a comparison
comparison_is_found : (site list : Text) (words : List Text) (options : List Pair) → storeless_of words ≡ Some options
    → is_found (comparison_of site list options) (Some (codes "twin", value_row (codes "site") site ∷ value_row (codes "list") list ∷ map option_row options)) ≡ true
comparison_is_found site list words options are =
    let batch = number_found site list (codes "--batch") (codes "batch") words options twin_numbers.batch are in
    let checkpoint = number_found site list (codes "--checkpoint") (codes "checkpoint") words options twin_numbers.checkpoint are in
    let start = number_found site list (codes "--start") (codes "start") words options twin_numbers.start are in
    ap₂ (λ x y. x && y) (same_text (Some site))
    (ap₂ (λ x y. x && y) (same_text (Some list))
    (numbers_found (codes "twin") (value_row (codes "site") site ∷ value_row (codes "list") list ∷ map option_row options) options batch checkpoint start))

confirmed : (name : Text) (words : List Text) (found : Text × List Row) (command : PlainCommand) → IsTaken name words found → is_found command (Some found) ≡ true → IsConfirmed (name ∷ words) command
confirmed name words found command is same = record { takes_them = is.takes_them; finds = ap (is_found command) is.finds ∙ same }

run_confirmed : (list : Text) (words : List Text) (options : List Pair) → is_path list ≡ true → options_of words ≡ Some options → IsConfirmed (codes "replay" ∷ list ∷ words) (run_of list options)
run_confirmed list words options path are =
    confirmed (codes "replay") (list ∷ words) (codes "replay", value_row (codes "list") list ∷ map option_row options) (run_of list options)
    (run_taken list words options (path_plain list path) are) (run_is_found list words options are)

comparison_confirmed : (site list : Text) (words : List Text) (options : List Pair) → is_path site ≡ true → is_path list ≡ true → storeless_of words ≡ Some options → IsConfirmed (codes "twin" ∷ site ∷ list ∷ words) (comparison_of site list options)
comparison_confirmed site list words options path other are =
    confirmed (codes "twin") (site ∷ list ∷ words) (codes "twin", value_row (codes "site") site ∷ value_row (codes "list") list ∷ map option_row options) (comparison_of site list options)
    (twin_taken site list words options (path_plain site path) (path_plain list other) are) (comparison_is_found site list words options are)

dump_confirmed : (list store : Text) → is_path list ≡ true → is_path store ≡ true → IsConfirmed (codes "dump" ∷ list ∷ store ∷ []) (Dump list store)
dump_confirmed list store path other =
    confirmed (codes "dump") (list ∷ store ∷ []) (codes "dump", value_row (codes "list") list ∷ value_row (codes "store") store ∷ []) (Dump list store)
    (dump_taken list store (path_plain list path) (path_plain store other))
    (ap₂ (λ x y. x && y) (same_text (Some list)) (same_text (Some store)))

selftest_confirmed : (text : Text) (seed : ℕ) → seed_of text ≡ Some seed → IsConfirmed (codes "selftest" ∷ text ∷ []) (Selftest seed)
selftest_confirmed text seed is =
    confirmed (codes "selftest") (text ∷ []) (codes "selftest", value_row (codes "seed") text ∷ []) (Selftest seed)
    (selftest_taken text (number_plain first_seed last_seed text (ap is_some is)))
    (ap (λ found. option_eq nat_eq found (Some seed)) is ∙ eq-eqb seed seed refl)

command_confirmed : (words : List Text) → IfSome (command_of words) (λ command. TakesMemory command → IsConfirmed words command)
command_confirmed words = command_is (λ words command. TakesMemory command → IsConfirmed words command) (record {
  help = λ takes. absurd takes;
  run = λ list words options path are takes. run_confirmed list words options path are;
  comparison = λ site list words options path other are takes. comparison_confirmed site list words options path other are;
  dump = λ list store path other takes. dump_confirmed list store path other;
  selftest = λ text seed is takes. selftest_confirmed text seed is;
}) words

pub command_read : (words : List Text) (command : PlainCommand) → command_of words ≡ Some command → TakesMemory command → IsConfirmed words command
command_read words command is =
    subst (λ (found : Option PlainCommand). IfSome found (λ command. TakesMemory command → IsConfirmed words command)) is (command_confirmed words)
