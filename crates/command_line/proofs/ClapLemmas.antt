-- What `clap` makes of words: those of a command of the program, and plain ones.
use Rattle.std.proofs.Common.{◌≡◌, ℕ, true, false, cond, ◌==◌, ◌&&◌, ◌||◌, List, [], ◌∷◌, ◌++◌, Some, None, codes, fold, find, option_map, refl, ap, ap₂, sym, ◌∙◌, append_assoc, append-nil}
use Rattle.std.specs.Prelude.{bytes_eq, is_some}
use Rattle.std.specs.Option.{option_map_or}
use Rattle.std.specs.List.{list_all}
use Rattle.clap.specs.Words.{App, Row, Rule, Shape, Text, subcommand_of, takes}
use Rattle.clap.specs.Lexer.{long_of, short_of}
use Rattle.clap.specs.Simple.{built, entered, label_of, new_shape, rows_at}
use Rattle.clap.specs.Takes.{bundle_passes, default_passes, entered_passes, is_valid, settle_passes, flag_word_passes, level_passes, other_passes, positional_passes, step_passes, turn_passes, walk_passes, word_passes}
use Rattle.clap.specs.Walk.{Held, finished, Names, Step, Waiting, Walk, after_step, answers_to, arg_by_index, idle, reading_by, settled, settled_rows, to_positional, positional, pushed, trailing, walk, long_or_other, nothing_held, option, plain_word, short_or_plain, subcommand_met, subcommand_or_other, walk_from, walked, word_met}
use Rattle.clap.specs.declared.builder.ValueParser.TheVariants as parser
use Rattle.clap.specs.declared.parser.matches.ValueSource.TheVariants.{CommandLine}
use Rattle.command_line.specs.Program.{bare_app, option_rule, place_rule, program_app}

-- ---- the program as it is built

abbrev pub one : Rule → Rule
one rule = record rule { range = Some (record { start_inclusive = 1; end_inclusive = 1 }); parser = Some parser.String }

abbrev pub placed : ℕ → Text → Rule
placed index name = record (one (place_rule name)) { index = Some index }

abbrev number_rules : List Rule
number_rules = one (option_rule (codes "batch")) ∷ one (option_rule (codes "checkpoint")) ∷ one (option_rule (codes "start")) ∷ []

abbrev pub replay_rules : List Rule
replay_rules = placed 1 (codes "list") ∷ one (option_rule (codes "store")) ∷ number_rules

abbrev pub twin_rules : List Rule
twin_rules = placed 1 (codes "site") ∷ placed 2 (codes "list") ∷ number_rules

abbrev pub dump_rules : List Rule
dump_rules = placed 1 (codes "list") ∷ placed 2 (codes "store") ∷ []

abbrev pub selftest_rules : List Rule
selftest_rules = placed 1 (codes "seed") ∷ []

-- a command of the program, of this name
abbrev pub leaf : Text → List Rule → Shape
leaf name rules = record (new_shape name) { rules = rules; no_binary_name = true; disable_help_flag = true; disable_help_subcommand = true; is_built = true }

abbrev pub replay_leaf : Shape
replay_leaf = leaf (codes "replay") replay_rules

abbrev pub twin_leaf : Shape
twin_leaf = leaf (codes "twin") twin_rules

abbrev pub dump_leaf : Shape
dump_leaf = leaf (codes "dump") dump_rules

abbrev pub selftest_leaf : Shape
selftest_leaf = leaf (codes "selftest") selftest_rules

abbrev leaves : List Shape
leaves = replay_leaf ∷ twin_leaf ∷ dump_leaf ∷ selftest_leaf ∷ []

abbrev top : Shape
top = record bare_app.top { is_leaf = false; is_built = true }

abbrev program_built : App
program_built = record { top = top; subs = leaves }

abbrev commands : Names
commands = (codes "replay", []) ∷ (codes "twin", []) ∷ (codes "dump", []) ∷ (codes "selftest", []) ∷ []

built_is : built program_app ≡ program_built
built_is = refl

-- ---- words that are no flag

pub record IsPlain (word : Text) : Type 0 where
  pub dashes : bytes_eq word (45 ∷ 45 ∷ []) ≡ false
  pub long : long_of word ≡ None
  pub short : short_of word ≡ None

pub starts_plain : (first : ℕ) (tail : List ℕ) → (first == 45) ≡ false → IsPlain (first ∷ tail)
starts_plain first tail e = record { dashes = rw e refl; long = rw e refl; short = rw e refl }

-- no word is a command of a command
pub none_met : (waiting : Waiting) (word : Text) → subcommand_met [] waiting word ≡ None
none_met idle word = refl
none_met (option id) word = refl
none_met positional word = refl

pub met_plain : (c : List Rule) (waiting : Waiting) (position : ℕ) (word : Text) (h : Held) → IsPlain word
    → word_met c [] false waiting position word h ≡ plain_word c waiting word h
met_plain c waiting position word h plain =
    ap (λ o. subcommand_or_other c o waiting position word h) (none_met waiting word)
    ∙ ap (λ b. cond b (h, trailing position) (long_or_other c waiting word (long_of word) h)) plain.dashes
    ∙ ap (λ o. long_or_other c waiting word o h) plain.long
    ∙ ap (λ o. short_or_plain c waiting word o h) plain.short

-- it passes, where no flag is asked for
pub plain_passes : (c : Shape) (waiting : Waiting) (word : Text) (h : Held) → IsPlain word → word_passes c [] false waiting word h ≡ true
plain_passes c waiting word h plain =
    ap (λ o. other_passes c o word h) (none_met waiting word)
    ∙ ap (λ b. b || flag_word_passes c.rules c.args_override_self (long_of word) word h) plain.dashes
    ∙ ap (λ o. flag_word_passes c.rules c.args_override_self o word h) plain.long
    ∙ ap (λ o. option_map_or (λ flags. bundle_passes c.rules c.args_override_self flags h) o true) plain.short

-- ---- the words of a command

-- a walk over the words of a command passes, and ends at these rows
pub record Ends (c : Shape) (from : Walk) (words : List Text) (rows : List Row) : Type 0 where
  pub walks : walk_passes c [] from words ≡ true
  pub settles : settle_passes c.rules c.args_override_self (fold (walked c.rules []) from words).held ≡ true
  pub finishes : finished c.rules (fold (walked c.rules []) from words).held ≡ rows

-- a walk that passes one word more
pub ends_after : (c : Shape) (from to : Walk) (word : Text) (words : List Text) (rows : List Row)
    → turn_passes c [] from word ≡ true → walked c.rules [] from word ≡ to → Ends c to words rows → Ends c from (word ∷ words) rows
unfolding walk_passes
ends_after c from to word words rows turn step ends = record {
  walks = ap₂ (λ b w. b && walk_passes c [] w words) turn step ∙ ends.walks;
  settles = ap (λ w. settle_passes c.rules c.args_override_self (fold (walked c.rules []) w words).held) step ∙ ends.settles;
  finishes = ap (λ w. finished c.rules (fold (walked c.rules []) w words).held) step ∙ ends.finishes;
}

level_passed : (c : Shape) (words : List Text) (rows : List Row) → Ends c (walk_from nothing_held) words rows
    → (list_all default_passes c.rules && is_valid c rows false) ≡ true → level_passes c [] nothing_held words false ≡ true
level_passed c words rows ends valid =
    ap₂ (λ x y. x && (y && (list_all default_passes c.rules && is_valid c (finished c.rules (walk c.rules [] nothing_held words).held) false))) ends.walks ends.settles
    ∙ ap (λ rs. list_all default_passes c.rules && is_valid c rs false) ends.finishes
    ∙ valid

-- what was found for a name that takes one value
abbrev pub value_row : (name value : Text) → Row
value_row name value = record { id = name; values = value ∷ []; count = None; source = Some CommandLine; reading = reading_by (one (option_rule name)) }

-- a walk that waits for no value, with one value that is not settled, of this name, behind these rows
abbrev pub at_value : (position : ℕ) → List Row → (name value : Text) → Walk
at_value position rows name value = record {
  held = record { rows = rows; pending = Some (name, value ∷ []); skip = 0 };
  waiting = idle;
  position = position;
  is_trailing = false;
  stopped = None;
}

-- each command begins with a word by its place
pub begins : (c : Shape) (name value : Text) (words : List Text) (rows : List Row) → arg_by_index c.rules 1 ≡ Some (placed 1 name) → IsPlain value
    → Ends c (at_value 2 [] name value) words rows → Ends c (walk_from nothing_held) (value ∷ words) rows
unfolding walked
begins c name value words rows first plain =
    ends_after c (walk_from nothing_held) (at_value 2 [] name value) value words rows
    (ap₂ (λ b (met : Held × Step). b && step_passes c 1 met.0 met.1) (plain_passes c idle value nothing_held plain) (met_plain c.rules idle 1 value nothing_held plain)
    ∙ ap (λ place. option_map_or (λ a. positional_passes c.rules c.args_override_self a nothing_held) place false) first)
    (ap (λ (met : Held × Step). after_step c.rules value (walk_from nothing_held) met.0 met.1) (met_plain c.rules idle 1 value nothing_held plain)
    ∙ ap (λ place. to_positional c.rules place value (walk_from nothing_held) nothing_held) first)

-- the walk behind the second word by its place
abbrev second_walk : (name value : Text) → Held → Walk
second_walk name value h = record { held = pushed name value h; waiting = idle; position = 3; is_trailing = false; stopped = None }

-- two commands have a second word by its place
pub goes_on : (c : Shape) (before first name value : Text) (words : List Text) (rows : List Row) → arg_by_index c.rules 2 ≡ Some (placed 2 name) → bytes_eq before name ≡ false
    → settled_rows c.rules (Some (before, first ∷ [])) [] ≡ value_row before first ∷ [] → settle_passes c.rules c.args_override_self (at_value 2 [] before first).held ≡ true → IsPlain value
    → Ends c (at_value 3 (value_row before first ∷ []) name value) words rows → Ends c (at_value 2 [] before first) (value ∷ words) rows
unfolding walked
goes_on c before first name value words rows second other settles passes plain =
    let from = at_value 2 [] before first in
    ends_after c from (at_value 3 (value_row before first ∷ []) name value) value words rows
    (ap₂ (λ b (met : Held × Step). b && step_passes c 2 met.0 met.1) (plain_passes c idle value from.held plain) (met_plain c.rules idle 2 value from.held plain)
    ∙ ap (λ place. option_map_or (λ a. positional_passes c.rules c.args_override_self a from.held) place false) second
    ∙ ap (λ b. (b && false) || settle_passes c.rules c.args_override_self from.held) other
    ∙ passes)
    (ap (λ (met : Held × Step). after_step c.rules value from met.0 met.1) (met_plain c.rules idle 2 value from.held plain)
    ∙ ap (λ place. to_positional c.rules place value from from.held) second
    ∙ ap (λ b. second_walk name value (cond (b && false) from.held (settled c.rules from.held))) other
    ∙ ap (λ rs. second_walk name value (record { rows = rs; pending = None; skip = 0 })) settles)

-- ---- the program's own words

-- the program's walk stands at a command, and these words follow
abbrev at_command : Text → List Text → Walk
at_command name words = record { held = nothing_held; waiting = idle; position = 1; is_trailing = false; stopped = Some (name, words) }

-- the word is a command of the program
pub record IsCommand (name : Text) (c : Shape) : Type 0 where
  pub met : walked [] commands (walk_from nothing_held) name ≡ at_command name []
  pub turn : turn_passes top commands (walk_from nothing_held) name ≡ true
  pub among : find (λ s. answers_to name (label_of s)) leaves ≡ Some c

command_walked : (name : Text) (before words : List Text) → fold (walked [] commands) (at_command name before) words ≡ at_command name (before ++ words)
unfolding walked
command_walked name before [] = ap (at_command name) (sym (append-nil before))
command_walked name before (word ∷ words) = command_walked name (before ++ word ∷ []) words ∙ ap (at_command name) (append_assoc before (word ∷ []) words)

command_passes : (name : Text) (before words : List Text) → walk_passes top commands (at_command name before) words ≡ true
unfolding walk_passes walked
command_passes name before [] = refl
command_passes name before (word ∷ words) = command_passes name (before ++ word ∷ []) words

top_stopped : (name : Text) (c : Shape) (words : List Text) → IsCommand name c → walk [] commands nothing_held (name ∷ words) ≡ at_command name words
top_stopped name c words is = ap (λ w. fold (walked [] commands) w words) is.met ∙ command_walked name [] words

-- what `clap` makes of a command and the words behind it
pub record IsTaken (name : Text) (words : List Text) (found : Text × List Row) : Type 0 where
  pub takes_them : takes program_app (name ∷ words) ≡ true
  pub finds : subcommand_of program_app (name ∷ words) ≡ Some found

-- the words of a command are taken where they pass as its own
pub taken : (name : Text) (c : Shape) (words : List Text) (rows : List Row) → IsCommand name c → Ends c (walk_from nothing_held) words rows
    → (list_all default_passes c.rules && is_valid c rows false) ≡ true → IsTaken name words (c.name, rows)
unfolding walk_passes
taken name c words rows is ends valid =
    let stopped = top_stopped name c words is in
    let inner : entered_passes program_built (Some (name, words)) ≡ true =
    ap (λ found. option_map_or (λ s. level_passes s [] nothing_held words false) found true) is.among ∙ level_passed c words rows ends valid in
    let outer : walk_passes top commands (walk_from nothing_held) (name ∷ words) ≡ true =
    ap₂ (λ b w. b && walk_passes top commands w words) is.turn is.met ∙ command_passes name [] words in
    record {
      takes_them =
          ap (λ (w : Walk). entered_passes program_built w.stopped
          && (walk_passes top commands (walk_from nothing_held) (name ∷ words) && (settle_passes top.rules top.args_override_self w.held
          && (list_all default_passes top.rules && is_valid top (finished top.rules w.held) (is_some (entered program_built w.stopped))))))
          stopped
          ∙ ap₂ (λ x y. x && (y && true)) inner outer;
      finds =
          ap (λ (w : Walk). entered program_built w.stopped) stopped
          ∙ ap (option_map (λ s. rows_at s words)) is.among
          ∙ ap (λ rs. Some (c.name, rs)) ends.finishes;
    }
