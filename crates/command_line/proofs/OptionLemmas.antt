-- What `clap` makes of one option of a command.
use Rattle.std.proofs.Common.{◌≡◌, ℕ, Bool, true, false, cond, ◌==◌, ◌&&◌, ◌||◌, List, [], ◌∷◌, ◌++◌, Some, None, codes, drop, fold, refl, ap, ap₂, subst, sym, ◌∙◌, append-nil, arith}
use Rattle.std.specs.Prelude.{bytes_eq, is_some, nat_lt, not}
use Rattle.std.specs.List.{list_all, list_any}
use Rattle.std.specs.Option.{option_map_or}
use Rattle.std.specs.Str.Parse.{digits_value}
use Rattle.std.proofs.lemmas.Bool.{and_parts, false≢true, ne_eqb, not-true, or_parts}
use Rattle.std.proofs.lemmas.Slice.Eq.{bytes_eq-Decides}
use Rattle.clap.specs.Words.{Row, Rule, Text}
use Rattle.clap.specs.Lexer.{long_of}
use Rattle.clap.specs.Takes.{flag_word_passes, long_passes, other_passes, settle_passes, step_passes, turn_passes, use_passes, word_passes}
use Rattle.clap.specs.Walk.{Held, Step, Walk, after_flag, after_step, arg_by_id, arg_by_long, at_row, default_rows, has_row, idle, long_met, long_or_other, more_values, next, option, option_word, reading_by, settled, settled_rows, subcommand_or_other, trailing, used_by_id, walked, with_default, with_values, without, word_met}
use Rattle.clap.specs.declared.parser.matches.ValueSource.TheVariants.{CommandLine}
use Rattle.agent_base.specs.Seconds.{last_moment}
use Rattle.command_line.specs.Options.{Pair, first_batch, first_start, is_digit, is_named, is_number, is_number_option, is_option, is_path, last_batch, last_checkpoint, no_checkpoint, number_of, within}
use Rattle.command_line.specs.Program.{option_rule}
use Rattle.command_line.proofs.NumberLemmas.{digit_bounds, digits}
use Rattle.command_line.proofs.ClapLemmas.{IsPlain, at_value, leaf, met_plain, none_met, one, plain_passes, replay_rules, starts_plain, twin_rules, value_row}

-- ---- rows of names that are not there

at_row_absent : (name : Text) (change : Row → List Row) (missing rows : List Row) → has_row name rows ≡ false → at_row name change missing rows ≡ rows ++ missing
at_row_absent name change missing [] absent = refl
at_row_absent name change missing (row ∷ rows) absent = at (bytes_eq row.id name) absent (at_row_absent name change missing rows)
  where
    at : (b : Bool) → (b || has_row name rows) ≡ false → (has_row name rows ≡ false → at_row name change missing rows ≡ rows ++ missing)
        → cond b (change row ++ rows) (row ∷ at_row name change missing rows) ≡ row ∷ (rows ++ missing)
    at true there later = absurd (false≢true (sym there))
    at false absent later = ap (λ rs. row ∷ rs) (later absent)

-- the row of a first use stands at the end
used_first : (name value : Text) (rows : List Row) → has_row name rows ≡ false
    → with_values name (reading_by (one (option_rule name))) CommandLine (value ∷ []) (without name rows) ≡ rows ++ value_row name value ∷ []
used_first name value rows absent =
    ap (with_values name (reading_by (one (option_rule name))) CommandLine (value ∷ [])) (at_row_absent name (λ row. []) [] rows absent ∙ append-nil rows)
    ∙ at_row_absent name (more_values CommandLine (value ∷ [])) (value_row name value ∷ []) rows absent

abbrev has_first : List Text → Bool
has_first [] = false
has_first (text ∷ texts) = true

no_default : (rule : Rule) (rows : List Row) → has_first rule.defaults ≡ false → with_default rows rule ≡ rows
no_default rule rows none = at (has_row rule.id rows) rule.defaults none
  where
    at : (b : Bool) (defaults : List Text) → has_first defaults ≡ false → cond b rows (default_rows rule.id (reading_by rule) defaults rows) ≡ rows
    at true defaults none = refl
    at false [] none = refl
    at false (text ∷ defaults) none = absurd (false≢true (sym none))

-- rules without defaults add no rows
abbrev pub lacks_default : Rule → Bool
lacks_default rule = not (has_first rule.defaults)

pub no_defaults : (rules : List Rule) (rows : List Row) → list_all lacks_default rules ≡ true → fold with_default rows rules ≡ rows
no_defaults [] rows none = refl
no_defaults (rule ∷ rules) rows none =
    let parts = and_parts (lacks_default rule) (list_all lacks_default rules) none in
    ap (λ rs. fold with_default rs rules) (no_default rule rows (not-true (has_first rule.defaults) parts.0)) ∙ no_defaults rules rows parts.1

-- ---- values that are settled

abbrev held : List Row → (name value : Text) → Held
held rows name value = record { rows = rows; pending = Some (name, value ∷ []); skip = 0 }

-- one value of the name is settled as its one row
pub record IsSettled (rules : List Rule) (name : Text) : Type 0 where
  pub settles : (value : Text) (rows : List Row)
      → settled_rows rules (Some (name, value ∷ [])) rows ≡ with_values name (reading_by (one (option_rule name))) CommandLine (value ∷ []) (without name rows)
  pub passes : (value : Text) (rows : List Row) → settle_passes rules false (held rows name value) ≡ (not (has_row name rows) || false) && true

pub settles_once : (rules : List Rule) (name value : Text) (rows : List Row) → IsSettled rules name → has_row name rows ≡ false → settled_rows rules (Some (name, value ∷ [])) rows ≡ rows ++ value_row name value ∷ []
settles_once rules name value rows is absent = is.settles value rows ∙ used_first name value rows absent

pub passes_once : (rules : List Rule) (name value : Text) (rows : List Row) → IsSettled rules name → has_row name rows ≡ false → settle_passes rules false (held rows name value) ≡ true
passes_once rules name value rows is absent = is.passes value rows ∙ ap (λ b. (not b || false) && true) absent

pub list_settled : IsSettled replay_rules (codes "list")
list_settled = record { settles = λ value rows. refl; passes = λ value rows. refl }

pub list_settled_behind : IsSettled twin_rules (codes "list")
list_settled_behind = record { settles = λ value rows. refl; passes = λ value rows. refl }

-- ---- the options

-- the word is the option of this name
pub record IsOption (rules : List Rule) (word name : Text) : Type 0 where
  pub spelled : word ≡ 45 ∷ 45 ∷ name
  pub dashes : bytes_eq word (45 ∷ 45 ∷ []) ≡ false
  pub long : long_of word ≡ Some (name, None)
  pub by_long : arg_by_long rules name ≡ Some (one (option_rule name))
  pub by_id : arg_by_id rules name ≡ Some (one (option_rule name))
  pub no_list : bytes_eq (codes "list") name ≡ false
  pub no_site : bytes_eq (codes "site") name ≡ false

pub option_settled : {rules : List Rule} (word name : Text) → IsOption rules word name → IsSettled rules name
option_settled word name is = record {
  settles = λ value rows. ap (λ rule. used_by_id rule (value ∷ []) rows) is.by_id;
  passes = λ value rows. ap (λ rule. option_map_or (λ a. use_passes false a (value ∷ []) rows) rule true) is.by_id;
}

-- the walk behind the word of an option
abbrev pub at_option : ℕ → List Row → Text → Walk
at_option position rows name = record { held = record { rows = rows; pending = Some (name, []); skip = 0 }; waiting = option name; position = position; is_trailing = false; stopped = None }

-- a command of this name whose words by their places end before this position
module _ (title : Text) (rules : List Rule) (position : ℕ) where
  option_met : (word name : Text) (h : Held) → IsOption rules word name
      → word_met rules [] false idle position word h ≡ (record (settled rules h) { pending = Some (name, []) }, next (option name))
  option_met word name h is =
      ap (λ o. subcommand_or_other rules o idle position word h) (none_met idle word)
      ∙ ap (λ b. cond b (h, trailing position) (long_or_other rules idle word (long_of word) h)) is.dashes
      ∙ ap (λ o. long_or_other rules idle word o h) is.long
      ∙ ap (λ a. after_flag rules idle word (long_met rules a None h).0 (long_met rules a None h).1) is.by_long

  pub option_walked : (word name : Text) (rows : List Row) (before value : Text) → IsOption rules word name → IsSettled rules before → has_row before rows ≡ false
      → walked rules [] (at_value position rows before value) word ≡ at_option position (rows ++ value_row before value ∷ []) name
  unfolding walked
  option_walked word name rows before value is settled absent =
      ap (λ (met : Held × Step). after_step rules word (at_value position rows before value) met.0 met.1) (option_met word name (held rows before value) is)
      ∙ ap (λ rs. at_option position rs name) (settles_once rules before value rows settled absent)

  pub option_turn : (word name : Text) (rows : List Row) (before value : Text) → IsOption rules word name → IsSettled rules before → has_row before rows ≡ false
      → turn_passes (leaf title rules) [] (at_value position rows before value) word ≡ true
  option_turn word name rows before value is settled absent =
      let h = held rows before value in
      let passes : word_passes (leaf title rules) [] false idle word h ≡ true =
      ap (λ o. other_passes (leaf title rules) o word h) (none_met idle word)
      ∙ ap (λ b. b || flag_word_passes rules false (long_of word) word h) is.dashes
      ∙ ap (λ o. flag_word_passes rules false o word h) is.long
      ∙ ap (λ a. long_passes rules false a None h) is.by_long
      ∙ passes_once rules before value rows settled absent in
      ap₂ (λ b (met : Held × Step). b && step_passes (leaf title rules) position met.0 met.1) passes (option_met word name h is)

  value_met : (word name value : Text) (rows : List Row) → IsOption rules word name → IsPlain value
      → word_met rules [] false (option name) position value (at_option position rows name).held ≡ (held rows name value, next idle)
  value_met word name value rows is plain =
      met_plain rules (option name) position value (at_option position rows name).held plain
      ∙ ap (λ a. ((option_word a name value (at_option position rows name).held).0, next (option_word a name value (at_option position rows name).held).1)) is.by_id
      ∙ ap (λ b. (held rows name value, next (cond (nat_lt (cond b 1 0) 1) (option name) idle))) ((bytes_eq-Decides name name).1 refl)

  pub value_walked : (word name value : Text) (rows : List Row) → IsOption rules word name → IsPlain value → walked rules [] (at_option position rows name) value ≡ at_value position rows name value
  unfolding walked
  value_walked word name value rows is plain = ap (λ (met : Held × Step). after_step rules value (at_option position rows name) met.0 met.1) (value_met word name value rows is plain)

  pub value_turn : (word name value : Text) (rows : List Row) → IsOption rules word name → IsPlain value → turn_passes (leaf title rules) [] (at_option position rows name) value ≡ true
  value_turn word name value rows is plain =
      ap₂ (λ b (met : Held × Step). b && step_passes (leaf title rules) position met.0 met.1) (plain_passes (leaf title rules) (option name) value (at_option position rows name).held plain) (value_met word name value rows is plain)

-- ---- paths and numbers are no flags

pub path_plain : (path : Text) → is_path path ≡ true → IsPlain path
path_plain [] is = absurd (false≢true is)
path_plain (first ∷ tail) is = starts_plain first tail (not-true (first == 45) is)

pub number_plain : (first last : ℕ) (text : Text) → is_some (number_of first last text) ≡ true → IsPlain text
number_plain first last [] is = absurd (false≢true is)
number_plain first last (digit ∷ tail) is = at (is_number (digit ∷ tail)) refl is
  where
    at : (b : Bool) → is_number (digit ∷ tail) ≡ b → is_some (cond b (within first last (digits_value 10 (digit ∷ tail))) None) ≡ true → IsPlain (digit ∷ tail)
    at true numeral found =
        let low = (digit_bounds digit (and_parts (is_digit digit) (list_all is_digit tail) (digits (digit ∷ tail) numeral)).0).0 in
        starts_plain digit tail (ne_eqb digit 45 (λ e. omega (arith, low, e)))
    at false numeral found = absurd (false≢true found)

-- ---- pairs that are options

abbrev pub name_of : Pair → Text
name_of pair = drop 2 pair.0

-- the pair is an option of a command, and its value no flag
pub record IsGiven (rules : List Rule) (pair : Pair) : Type 0 where
  pub is : IsOption rules pair.0 (name_of pair)
  pub plain : IsPlain pair.1

-- the command has the options that are numbers
pub record TakesNumbers (rules : List Rule) : Type 0 where
  pub batch : IsOption rules (codes "--batch") (codes "batch")
  pub checkpoint : IsOption rules (codes "--checkpoint") (codes "checkpoint")
  pub start : IsOption rules (codes "--start") (codes "start")

pub store_option : IsOption replay_rules (codes "--store") (codes "store")
store_option = record { spelled = refl; dashes = refl; long = refl; by_long = refl; by_id = refl; no_list = refl; no_site = refl }

pub run_numbers : TakesNumbers replay_rules
run_numbers = record {
  batch = record { spelled = refl; dashes = refl; long = refl; by_long = refl; by_id = refl; no_list = refl; no_site = refl };
  checkpoint = record { spelled = refl; dashes = refl; long = refl; by_long = refl; by_id = refl; no_list = refl; no_site = refl };
  start = record { spelled = refl; dashes = refl; long = refl; by_long = refl; by_id = refl; no_list = refl; no_site = refl };
}

pub twin_numbers : TakesNumbers twin_rules
twin_numbers = record {
  batch = record { spelled = refl; dashes = refl; long = refl; by_long = refl; by_id = refl; no_list = refl; no_site = refl };
  checkpoint = record { spelled = refl; dashes = refl; long = refl; by_long = refl; by_id = refl; no_list = refl; no_site = refl };
  start = record { spelled = refl; dashes = refl; long = refl; by_long = refl; by_id = refl; no_list = refl; no_site = refl };
}

module _ (rules : List Rule) where
  given_as : (pair : Pair) (word : Text) → IsOption rules word (drop 2 word) → bytes_eq pair.0 word ≡ true → IsPlain pair.1 → IsGiven rules pair
  given_as pair word is same plain = record { is = subst (λ w. IsOption rules w (drop 2 w)) (sym ((bytes_eq-Decides pair.0 word).0 same)) is; plain = plain }

  -- an option whose value is a number
  numeric_given : (pair : Pair) (word : Text) (first last : ℕ) → IsOption rules word (drop 2 word) → (is_named word pair && is_some (number_of first last pair.1)) ≡ true → IsGiven rules pair
  numeric_given pair word first last known is =
      let parts = and_parts (is_named word pair) (is_some (number_of first last pair.1)) is in
      given_as pair word known parts.0 (number_plain first last pair.1 parts.1)

  pub number_given : TakesNumbers rules → (pair : Pair) → is_number_option pair ≡ true → IsGiven rules pair
  number_given numbers pair = at (is_named (codes "--batch") pair && is_some (number_of first_batch last_batch pair.1)) (is_named (codes "--checkpoint") pair && is_some (number_of no_checkpoint last_checkpoint pair.1)) refl refl
    where
      at : (batch checkpoint : Bool) → (is_named (codes "--batch") pair && is_some (number_of first_batch last_batch pair.1)) ≡ batch
          → (is_named (codes "--checkpoint") pair && is_some (number_of no_checkpoint last_checkpoint pair.1)) ≡ checkpoint
          → (batch || (checkpoint || (is_named (codes "--start") pair && is_some (number_of first_start last_moment pair.1)))) ≡ true → IsGiven rules pair
      at true checkpoint is other any = numeric_given pair (codes "--batch") first_batch last_batch numbers.batch is
      at false true other is any = numeric_given pair (codes "--checkpoint") no_checkpoint last_checkpoint numbers.checkpoint is
      at false false other another is = numeric_given pair (codes "--start") first_start last_moment numbers.start is

pub option_given : (pair : Pair) → is_option pair ≡ true → IsGiven replay_rules pair
option_given pair = at (is_named (codes "--store") pair && is_path pair.1) refl
  where
    at : (store : Bool) → (is_named (codes "--store") pair && is_path pair.1) ≡ store → (store || is_number_option pair) ≡ true → IsGiven replay_rules pair
    at true is any =
        let parts = and_parts (is_named (codes "--store") pair) (is_path pair.1) is in
        given_as replay_rules pair (codes "--store") store_option parts.0 (path_plain pair.1 parts.1)
    at false other is = number_given replay_rules run_numbers pair is

-- options of which none is the store are numbers
pub numbers_alone : (pairs : List Pair) → list_all is_option pairs ≡ true → list_any (is_named (codes "--store")) pairs ≡ false → list_all is_number_option pairs ≡ true
numbers_alone [] are none = refl
numbers_alone (pair ∷ pairs) are none =
    let options = and_parts (is_option pair) (list_all is_option pairs) are in
    let names = or_parts (is_named (codes "--store") pair) (list_any (is_named (codes "--store")) pairs) none in
    ap₂ (λ x y. x && y) (ap (λ b. (b && is_path pair.1) || is_number_option pair) (sym names.0) ∙ options.0) (numbers_alone pairs options.1 names.1)

-- options are the same where their names are
pub same_names : {rules : List Rule} (word other name another : Text) → IsOption rules word name → IsOption rules other another → bytes_eq word other ≡ bytes_eq name another
same_names word other name another is too = ap₂ bytes_eq is.spelled too.spelled

pub differ_back : (a b : Text) → bytes_eq a b ≡ false → bytes_eq b a ≡ false
differ_back a b differ = at (bytes_eq b a) refl
  where
    at : (b_a : Bool) → bytes_eq b a ≡ b_a → b_a ≡ false
    at true same = absurd (false≢true (sym differ ∙ (bytes_eq-Decides a b).1 (sym ((bytes_eq-Decides b a).0 same))))
    at false other = refl
