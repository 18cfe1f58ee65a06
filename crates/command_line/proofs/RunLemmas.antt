-- What `clap` makes of the options of a command, and of the words of a run.
use Rattle.std.proofs.Common.{◌≡◌, ℕ, Bool, true, false, cond, ◌&&◌, ◌||◌, List, [], ◌∷◌, ◌++◌, Option, Some, None, IfSome, codes, find, map, option_and_then, option_map, refl, ap, ap₂, subst, sym, ◌∙◌, append_assoc, append-nil}
use Rattle.std.specs.Prelude.{bytes_eq, not, slice_get}
use Rattle.std.specs.List.{list_all, list_any}
use Rattle.std.proofs.lemmas.Bool.{and_parts, not-true, or_parts}
use Rattle.std.proofs.lemmas.List.Folds.{list_any-append}
use Rattle.clap.specs.Words.{Row, Rule, Text, first_of}
use Rattle.clap.specs.Takes.{walk_passes}
use Rattle.clap.specs.Walk.{has_row, settled_rows}
use Rattle.clap.proofs.OnLiterals.{clap_on_literals}
use Rattle.command_line.specs.Options.{Pair, have_distinct_names, is_named, is_option, options_of, pairs_of, value_named}
use Rattle.command_line.proofs.ClapLemmas.{Ends, IsCommand, IsPlain, IsTaken, at_value, begins, ends_after, leaf, replay_leaf, replay_rules, taken, value_row}
use Rattle.command_line.proofs.OptionLemmas.{IsGiven, IsOption, IsSettled, at_option, differ_back, lacks_default, list_settled, name_of, no_defaults, option_given, option_settled, option_turn, option_walked, passes_once, same_names, settles_once, value_turn, value_walked}

-- ---- options that were not used yet

abbrev is_fresh : List Row → Pair → Bool
is_fresh rows pair = not (has_row (name_of pair) rows)

absent_more : (rows : List Row) (name before value : Text) → has_row name rows ≡ false → bytes_eq before name ≡ false → has_row name (rows ++ value_row before value ∷ []) ≡ false
absent_more rows name before value absent other =
    list_any-append (λ row. bytes_eq row.id name) rows (value_row before value ∷ [])
    ∙ ap₂ (λ x y. x || (y || false)) absent other

abbrev pub words_of : List Pair → List Text
words_of [] = []
words_of (pair ∷ pairs) = pair.0 ∷ pair.1 ∷ words_of pairs

abbrev pub option_row : Pair → Row
option_row pair = value_row (name_of pair) pair.1

-- a command of this name, whose words by their places end before this position, and whose options
-- are known
module _ (title : Text) (rules : List Rule) (position : ℕ) (known : Pair → Bool) (given : (pair : Pair) → known pair ≡ true → IsGiven rules pair) where
  -- what is fresh and has another name stays fresh
  fresh_more : (pairs : List Pair) (rows : List Row) (word name value : Text) → IsOption rules word name → list_all known pairs ≡ true → list_any (is_named word) pairs ≡ false
      → list_all (is_fresh rows) pairs ≡ true → list_all (is_fresh (rows ++ value_row name value ∷ [])) pairs ≡ true
  fresh_more [] rows word name value is are others fresh = refl
  fresh_more (pair ∷ pairs) rows word name value is are others fresh =
      let options = and_parts (known pair) (list_all known pairs) are in
      let freshes = and_parts (is_fresh rows pair) (list_all (is_fresh rows) pairs) fresh in
      let names = or_parts (is_named word pair) (list_any (is_named word) pairs) others in
      let other : bytes_eq name (name_of pair) ≡ false =
      sym (same_names word pair.0 name (name_of pair) is (given pair options.0).is) ∙ differ_back pair.0 word names.0 in
      ap₂ (λ x y. not x && y)
      (absent_more rows (name_of pair) name value (not-true (has_row (name_of pair) rows) freshes.0) other)
      (fresh_more pairs rows word name value is options.1 names.1 freshes.1)

  -- each option is fresh behind rows that are of no option
  pub fresh_behind : (rows : List Row) → ((word name : Text) → IsOption rules word name → has_row name rows ≡ false) → (pairs : List Pair) → list_all known pairs ≡ true → list_all (is_fresh rows) pairs ≡ true
  fresh_behind rows absent [] are = refl
  fresh_behind rows absent (pair ∷ pairs) are =
      let options = and_parts (known pair) (list_all known pairs) are in
      ap₂ (λ x y. not x && y) (absent pair.0 (name_of pair) (given pair options.0).is) (fresh_behind rows absent pairs options.1)

  -- the walk over the options
  pub options_end : list_all lacks_default rules ≡ true → (pairs : List Pair) (rows : List Row) (before value : Text) → IsSettled rules before → has_row before rows ≡ false
      → have_distinct_names pairs ≡ true → list_all known pairs ≡ true → list_all (is_fresh (rows ++ value_row before value ∷ [])) pairs ≡ true
      → Ends (leaf title rules) (at_value position rows before value) (words_of pairs) ((rows ++ value_row before value ∷ []) ++ map option_row pairs)
  unfolding walk_passes have_distinct_names
  options_end plain [] rows before value settled absent distinct are fresh = record {
    walks = refl;
    settles = passes_once rules before value rows settled absent;
    finishes = no_defaults rules (settled_rows rules (Some (before, value ∷ [])) rows) plain ∙ settles_once rules before value rows settled absent ∙ sym (append-nil (rows ++ value_row before value ∷ []));
  }
  options_end plain (pair ∷ pairs) rows before value settled absent distinct are fresh =
      let options = and_parts (known pair) (list_all known pairs) are in
      let names = and_parts (not (list_any (is_named pair.0) pairs)) (have_distinct_names pairs) distinct in
      let more = rows ++ value_row before value ∷ [] in
      let freshes = and_parts (is_fresh more pair) (list_all (is_fresh more) pairs) fresh in
      let one = given pair options.0 in
      let later = options_end plain pairs more (name_of pair) pair.1 (option_settled pair.0 (name_of pair) one.is) (not-true (has_row (name_of pair) more) freshes.0) names.1 options.1
      (fresh_more pairs more pair.0 (name_of pair) pair.1 one.is options.1 (not-true (list_any (is_named pair.0) pairs) names.0) freshes.1) in
      let end = (more ++ option_row pair ∷ []) ++ map option_row pairs in
      subst (Ends (leaf title rules) (at_value position rows before value) (words_of (pair ∷ pairs))) (append_assoc more (option_row pair ∷ []) (map option_row pairs))
      (ends_after (leaf title rules) (at_value position rows before value) (at_option position more (name_of pair)) pair.0 (pair.1 ∷ words_of pairs) end
      (option_turn title rules position pair.0 (name_of pair) rows before value one.is settled absent) (option_walked title rules position pair.0 (name_of pair) rows before value one.is settled absent)
      (ends_after (leaf title rules) (at_option position more (name_of pair)) (at_value position more (name_of pair) pair.1) pair.1 (words_of pairs) end
      (value_turn title rules position pair.0 (name_of pair) pair.1 more one.is one.plain) (value_walked title rules position pair.0 (name_of pair) pair.1 more one.is one.plain) later))

  -- the value that is found for an option is that of its name
  pub value_among : (word name : Text) (pairs : List Pair) → IsOption rules word name → list_all known pairs ≡ true → first_of name (map option_row pairs) ≡ value_named word pairs
  value_among word name [] is are = refl
  value_among word name (pair ∷ pairs) is are =
      let options = and_parts (known pair) (list_all known pairs) are in
      at (is_named word pair) (same_names pair.0 word (name_of pair) name (given pair options.0).is is) (value_among word name pairs is options.1)
    where
      at : (b : Bool) → b ≡ bytes_eq (name_of pair) name → first_of name (map option_row pairs) ≡ value_named word pairs
          → first_of name (map option_row (pair ∷ pairs)) ≡ option_map (λ (pair : Pair). pair.1) (cond b (Some pair) (find (is_named word) pairs))
      at true named later = ap (λ b. option_and_then (λ (row : Row). slice_get row.values 0) (cond b (Some (option_row pair)) (find (λ row. bytes_eq row.id name) (map option_row pairs)))) (sym named)
      at false named later = ap (λ b. option_and_then (λ (row : Row). slice_get row.values 0) (cond b (Some (option_row pair)) (find (λ row. bytes_eq row.id name) (map option_row pairs)))) (sym named) ∙ later

-- a value is found behind a row of another name
pub found_behind : (name before value : Text) (rows : List Row) → bytes_eq before name ≡ false → first_of name (value_row before value ∷ rows) ≡ first_of name rows
found_behind name before value rows other =
    ap (λ b. option_and_then (λ (row : Row). slice_get row.values 0) (cond b (Some (value_row before value)) (find (λ row. bytes_eq row.id name) rows))) other

-- ---- options among words

-- options are words by twos, each name once, each an option
pub record AreOptions (words : List Text) (options : List Pair) : Type 0 where
  pub spelled : words_of options ≡ words
  pub distinct : have_distinct_names options ≡ true
  pub all : list_all is_option options ≡ true

pairs_spelled : (words : List Text) → IfSome (pairs_of words) (λ pairs. words_of pairs ≡ words)
unfolding pairs_of
pairs_spelled [] = refl
pairs_spelled (name ∷ []) = tt
pairs_spelled (name ∷ value ∷ words) = at (pairs_of words) (pairs_spelled words)
  where
    at : (pairs : Option (List Pair)) → IfSome pairs (λ ps. words_of ps ≡ words) → IfSome (option_map (λ ps. (name, value) ∷ ps) pairs) (λ ps. words_of ps ≡ name ∷ value ∷ words)
    at None spelled = tt
    at (Some pairs) spelled = ap (λ ws. name ∷ value ∷ ws) spelled

options_are : (words : List Text) → IfSome (options_of words) (AreOptions words)
options_are words = at (pairs_of words) (pairs_spelled words)
  where
    chosen : (pairs : List Pair) (b : Bool) → (have_distinct_names pairs && list_all is_option pairs) ≡ b → words_of pairs ≡ words → IfSome (cond b (Some pairs) None) (AreOptions words)
    chosen pairs true stand spelled =
        let parts = and_parts (have_distinct_names pairs) (list_all is_option pairs) stand in
        record { spelled = spelled; distinct = parts.0; all = parts.1 }
    chosen pairs false stand spelled = tt

    at : (pairs : Option (List Pair)) → IfSome pairs (λ ps. words_of ps ≡ words)
        → IfSome (option_and_then (λ ps. cond (have_distinct_names ps && list_all is_option ps) (Some ps) None) pairs) (AreOptions words)
    at None spelled = tt
    at (Some pairs) spelled = chosen pairs (have_distinct_names pairs && list_all is_option pairs) refl spelled

pub these_options : (words : List Text) (options : List Pair) → options_of words ≡ Some options → AreOptions words options
these_options words options are = subst (λ os. IfSome os (AreOptions words)) are (options_are words)

-- ---- the words of a run

is_command : IsCommand (codes "replay") replay_leaf
unfolding clap_on_literals
is_command = record { met = refl; turn = refl; among = refl }

pub run_taken : (list : Text) (words : List Text) (options : List Pair) → IsPlain list → options_of words ≡ Some options
    → IsTaken (codes "replay") (list ∷ words) (codes "replay", value_row (codes "list") list ∷ map option_row options)
run_taken list words options plain are =
    let these = these_options words options are in
    let rows = value_row (codes "list") list ∷ map option_row options in
    let fresh = fresh_behind (codes "replay") replay_rules 2 is_option option_given (value_row (codes "list") list ∷ []) (λ word name is. ap (λ b. b || false) is.no_list) options these.all in
    taken (codes "replay") replay_leaf (list ∷ words) rows is_command
    (begins replay_leaf (codes "list") list words rows refl plain
    (subst (λ ws. Ends replay_leaf (at_value 2 [] (codes "list") list) ws rows) these.spelled
    (options_end (codes "replay") replay_rules 2 is_option option_given refl options [] (codes "list") list list_settled refl these.distinct these.all fresh)))
    refl

pub option_found : (list word name : Text) (words : List Text) (pairs : List Pair) → IsOption replay_rules word name → options_of words ≡ Some pairs
    → first_of name (value_row (codes "list") list ∷ map option_row pairs) ≡ value_named word pairs
option_found list word name words pairs is are =
    found_behind name (codes "list") list (map option_row pairs) is.no_list
    ∙ value_among (codes "replay") replay_rules 2 is_option option_given word name pairs is (these_options words pairs are).all
