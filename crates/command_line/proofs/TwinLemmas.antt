-- What `clap` makes of the words of a comparison.
use Rattle.std.proofs.Common.{◌≡◌, true, false, cond, ◌||◌, List, [], ◌∷◌, Option, Some, None, IfSome, codes, map, option_and_then, refl, ap, ap₂, subst, sym, ◌∙◌}
use Rattle.std.specs.Prelude.{is_none, is_some}
use Rattle.std.specs.List.{list_all}
use Rattle.clap.specs.Words.{Text, first_of}
use Rattle.clap.proofs.OnLiterals.{clap_on_literals}
use Rattle.command_line.specs.Options.{Pair, have_distinct_names, is_number_option, options_of, storeless_of, value_named}
use Rattle.command_line.proofs.ClapLemmas.{Ends, IsCommand, IsPlain, IsTaken, at_value, begins, goes_on, taken, twin_leaf, twin_rules, value_row}
use Rattle.command_line.proofs.OptionLemmas.{IsGiven, IsOption, list_settled_behind, number_given, numbers_alone, twin_numbers}
use Rattle.command_line.proofs.PairLemmas.{value_stands}
use Rattle.command_line.proofs.RunLemmas.{fresh_behind, found_behind, option_row, options_end, these_options, value_among, words_of}

-- options of which none is the store are words by twos, each name once, each a number
pub record AreNumbers (words : List Text) (options : List Pair) : Type 0 where
  pub spelled : words_of options ≡ words
  pub distinct : have_distinct_names options ≡ true
  pub all : list_all is_number_option options ≡ true

numbers_are : (words : List Text) → IfSome (storeless_of words) (AreNumbers words)
numbers_are words = at (options_of words) refl
  where
    chosen : (options : List Pair) (store : Option Text) → options_of words ≡ Some options → value_named (codes "--store") options ≡ store
        → IfSome (cond (is_none store) (Some options) None) (AreNumbers words)
    chosen options None are none =
        let these = these_options words options are in
        record {
          spelled = these.spelled;
          distinct = these.distinct;
          all = numbers_alone options these.all (sym (value_stands (codes "--store") options) ∙ ap is_some none);
        }
    chosen options (Some store) are some = tt

    at : (options : Option (List Pair)) → options_of words ≡ options
        → IfSome (option_and_then (λ os. cond (is_none (value_named (codes "--store") os)) (Some os) None) options) (AreNumbers words)
    at None are = tt
    at (Some options) are = chosen options (value_named (codes "--store") options) are refl

pub these_numbers : (words : List Text) (options : List Pair) → storeless_of words ≡ Some options → AreNumbers words options
these_numbers words options are = subst (λ os. IfSome os (AreNumbers words)) are (numbers_are words)

is_command : IsCommand (codes "twin") twin_leaf
unfolding clap_on_literals
is_command = record { met = refl; turn = refl; among = refl }

given : (pair : Pair) → is_number_option pair ≡ true → IsGiven twin_rules pair
given pair is = number_given twin_rules twin_numbers pair is

pub twin_taken : (site list : Text) (words : List Text) (options : List Pair) → IsPlain site → IsPlain list → storeless_of words ≡ Some options
    → IsTaken (codes "twin") (site ∷ list ∷ words) (codes "twin", value_row (codes "site") site ∷ value_row (codes "list") list ∷ map option_row options)
twin_taken site list words options first second are =
    let these = these_numbers words options are in
    let rows = value_row (codes "site") site ∷ value_row (codes "list") list ∷ map option_row options in
    let fresh = fresh_behind (codes "twin") twin_rules 3 is_number_option given (value_row (codes "site") site ∷ value_row (codes "list") list ∷ [])
    (λ word name is. ap₂ (λ x y. x || (y || false)) is.no_site is.no_list) options these.all in
    taken (codes "twin") twin_leaf (site ∷ list ∷ words) rows is_command
    (begins twin_leaf (codes "site") site (list ∷ words) rows refl first
    (goes_on twin_leaf (codes "site") site (codes "list") list words rows refl refl refl refl second
    (subst (λ ws. Ends twin_leaf (at_value 3 (value_row (codes "site") site ∷ []) (codes "list") list) ws rows) these.spelled
    (options_end (codes "twin") twin_rules 3 is_number_option given refl options (value_row (codes "site") site ∷ []) (codes "list") list list_settled_behind refl these.distinct these.all fresh))))
    refl

pub number_found : (site list word name : Text) (words : List Text) (pairs : List Pair) → IsOption twin_rules word name → storeless_of words ≡ Some pairs
    → first_of name (value_row (codes "site") site ∷ value_row (codes "list") list ∷ map option_row pairs) ≡ value_named word pairs
number_found site list word name words pairs is are =
    found_behind name (codes "site") site (value_row (codes "list") list ∷ map option_row pairs) is.no_site
    ∙ found_behind name (codes "list") list (map option_row pairs) is.no_list
    ∙ value_among (codes "twin") twin_rules 3 is_number_option given word name pairs is (these_numbers words pairs are).all
