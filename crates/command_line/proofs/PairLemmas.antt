-- Names and values by turns, read two by two.
use Rattle.std.proofs.Common.{◌≡◌, ◌<◌, ◌≤◌, ◌-◌, Bool, true, false, cond, ◌&&◌, ◌||◌, List, [], ◌∷◌, length, take, drop, map, get_or, String, string_bytes}
use Rattle.std.proofs.Common.{Option, Some, None, IfSome, option_and_then, option_map, refl, ap, ap₂, sym, ◌∙◌, arith, take_all}
use Rattle.std.specs.Prelude.{bytes_eq, codes, find, is_none, is_some, not}
use Rattle.std.specs.List.{list_all, list_any}
use Rattle.std.specs.declared.alloc.Global.{Global}
use Rattle.std.proofs.lemmas.Bool.{false≢true}
use Rattle.clap.specs.Words.{Text}
use Rattle.command_line.specs.Options.{Pair, batch_of, checkpoint_of, have_distinct_names, is_named, is_option, options_of, pairs_of, start_of, storeless_of, value_named}
use Rattle.command_line.specs.Walk.{value_in}
use Rattle.command_line.specs.Words.{Replay, Twin, comparison_of, run_of}

-- ---- words of a slice

-- what holds of no words holds of words fewer than one
pub no_words : {X : Type 0} (f : List Text → X) (words : List (String Global)) → length words < 1 → f (map string_bytes words) ≡ f []
no_words f [] few = refl
no_words f (word ∷ words) few = absurd (omega (arith, few))

-- what is so of each word alone is so of words that are one
pub one_word : {X : Type 0} (f : List Text → X) (x : X) (words : List (String Global)) → ((word : Text) → f (word ∷ []) ≡ x) → 1 ≤ length words → length words < 2
    → f (map string_bytes words) ≡ x
one_word f x [] alone some few = absurd (omega (arith, some))
one_word f x (word ∷ []) alone some few = alone (string_bytes word)
one_word f x (word ∷ other ∷ words) alone some few = absurd (omega (arith, few))

-- what is so of no words and of each word alone is so of words fewer than two
pub few_words : {X : Type 0} (f : List Text → X) (x : X) (words : List (String Global)) → f [] ≡ x → ((word : Text) → f (word ∷ []) ≡ x) → length words < 2
    → f (map string_bytes words) ≡ x
few_words f x [] none alone few = none
few_words f x (word ∷ []) none alone few = alone (string_bytes word)
few_words f x (word ∷ other ∷ words) none alone few = absurd (omega (arith, few))

-- two words and what stands behind them
pub two_words : (words : List (String Global)) (name value : String Global) → 2 ≤ length words → name ≡ get_or words 0 name → value ≡ get_or words 1 value
    → map string_bytes words ≡ string_bytes name ∷ string_bytes value ∷ map string_bytes (take (length words - 2) (drop 2 words))
two_words [] name value many first second = absurd (omega (arith, many))
two_words (a ∷ []) name value many first second = absurd (omega (arith, many))
two_words (a ∷ b ∷ words) name value many first second =
    let rest : length (a ∷ b ∷ words) - 2 ≡ length words = omega arith in
    let all : take (length (a ∷ b ∷ words) - 2) words ≡ words = take_all (length (a ∷ b ∷ words) - 2) words (omega (arith, rest)) in
    ap (λ ws. string_bytes a ∷ string_bytes b ∷ map string_bytes ws) (sym all)
    ∙ ap (λ n. string_bytes n ∷ string_bytes b ∷ map string_bytes (take (length (a ∷ b ∷ words) - 2) words)) (sym first)
    ∙ ap (λ v. string_bytes name ∷ string_bytes v ∷ map string_bytes (take (length (a ∷ b ∷ words) - 2) words)) (sym second)

-- ---- the value of a name

-- what is found among words is what is found among their pairs
value_of_pairs : (name : Text) (words : List Text) → IfSome (pairs_of words) (λ pairs. value_in name words ≡ value_named name pairs)
unfolding pairs_of value_in
value_of_pairs name [] = refl
value_of_pairs name (other ∷ []) = tt
value_of_pairs name (other ∷ value ∷ words) = at (pairs_of words) (value_of_pairs name words)
  where
    chosen : (pairs : List Pair) (b : Bool) → value_in name words ≡ value_named name pairs
        → cond b (Some value) (value_in name words) ≡ option_map (λ (pair : Pair). pair.1) (cond b (Some (other, value)) (find (is_named name) pairs))
    chosen pairs true later = refl
    chosen pairs false later = later

    at : (pairs : Option (List Pair)) → IfSome pairs (λ ps. value_in name words ≡ value_named name ps)
        → IfSome (option_map (λ ps. (other, value) ∷ ps) pairs) (λ ps. cond (bytes_eq other name) (Some value) (value_in name words) ≡ value_named name ps)
    at None later = tt
    at (Some pairs) later = chosen pairs (bytes_eq other name) later

-- a name has a value where it stands
pub value_stands : (name : Text) (pairs : List Pair) → is_some (value_named name pairs) ≡ list_any (is_named name) pairs
value_stands name [] = refl
value_stands name (pair ∷ pairs) = at (is_named name pair) (value_stands name pairs)
  where
    at : (b : Bool) → is_some (value_named name pairs) ≡ list_any (is_named name) pairs
        → is_some (option_map (λ (pair : Pair). pair.1) (cond b (Some pair) (find (is_named name) pairs))) ≡ (b || list_any (is_named name) pairs)
    at true later = refl
    at false later = later

-- ---- the options of words

abbrev stand : List Pair → Bool
stand pairs = have_distinct_names pairs && list_all is_option pairs

nothing_stands : (b : Bool) → false ≡ (b && false)
nothing_stands true = refl
nothing_stands false = refl

one_more : {X : Type 0} (x y : X) (repeated distinct first rest : Bool)
    → is_some (cond ((not repeated && distinct) && (first && rest)) (Some x) None) ≡ ((first && not repeated) && is_some (cond (distinct && rest) (Some y) None))
one_more x y true distinct true rest = refl
one_more x y true distinct false rest = refl
one_more x y false false true rest = refl
one_more x y false false false rest = refl
one_more x y false true true true = refl
one_more x y false true true false = refl
one_more x y false true false rest = refl

-- words are options where the first two are one whose name does not stand again, and the others are options
pub options_of_more : (name value : Text) (words : List Text)
    → is_some (options_of (name ∷ value ∷ words)) ≡ ((is_option (name, value) && not (is_some (value_in name words))) && is_some (options_of words))
unfolding pairs_of have_distinct_names
options_of_more name value words = at (pairs_of words) (value_of_pairs name words)
  where
    at : (pairs : Option (List Pair)) → IfSome pairs (λ ps. value_in name words ≡ value_named name ps)
        → is_some (option_and_then (λ ps. cond (stand ps) (Some ps) None) (option_map (λ ps. (name, value) ∷ ps) pairs))
        ≡ ((is_option (name, value) && not (is_some (value_in name words))) && is_some (option_and_then (λ ps. cond (stand ps) (Some ps) None) pairs))
    at None later = nothing_stands (is_option (name, value) && not (is_some (value_in name words)))
    at (Some pairs) later =
        one_more ((name, value) ∷ pairs) pairs (list_any (is_named name) pairs) (have_distinct_names pairs) (is_option (name, value)) (list_all is_option pairs)
        ∙ ap (λ b. (is_option (name, value) && not b) && is_some (cond (stand pairs) (Some pairs) None)) (sym (ap is_some later ∙ value_stands name pairs))

-- the values that are found among options
values_of_options : (words : List Text) → IfSome (options_of words) (λ options. (name : Text) → value_in name words ≡ value_named name options)
values_of_options words = at (pairs_of words) (λ name. value_of_pairs name words)
  where
    chosen : (pairs : List Pair) (b : Bool) → ((name : Text) → value_in name words ≡ value_named name pairs)
        → IfSome (cond b (Some pairs) None) (λ options. (name : Text) → value_in name words ≡ value_named name options)
    chosen pairs true found = found
    chosen pairs false found = tt

    at : (pairs : Option (List Pair)) → ((name : Text) → IfSome pairs (λ ps. value_in name words ≡ value_named name ps))
        → IfSome (option_and_then (λ ps. cond (stand ps) (Some ps) None) pairs) (λ options. (name : Text) → value_in name words ≡ value_named name options)
    at None found = tt
    at (Some pairs) found = chosen pairs (stand pairs) found

-- what is made of the values that are found among options is made of the options' values
values_found : {X : Type 0} (make : (store batch checkpoint start : Option Text) → X) (words : List Text) → is_some (options_of words) ≡ true
    → Some (make (value_in (codes "--store") words) (value_in (codes "--batch") words) (value_in (codes "--checkpoint") words) (value_in (codes "--start") words))
    ≡ option_map (λ options. make (value_named (codes "--store") options) (value_named (codes "--batch") options) (value_named (codes "--checkpoint") options) (value_named (codes "--start") options)) (options_of words)
values_found make words = at (options_of words) (values_of_options words)
  where
    at : (options : Option (List Pair)) → IfSome options (λ os. (name : Text) → value_in name words ≡ value_named name os) → is_some options ≡ true
        → Some (make (value_in (codes "--store") words) (value_in (codes "--batch") words) (value_in (codes "--checkpoint") words) (value_in (codes "--start") words))
        ≡ option_map (λ os. make (value_named (codes "--store") os) (value_named (codes "--batch") os) (value_named (codes "--checkpoint") os) (value_named (codes "--start") os)) options
    at None found is = absurd (false≢true is)
    at (Some options) found is =
        ap₂ (λ store batch. Some (make store batch (value_in (codes "--checkpoint") words) (value_in (codes "--start") words))) (found (codes "--store")) (found (codes "--batch"))
        ∙ ap₂ (λ checkpoint start. Some (make (value_named (codes "--store") options) (value_named (codes "--batch") options) checkpoint start)) (found (codes "--checkpoint")) (found (codes "--start"))

-- the run of the values that are found among options is the run of the options
pub run_found : (list : Text) (words : List Text) → is_some (options_of words) ≡ true
    → Some (Replay list (value_in (codes "--store") words) (batch_of (value_in (codes "--batch") words)) (checkpoint_of (value_in (codes "--checkpoint") words)) (start_of (value_in (codes "--start") words)))
    ≡ option_map (run_of list) (options_of words)
run_found list words are = values_found (λ store batch checkpoint start. Replay list store (batch_of batch) (checkpoint_of checkpoint) (start_of start)) words are

-- words are options without the store where they are options and it does not stand
pub storeless : (words : List Text) → storeless_of words ≡ cond (is_some (value_in (codes "--store") words)) None (options_of words)
storeless words = at (options_of words) (values_of_options words)
  where
    none_left : (b : Bool) → ◌≡◌ {A = Option (List Pair)} None (cond b None None)
    none_left true = refl
    none_left false = refl

    chosen : (options : List Pair) (store : Option Text) → cond (is_none store) (Some options) None ≡ cond (is_some store) None (Some options)
    chosen options None = refl
    chosen options (Some store) = refl

    at : (options : Option (List Pair)) → IfSome options (λ os. (name : Text) → value_in name words ≡ value_named name os)
        → option_and_then (λ os. cond (is_none (value_named (codes "--store") os)) (Some os) None) options ≡ cond (is_some (value_in (codes "--store") words)) None options
    at None found = none_left (is_some (value_in (codes "--store") words))
    at (Some options) found =
        chosen options (value_named (codes "--store") options)
        ∙ ap (λ store. cond (is_some store) None (Some options)) (sym (found (codes "--store")))

-- of words that are no options, or have a store, nothing is made
pub no_options : {X : Type 0} (make : List Pair → X) (words : List Text) → is_some (options_of words) ≡ false → None ≡ option_map make (storeless_of words)
no_options make words none = at (options_of words) none
  where
    at : (options : Option (List Pair)) → is_some options ≡ false → None ≡ option_map make (option_and_then (λ os. cond (is_none (value_named (codes "--store") os)) (Some os) None) options)
    at None none = refl
    at (Some options) none = absurd (false≢true (sym none))

pub store_stands : {X : Type 0} (make : List Pair → X) (words : List Text) → is_some (value_in (codes "--store") words) ≡ true → None ≡ option_map make (storeless_of words)
store_stands make words stands = ap (option_map make) (sym (storeless words ∙ ap (λ b. cond b None (options_of words)) stands))

-- the same of a comparison
pub comparison_found : (site list : Text) (words : List Text) → is_some (options_of words) ≡ true → is_some (value_in (codes "--store") words) ≡ false
    → Some (Twin site list (batch_of (value_in (codes "--batch") words)) (checkpoint_of (value_in (codes "--checkpoint") words)) (start_of (value_in (codes "--start") words)))
    ≡ option_map (comparison_of site list) (storeless_of words)
comparison_found site list words are none =
    values_found (λ store batch checkpoint start. Twin site list (batch_of batch) (checkpoint_of checkpoint) (start_of start)) words are
    ∙ ap (option_map (comparison_of site list)) (sym (storeless words ∙ ap (λ b. cond b None (options_of words)) none))
