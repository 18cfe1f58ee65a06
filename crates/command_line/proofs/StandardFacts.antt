-- Words and numbers of the command line, so that a wrong rule in the specs does not check.
use Rattle.std.proofs.Common.{◌≡◌, refl, [], ◌∷◌, Some, None, arith}
use Rattle.std.specs.Prelude.{codes}
use Rattle.command_line.specs.Options.{have_distinct_names, number_of, pairs_of}
use Rattle.command_line.specs.Shows.{IsShowInRange, Shows, show_of}
use Rattle.command_line.specs.Shows as show
use Rattle.command_line.specs.Words.{Dump, Help, IsInRange, Replay, Selftest, TakesMemory, Twin, command_of}
use Rattle.command_line.specs.declared.shows.Shown.TheVariants.{Difference, Script}

alone : command_of (codes "replay" ∷ codes "l" ∷ []) ≡ Some (Replay (codes "l") None 1 1000 1767225600)
unfolding pairs_of have_distinct_names
alone = refl

stored : command_of (codes "replay" ∷ codes "l" ∷ codes "--store" ∷ codes "s" ∷ []) ≡ Some (Replay (codes "l") (Some (codes "s")) 1 1000 1767225600)
unfolding pairs_of have_distinct_names
stored = refl

all_options : command_of (codes "replay" ∷ codes "l" ∷ codes "--start" ∷ codes "5" ∷ codes "--checkpoint" ∷ codes "0" ∷ codes "--batch" ∷ codes "256" ∷ codes "--store" ∷ codes "s" ∷ []) ≡ Some (Replay (codes "l") (Some (codes "s")) 256 0 5)
unfolding pairs_of have_distinct_names
all_options = refl

twice_with_another_between : command_of (codes "replay" ∷ codes "l" ∷ codes "--batch" ∷ codes "2" ∷ codes "--start" ∷ codes "5" ∷ codes "--batch" ∷ codes "2" ∷ []) ≡ None
unfolding pairs_of have_distinct_names
twice_with_another_between = refl

no_batch : command_of (codes "replay" ∷ codes "l" ∷ codes "--batch" ∷ codes "0" ∷ []) ≡ None
unfolding pairs_of have_distinct_names
no_batch = refl

too_long_a_batch : command_of (codes "replay" ∷ codes "l" ∷ codes "--batch" ∷ codes "257" ∷ []) ≡ None
unfolding pairs_of have_distinct_names
too_long_a_batch = refl

store_like_an_option : command_of (codes "replay" ∷ codes "l" ∷ codes "--store" ∷ codes "-s" ∷ []) ≡ None
unfolding pairs_of have_distinct_names
store_like_an_option = refl

empty_store : command_of (codes "replay" ∷ codes "l" ∷ codes "--store" ∷ [] ∷ []) ≡ None
unfolding pairs_of have_distinct_names
empty_store = refl

rare_checkpoints : command_of (codes "replay" ∷ codes "l" ∷ codes "--checkpoint" ∷ codes "1000000" ∷ []) ≡ Some (Replay (codes "l") None 1 1000000 1767225600)
unfolding pairs_of have_distinct_names
rare_checkpoints = refl

too_rare_checkpoints : command_of (codes "replay" ∷ codes "l" ∷ codes "--checkpoint" ∷ codes "1000001" ∷ []) ≡ None
unfolding pairs_of have_distinct_names
too_rare_checkpoints = refl

other_option : command_of (codes "replay" ∷ codes "l" ∷ codes "--stores" ∷ codes "5" ∷ []) ≡ None
unfolding pairs_of have_distinct_names
other_option = refl

as_one_word : command_of (codes "replay" ∷ codes "l" ∷ codes "--start=5" ∷ []) ≡ None
unfolding pairs_of have_distinct_names
as_one_word = refl

bare : command_of (codes "replay" ∷ []) ≡ None
bare = refl

dumped : command_of (codes "dump" ∷ codes "l" ∷ codes "s" ∷ []) ≡ Some (Dump (codes "l") (codes "s"))
dumped = refl

dumped_from_nothing : command_of (codes "dump" ∷ codes "l" ∷ []) ≡ None
dumped_from_nothing = refl

dumped_with_an_option : command_of (codes "dump" ∷ codes "l" ∷ codes "s" ∷ codes "--start" ∷ codes "5" ∷ []) ≡ None
dumped_with_an_option = refl

dumped_like_an_option : command_of (codes "dump" ∷ codes "l" ∷ codes "--store" ∷ []) ≡ None
dumped_like_an_option = refl

tested : command_of (codes "selftest" ∷ codes "7" ∷ []) ≡ Some (Selftest 7)
tested = refl

tested_with_the_last_seed : command_of (codes "selftest" ∷ codes "4294967295" ∷ []) ≡ Some (Selftest 4294967295)
tested_with_the_last_seed = refl

tested_past_the_last_seed : command_of (codes "selftest" ∷ codes "4294967296" ∷ []) ≡ None
tested_past_the_last_seed = refl

tested_with_no_number : command_of (codes "selftest" ∷ codes "-1" ∷ []) ≡ None
tested_with_no_number = refl

tested_with_another_word : command_of (codes "selftest" ∷ codes "7" ∷ codes "7" ∷ []) ≡ None
tested_with_another_word = refl

tested_with_no_seed : command_of (codes "selftest" ∷ []) ≡ None
tested_with_no_seed = refl

tested_with_an_option : command_of (codes "selftest" ∷ codes "7" ∷ codes "--batch" ∷ codes "1" ∷ []) ≡ None
tested_with_an_option = refl

compared : command_of (codes "twin" ∷ codes "https://a.test" ∷ codes "l" ∷ []) ≡ Some (Twin (codes "https://a.test") (codes "l") 1 1000 1767225600)
unfolding pairs_of have_distinct_names
compared = refl

compared_with_all_options : command_of (codes "twin" ∷ codes "s" ∷ codes "l" ∷ codes "--start" ∷ codes "5" ∷ codes "--checkpoint" ∷ codes "0" ∷ codes "--batch" ∷ codes "256" ∷ []) ≡ Some (Twin (codes "s") (codes "l") 256 0 5)
unfolding pairs_of have_distinct_names
compared_with_all_options = refl

compared_over_a_store : command_of (codes "twin" ∷ codes "s" ∷ codes "l" ∷ codes "--store" ∷ codes "p" ∷ []) ≡ None
unfolding pairs_of have_distinct_names
compared_over_a_store = refl

compared_by_an_option_twice : command_of (codes "twin" ∷ codes "s" ∷ codes "l" ∷ codes "--batch" ∷ codes "2" ∷ codes "--batch" ∷ codes "2" ∷ []) ≡ None
unfolding pairs_of have_distinct_names
compared_by_an_option_twice = refl

compared_under_no_list : command_of (codes "twin" ∷ codes "https://a.test" ∷ []) ≡ None
compared_under_no_list = refl

compared_for_an_option : command_of (codes "twin" ∷ codes "--batch" ∷ codes "l" ∷ []) ≡ None
compared_for_an_option = refl

no_other_command : command_of (codes "twins" ∷ codes "s" ∷ codes "l" ∷ []) ≡ None
no_other_command = refl

help_and_more : command_of (codes "--help" ∷ codes "replay" ∷ codes "l" ∷ []) ≡ None
help_and_more = refl

help : command_of (codes "--help" ∷ []) ≡ Some Help
help = refl

last_moment : number_of 0 253402300799 (codes "253402300799") ≡ Some 253402300799
last_moment = refl

past_the_last_moment : number_of 0 253402300799 (codes "253402300800") ≡ None
past_the_last_moment = refl

exponent : number_of 0 253402300799 (codes "1e3") ≡ None
exponent = refl

thirteen_digits : number_of 0 253402300799 (codes "0000000000001") ≡ None
thirteen_digits = refl

first_of_two : number_of 1 2 (codes "01") ≡ Some 1
first_of_two = refl

before_the_first : number_of 1 2 (codes "00") ≡ None
before_the_first = refl

in_range : IsInRange (Replay (codes "l") None 256 1000000 253402300799)
in_range = (omega arith, omega arith, omega arith, omega arith)

begins_too_late : IsInRange (Replay (codes "l") None 1 0 253402300800) → ⊥
begins_too_late is = omega (arith, is.3)

checkpoints_too_rare : IsInRange (Replay (codes "l") None 1 1000001 0) → ⊥
checkpoints_too_rare is = omega (arith, is.2)

batch_of_none : IsInRange (Replay (codes "l") None 0 0 0) → ⊥
batch_of_none is = omega (arith, is.0)

batch_too_long : IsInRange (Replay (codes "l") None 257 0 0) → ⊥
batch_too_long is = omega (arith, is.1)

compared_too_late : IsInRange (Twin (codes "s") (codes "l") 1 0 253402300800) → ⊥
compared_too_late is = omega (arith, is.3)

seed_too_late : IsInRange (Selftest 4294967296) → ⊥
seed_too_late is = omega (arith, is)

help_takes_no_memory : TakesMemory Help → ⊥
help_takes_no_memory is = is

selftest_takes_memory : TakesMemory (Selftest 7)
selftest_takes_memory = tt

-- ---- the program that shows what scripts give a site

shown : show_of (codes "show" ∷ codes "https://a.test" ∷ codes "l" ∷ []) ≡ Some (Shows Script (codes "https://a.test") (codes "l") 1 1000 1767225600)
unfolding pairs_of have_distinct_names
shown = refl

shown_of_two : show_of (codes "differ" ∷ codes "s" ∷ codes "l" ∷ codes "--start" ∷ codes "5" ∷ codes "--checkpoint" ∷ codes "0" ∷ codes "--batch" ∷ codes "256" ∷ []) ≡ Some (Shows Difference (codes "s") (codes "l") 256 0 5)
unfolding pairs_of have_distinct_names
shown_of_two = refl

shown_over_a_store : show_of (codes "show" ∷ codes "s" ∷ codes "l" ∷ codes "--store" ∷ codes "p" ∷ []) ≡ None
unfolding pairs_of have_distinct_names
shown_over_a_store = refl

shown_in_too_long_a_batch : show_of (codes "differ" ∷ codes "s" ∷ codes "l" ∷ codes "--batch" ∷ codes "257" ∷ []) ≡ None
unfolding pairs_of have_distinct_names
shown_in_too_long_a_batch = refl

shown_under_no_list : show_of (codes "show" ∷ codes "s" ∷ []) ≡ None
shown_under_no_list = refl

shown_for_an_option : show_of (codes "show" ∷ codes "--batch" ∷ codes "l" ∷ []) ≡ None
shown_for_an_option = refl

command_of_the_other_program : show_of (codes "twin" ∷ codes "s" ∷ codes "l" ∷ []) ≡ None
command_of_the_other_program = refl

no_word : show_of [] ≡ None
no_word = refl

show_help : show_of (codes "--help" ∷ []) ≡ Some show.Help
show_help = refl

show_help_and_more : show_of (codes "--help" ∷ codes "s" ∷ codes "l" ∷ []) ≡ None
show_help_and_more = refl

shown_too_late : IsShowInRange (Shows Script (codes "s") (codes "l") 1 0 253402300800) → ⊥
shown_too_late is = omega (arith, is.3)
