-- What `clap` makes of the words of a self-test.
use Rattle.std.proofs.Common.{[], ◌∷◌, codes, refl}
use Rattle.clap.specs.Words.{Text}
use Rattle.clap.specs.Takes.{walk_passes}
use Rattle.clap.proofs.OnLiterals.{clap_on_literals}
use Rattle.command_line.proofs.ClapLemmas.{Ends, IsCommand, IsPlain, IsTaken, at_value, begins, selftest_leaf, taken, value_row}

is_command : IsCommand (codes "selftest") selftest_leaf
unfolding clap_on_literals
is_command = record { met = refl; turn = refl; among = refl }

ended : (seed : Text) → Ends selftest_leaf (at_value 2 [] (codes "seed") seed) [] (value_row (codes "seed") seed ∷ [])
unfolding walk_passes
ended seed = record { walks = refl; settles = refl; finishes = refl }

pub selftest_taken : (seed : Text) → IsPlain seed → IsTaken (codes "selftest") (seed ∷ []) (codes "selftest", value_row (codes "seed") seed ∷ [])
selftest_taken seed plain =
    let rows = value_row (codes "seed") seed ∷ [] in
    taken (codes "selftest") selftest_leaf (seed ∷ []) rows is_command
    (begins selftest_leaf (codes "seed") seed [] rows refl plain (ended seed))
    refl
