-- What `clap` makes of the words of a dump.
use Rattle.std.proofs.Common.{[], ◌∷◌, codes, refl}
use Rattle.clap.specs.Words.{Text}
use Rattle.clap.specs.Takes.{walk_passes}
use Rattle.clap.proofs.OnLiterals.{clap_on_literals}
use Rattle.command_line.proofs.ClapLemmas.{Ends, IsCommand, IsPlain, IsTaken, at_value, begins, dump_leaf, goes_on, taken, value_row}

is_command : IsCommand (codes "dump") dump_leaf
unfolding clap_on_literals
is_command = record { met = refl; turn = refl; among = refl }

ended : (list store : Text) → Ends dump_leaf (at_value 3 (value_row (codes "list") list ∷ []) (codes "store") store) [] (value_row (codes "list") list ∷ value_row (codes "store") store ∷ [])
unfolding walk_passes
ended list store = record { walks = refl; settles = refl; finishes = refl }

pub dump_taken : (list store : Text) → IsPlain list → IsPlain store
    → IsTaken (codes "dump") (list ∷ store ∷ []) (codes "dump", value_row (codes "list") list ∷ value_row (codes "store") store ∷ [])
dump_taken list store plain other =
    let rows = value_row (codes "list") list ∷ value_row (codes "store") store ∷ [] in
    taken (codes "dump") dump_leaf (list ∷ store ∷ []) rows is_command
    (begins dump_leaf (codes "list") list (store ∷ []) rows refl plain
    (goes_on dump_leaf (codes "list") list (codes "store") store [] rows refl refl refl refl other (ended list store)))
    refl
