-- The bytes before those that are left are the spelling of the key.
use Rattle.std.proofs.Common.{arith, ◌∙◌}
use Rattle.storage_key.specs.Plain.{plain_key}
use Rattle.row_changes.proofs.KeyLemmas.{front_spelling}
use Rattle.row_changes.proofs.keys.Keys.keep.Goals as goal

pub kept-requires : goal.kept-requires
kept-requires c =
    let s = front_spelling c.args.bytes.now c.args.rest.now (plain_key c.args.key.now)
    (λ i. omega (arith, c.type_inv.bytes i)) c.requires.read in
    record { spelling = (s.0, c.front_of-front.ensures.front ∙ s.1) }
