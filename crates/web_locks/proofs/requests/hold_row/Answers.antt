-- The row is written in its place.
use Rattle.std.proofs.Common.{◌∙◌, ap, sym}
use Rattle.std.specs.Ordering.{nat_cmp}
use Rattle.key_map.specs.Entries.{map_set}
use Rattle.web_locks.proofs.ServedLemmas.{held_row_is}
use Rattle.web_locks.proofs.requests.hold_row.Goals as goal

pub returns-in-Some-clause-held : goal.returns-in-Some-clause-held
returns-in-Some-clause-held g c =
    (rw c.in-Some.is at (c.get_mut.follows.holds c.set_held.new.self))
    ∙ ap (λ y. map_set nat_cmp c.args.number y c.args.rows.now) c.set_held.ensures.held
    ∙ sym (held_row_is c.args.number c.in-Some.request.now c.args.rows.now (sym c.in-Some.ensures.value))
