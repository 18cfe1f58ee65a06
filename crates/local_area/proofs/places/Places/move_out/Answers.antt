-- What the map loses is what the pairs lose.
use Rattle.std.proofs.Common.{◌∙◌, ap}
use Rattle.std.specs.Prelude.{option_map, string_bytes}
use Rattle.local_area.proofs.EntriesLemmas.{pairs_of-distinct}
use Rattle.local_area.proofs.ChangesLemmas.{pairs_of-found, pairs_of-removed, places-move}
use Rattle.local_area.proofs.places.Places.move_out.Goals as goal

pub invariant_of-self : goal.invariant_of-self
invariant_of-self c =
    places-move _ _ c.as_bytes.result.now _ _ _ c.self.invariant c.as_bytes.ensures.utf8 c.shift_remove.ensures.unique
    c.shift_remove.ensures.entries (rw c.shift_remove.ensures.value at c.shift_remove.ensures.len) c.clear.ensures.items

pub returns-clause-value : goal.returns-clause-value
returns-clause-value c =
    ap (option_map string_bytes) c.shift_remove.ensures.value
    ∙ pairs_of-found c.self.inside.entries.entries _ _ _ c.as_bytes.ensures.utf8 c.as_bytes.ensures.value c.self.view_is

pub returns-clause-removed : goal.returns-clause-removed
returns-clause-removed c =
    pairs_of-removed _ _ c.as_bytes.result.now _ _ c.as_bytes.ensures.utf8 c.as_bytes.ensures.value c.shift_remove.ensures.entries
    c.self.invariant.distinct c.self.view_is

pub returns-clause-distinct : goal.returns-clause-distinct
returns-clause-distinct c = pairs_of-distinct _ c.shift_remove.ensures.unique
