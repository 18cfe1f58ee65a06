-- No entries have no pairs.
use Rattle.local_area.proofs.ChangesLemmas.{places-none}
use Rattle.local_area.proofs.places.Places.new.Goals as goal

pub invariant_of-result : goal.invariant_of-result
invariant_of-result c = places-none _ _ c.new.ensures.empty c.new-2.ensures.items
