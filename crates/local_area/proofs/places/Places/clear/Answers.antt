-- No entries have no pairs.
use Rattle.local_area.proofs.ChangesLemmas.{places-none}
use Rattle.local_area.proofs.places.Places.clear.Goals as goal

pub invariant_of-self : goal.invariant_of-self
invariant_of-self c = places-none _ _ c.clear.ensures.empty c.clear-2.ensures.items
