-- A clone of the map has the same pairs.
use Rattle.std.proofs.Common.{◌≡◌, ◌∙◌, length}
use Rattle.local_area.specs.Places.{pairs_of}
use Rattle.local_area.proofs.EntriesLemmas.{pairs_of-clone}
use Rattle.local_area.proofs.ChangesLemmas.{places-same}
use Rattle.local_area.proofs.places.Places.copy.Goals as goal

pub invariant_of-places : goal.invariant_of-places
invariant_of-places c =
    let same : (pairs_of c.in-Ok.entries.entries ≡ pairs_of c.self.inside.entries.entries) × (length c.in-Ok.entries.entries ≡ length c.self.inside.entries.entries) =
    pairs_of-clone c.self.inside.entries.entries c.in-Ok.entries.entries c.in-Ok.ensures.cases in
    places-same _ _ _ _ _ c.self.invariant same.0 same.1 c.new.ensures.items

pub returns : goal.returns
returns c =
    let same : (pairs_of c.in-Ok.entries.entries ≡ pairs_of c.self.inside.entries.entries) × (length c.in-Ok.entries.entries ≡ length c.self.inside.entries.entries) =
    pairs_of-clone c.self.inside.entries.entries c.in-Ok.entries.entries c.in-Ok.ensures.cases in
    record { same = c.count.ensures.same ∙ same.0 ∙ c.self.view_is }
