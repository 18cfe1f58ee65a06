-- A look-up in the map is a look-up among the pairs.
use Rattle.std.proofs.Common.{◌∙◌, ap, Some}
use Rattle.std.specs.Prelude.{option_map, string_bytes}
use Rattle.local_area.proofs.ChangesLemmas.{pairs_of-found}
use Rattle.local_area.proofs.places.Places.get.Goals as goal

pub returns-in-Some : goal.returns-in-Some
returns-in-Some c = record {
  value =
      ap Some c.as_str.ensures.value
      ∙ ap (option_map string_bytes) c.in-Some.ensures.value
      ∙ pairs_of-found c.self.inside.entries.entries _ _ _ c.as_bytes.ensures.utf8 c.as_bytes.ensures.value c.self.view_is;
}

pub returns-in-None : goal.returns-in-None
returns-in-None c = record {
  value =
      ap (option_map string_bytes) c.in-None.ensures.value
      ∙ pairs_of-found c.self.inside.entries.entries _ _ _ c.as_bytes.ensures.utf8 c.as_bytes.ensures.value c.self.view_is;
}
