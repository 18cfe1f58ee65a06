-- The key of a mark is a new one.
use Rattle.std.proofs.Common.{◌∙◌, sym}
use Rattle.local_area.proofs.ChangesLemmas.{ends_with}
use Rattle.local_area.proofs.places.push_mark.Goals as goal

pub returns-clause-pushed : goal.returns-clause-pushed
returns-clause-pushed c = λ _. ends_with _ _ c.in-Ok.key c.new.result _ c.in-Ok.ensures.mark c.new.ensures.bytes c.as_slice.ensures.value (sym c.contains_key.ensures ∙ c.if-contains_key.false) c.in-Ok-insert.ensures.entries
