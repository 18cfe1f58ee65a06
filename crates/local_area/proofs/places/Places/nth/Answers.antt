-- Each name is a text.
use Rattle.std.proofs.Common.{sym}
use Rattle.std.specs.Str.{IsUtf8}
use Rattle.local_area.proofs.PlacesLemmas.{text_at}
use Rattle.local_area.proofs.places.Places.nth.Goals as goal

pub returns-in-Err : goal.returns-in-Err
returns-in-Err c =
    let text : IsUtf8 c.in-Some.key.now.items = text_at _ _ _ c.entry_at.ensures.texts (sym c.in-Some.ensures.pair) in
    absurd (c.in-Err.ensures.cases.0 (rw c.as_slice.ensures.value text))
