-- What the map gains is what the pairs gain.
use Rattle.std.proofs.Common.{◌∙◌, ap, sym}
use Rattle.std.specs.Prelude.{option_map, string_bytes}
use Rattle.std.specs.Str.{IsUtf8}
use Rattle.local_area.proofs.EntriesLemmas.{pairs_of-distinct}
use Rattle.local_area.proofs.ChangesLemmas.{pairs_of-found, pairs_of-inserted, places-insert}
use Rattle.local_area.proofs.places.Places.insert.Goals as goal

pub invariant_of-self : goal.invariant_of-self
invariant_of-self c =
    let text : IsUtf8 c.into_bytes.result.items =
    rw (c.into_bytes.ensures.value, ← c.as_str.ensures.value, ← c.as_bytes-text.ensures.value) c.as_bytes-text.ensures.utf8 in
    places-insert _ _ _ _ _ _ c.self.invariant text c.insert.ensures.unique c.in-Ok.ensures.entries (rw c.in-Ok.ensures.old at c.in-Ok.ensures.len)

pub returns-in-Ok-clause-stored : goal.returns-in-Ok-clause-stored
returns-in-Ok-clause-stored c =
    let text : IsUtf8 c.into_bytes.result.items =
    rw (c.into_bytes.ensures.value, ← c.as_str.ensures.value, ← c.as_bytes-text.ensures.value) c.as_bytes-text.ensures.utf8 in
    pairs_of-inserted _ _ c.into_bytes.result c.args.value _ _ text (ap (λ v. v.items) c.into_bytes.ensures.value) c.in-Ok.ensures.entries c.self.invariant.distinct c.self.view_is

pub returns-in-Ok-clause-before : goal.returns-in-Ok-clause-before
returns-in-Ok-clause-before c =
    let text : IsUtf8 c.into_bytes.result.items =
    rw (c.into_bytes.ensures.value, ← c.as_str.ensures.value, ← c.as_bytes-text.ensures.value) c.as_bytes-text.ensures.utf8 in
    ap (option_map string_bytes) c.in-Ok.ensures.old
    ∙ pairs_of-found c.self.inside.entries.entries c.into_bytes.result.items _ _ text (ap (λ v. v.items) c.into_bytes.ensures.value) c.self.view_is

pub returns-in-Ok-clause-distinct : goal.returns-in-Ok-clause-distinct
returns-in-Ok-clause-distinct c = pairs_of-distinct _ c.insert.ensures.unique

pub returns-clause-absent : goal.returns-clause-absent
returns-clause-absent c =
    let text : IsUtf8 c.into_bytes.result.items =
    rw (c.into_bytes.ensures.value, ← c.as_str.ensures.value, ← c.as_bytes-text.ensures.value) c.as_bytes-text.ensures.utf8 in
    sym (pairs_of-found c.self.inside.entries.entries c.into_bytes.result.items _ _ text (ap (λ v. v.items) c.into_bytes.ensures.value) c.self.view_is)
    ∙ ap (option_map string_bytes) c.in-Err.ensures.absent
