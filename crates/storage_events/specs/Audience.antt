-- The documents that hear of a change of an area.
-- Source: HTML, "Web storage", the broadcast of a storage object: every other one over the same
-- map.
-- Our own choice: one document's local areas are one storage object, so the writer hears nothing.
use Rattle.std.specs.Prelude.{Bool, true, not, ◌&&◌, List, map, filter, nat_eq}
use Rattle.agent_base.specs.declared.refusals.Label.{Label}
use Rattle.storage_events.specs.declared.event.AreaKind.{AreaKind}
use Rattle.storage_events.specs.declared.event.AreaKind.TheVariants.{Local, Session}

-- whether two documents are one
abbrev pub same_label : Label → Label → Bool
same_label a b = nat_eq a.tab b.tab && nat_eq a.frame b.frame

-- whether an area of the writer can be one of the reader too: a session area belongs to one tab
abbrev pub in_reach : AreaKind → Label → Label → Bool
in_reach Local writer reader = true
in_reach Session writer reader = nat_eq reader.tab writer.tab

-- whether a document, given with its storage key, hears of a change that the writer made
abbrev pub hears : {K : Type 0} → (K → K → Bool) → AreaKind → Label → K → Label × K → Bool
hears eq area writer key document =
    in_reach area writer document.0 && (not (same_label document.0 writer) && eq key document.1)

-- every other document whose storage key is the writer's, and for a session area of its tab alone
abbrev pub audience : {K : Type 0} → (K → K → Bool) → AreaKind → Label → K → List (Label × K)
    → List Label
audience eq area writer key documents = map (λ d. d.0) (filter (hears eq area writer key) documents)
