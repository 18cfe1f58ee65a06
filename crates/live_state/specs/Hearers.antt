-- The documents that hear of a change, among those of all open tabs.
-- Source: HTML, "Web storage", the broadcast of a storage object.
-- Our own choice: the list stands in the order of the tabs' numbers, and within a tab in the order
-- of the frames' numbers.
use Rattle.std.specs.Prelude.{List, [], Option, Some, None}
use Rattle.std.specs.Ordering.{eq_by_cmp}
use Rattle.agent_base.specs.declared.refusals.Label.{Label}
use Rattle.storage_key.specs.Key.{PlainKey, key_order}
use Rattle.storage_events.specs.declared.event.AreaKind.{AreaKind}
use Rattle.storage_events.specs.Audience.{audience}
use Rattle.live_state.specs.Documents.{documents, documents_in}
use Rattle.live_state.specs.Tabs.{PlainTab}

-- those of these documents that hear of a change, by the area, the writer and its key
abbrev pub hearing : AreaKind → Label → PlainKey → List (Label × PlainKey) → List Label
hearing kind writer key documents = audience (eq_by_cmp key_order) kind writer key documents

-- the documents of open tabs that hear of a change
abbrev pub hearers : AreaKind → Label → PlainKey → List PlainTab → List Label
hearers kind writer key tabs = hearing kind writer key (documents tabs)

-- the documents of a tab that hear of a change
abbrev pub hearers_in : AreaKind → Label → PlainKey → PlainTab → List Label
hearers_in kind writer key tab = hearing kind writer key (documents_in tab)

-- the documents of a tab that hear of a change, and none where it is not open
abbrev pub hearers_by : AreaKind → Label → PlainKey → Option PlainTab → List Label
hearers_by kind writer key None = []
hearers_by kind writer key (Some tab) = hearers_in kind writer key tab
