-- The row changes of actions on areas: what a write or an eviction changes of local areas.
-- Source: Storage Standard, "Model" (a local bucket outlives the session, and a session bucket does
-- not).
-- Our own choice: all row changes of a line are one durable change. A clear of an empty area has
-- none. An eviction clears areas in the order of the texts of their keys.
use Rattle.std.specs.Prelude.{ℕ, List, [], ◌∷◌, map, fold, Option, Some, None, if◌then◌else◌}
use Rattle.std.specs.Ordering.{bool_cmp, is_lt, nat_cmp, ordering_then}
use Rattle.std.specs.declared.cmp.Ordering.{Ordering}
use Rattle.std.specs.Cmp.Lexicographic.{slice_cmp}
use Rattle.origin_site.specs.Origin.{origin_text}
use Rattle.origin_site.specs.Site.{site_text}
use Rattle.storage_key.specs.Key.{PlainKey}
use Rattle.local_area.specs.Area.{Pair}
use Rattle.storage_events.specs.declared.event.AreaKind.{AreaKind}
use Rattle.storage_events.specs.declared.event.AreaKind.TheVariants.{Local, Session}
use Rattle.row_changes.specs.Change.{PlainChange, AreaPut, AreaRemove, AreaClear}

-- ---- areas

-- the row changes of a local area are durable, and those of a session area are not
abbrev pub durable_in : AreaKind → List PlainChange → List PlainChange
durable_in Local changes = changes
durable_in Session changes = []

-- A write is told by a name and its value from then on: a value is put, or the name is removed, or
-- without a name the area is cleared. This is its row change, in an area of a key with these pairs.
abbrev pub changes_of_write : PlainKey → (name value : Option (List ℕ)) → List Pair
    → List PlainChange
changes_of_write key (Some name) (Some value) pairs = AreaPut key name value ∷ []
changes_of_write key (Some name) None pairs = AreaRemove key name ∷ []
changes_of_write key None value [] = []
changes_of_write key None value (pair ∷ pairs) = AreaClear key ∷ []

-- ---- eviction

-- texts in the order of their bytes
abbrev pub text_order : (a b : List ℕ) → Ordering
text_order = slice_cmp nat_cmp

-- keys by the texts of their top-level sites and of their origins, and by their bits
abbrev pub key_text_order : PlainKey → PlainKey → Ordering
key_text_order a b =
    ordering_then (text_order (site_text a.top) (site_text b.top))
    (ordering_then (text_order (origin_text a.origin) (origin_text b.origin))
    (bool_cmp a.bit b.bit))

-- keys that are in order, with one more
abbrev pub in_text_order : List PlainKey → PlainKey → List PlainKey
in_text_order [] key = key ∷ []
in_text_order (other ∷ others) key =
    if is_lt (key_text_order key other) then key ∷ other ∷ others
    else other ∷ in_text_order others key

-- keys by their texts
abbrev pub by_text : List PlainKey → List PlainKey
by_text keys = fold in_text_order [] keys

-- the areas of these keys are cleared, each of which has pairs
abbrev pub clears : List PlainKey → List PlainChange
clears keys = map (λ key. AreaClear key) (by_text keys)
