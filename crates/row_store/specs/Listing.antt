-- The row changes of a snapshot, in the order in which they are written.
-- Source: none.
-- Our own choice: the order. Keys come by the texts of their top-level sites and origins and by
-- their bits, each with its pairs and then its mode. Cells come next, the unpartitioned ones by the
-- bytes of their domains and then the partitioned ones by the texts of their top-level sites, their
-- bits and the bytes of their domains. Permissions come last, in their own order.
use Rattle.std.specs.Prelude.{ℕ, ◌+◌, Bool, not, List, [], ◌∷◌, ◌++◌, map, filter, fold, if◌then◌else◌}
use Rattle.std.specs.List.{flat_map}
use Rattle.std.specs.Ordering.{bool_cmp, is_lt, ordering_then}
use Rattle.std.specs.declared.cmp.Ordering.{Ordering}
use Rattle.std.specs.FinMap as finite
use Rattle.origin_site.specs.Site.{site_text}
use Rattle.storage_key.specs.Key.{PlainKey}
use Rattle.local_area.specs.Area.{Pair}
use Rattle.cookie_jar.specs.Key.{PlainKey as PlainCell, OwnCell, PartitionCell}
use Rattle.row_changes.specs.Change.{PlainChange, AreaPut, SetMode, CookieInsert, Grant}
use Rattle.agent_model.specs.Changes.{by_text, text_order}
use Rattle.agent_model.specs.CookieCells.{Cookies}
use Rattle.agent_model.specs.PartitionedCells.{PartitionedKey}
use Rattle.durable_model.specs.Saved.{Saved, cookies_at, pairs_at}

-- ---- keys

-- the keys that have an area, or a persistent bucket, or both: each stands once, by its texts
abbrev pub stored_keys : Saved → List PlainKey
stored_keys d =
    by_text
    (finite.keys d.under.areas
    ++ filter (λ key. not (finite.contains_key d.under.areas key))
    (finite.keys d.under.persistent))

-- the pairs of a key, in their order
abbrev pub pair_rows : PlainKey → List Pair → List PlainChange
pair_rows key pairs = map (λ pair. AreaPut key pair.name pair.value) pairs

-- the mode of a key's bucket, which has a row change where it is persistent
abbrev pub mode_rows : PlainKey → Bool → List PlainChange
mode_rows key persistent = if persistent then SetMode key ∷ [] else []

-- what is stored at a key
abbrev pub key_rows : Saved → PlainKey → List PlainChange
key_rows d key =
    pair_rows key (pairs_at key d)
    ++ mode_rows key (finite.contains_key d.under.persistent key)

-- ---- cells

-- partitioned cells by the texts of their top-level sites, by their bits and by their domains
abbrev pub cell_text_order : PartitionedKey → PartitionedKey → Ordering
cell_text_order a b =
    ordering_then (text_order (site_text a.top) (site_text b.top))
    (ordering_then (bool_cmp a.bit b.bit) (text_order a.domain b.domain))

-- partitioned cells that are in order, with one more
abbrev pub in_cell_order : List PartitionedKey → PartitionedKey → List PartitionedKey
in_cell_order [] cell = cell ∷ []
in_cell_order (other ∷ others) cell =
    if is_lt (cell_text_order cell other) then cell ∷ other ∷ others
    else other ∷ in_cell_order others cell

-- partitioned cells by their texts
abbrev pub cells_by_text : List PartitionedKey → List PartitionedKey
cells_by_text cells = fold in_cell_order [] cells

-- the cells that have cookies: a map of unpartitioned ones has its domains in the order of bytes
abbrev pub stored_cells : Saved → List PlainCell
stored_cells d =
    map (λ domain. OwnCell domain) (finite.keys d.cells)
    ++ map (λ cell. PartitionCell cell.top cell.bit cell.domain)
    (cells_by_text (finite.keys d.under.cookies))

-- the cookies of a cell from a place on, each at its own
abbrev pub cookie_rows : PlainCell → ℕ → Cookies → List PlainChange
cookie_rows cell place [] = []
cookie_rows cell place (cookie ∷ cookies) =
    CookieInsert cell place cookie ∷ cookie_rows cell (place + 1) cookies

-- what is stored in a cell
abbrev pub cell_rows : Saved → PlainCell → List PlainChange
cell_rows d cell = cookie_rows cell 0 (cookies_at cell d)

-- ---- all of it

-- the row changes of a snapshot of a state
abbrev pub listed : Saved → List PlainChange
listed d =
    flat_map (key_rows d) (stored_keys d)
    ++ flat_map (cell_rows d) (stored_cells d)
    ++ map (λ row. Grant row) d.under.grants
