-- The row changes of a snapshot, part by part: those of the keys of a storage, and of cells.
-- Source: none.
use Rattle.std.specs.Prelude.{Bool, true, List, [], ◌++◌, filter, map}
use Rattle.std.specs.List.{flat_map}
use Rattle.std.specs.FinMap as finite
use Rattle.partition_limits.specs.declared.tally.CellKind.TheVariants as kind
use Rattle.storage_key.specs.Key.{PlainKey}
use Rattle.local_area.specs.Area.{Pair}
use Rattle.access_grants.specs.Grant.{PlainGrants}
use Rattle.cookie_jar.specs.Cookie.{PlainCookie}
use Rattle.cookie_jar.specs.Key.{PlainKey as PlainCell}
use Rattle.cookie_jar.specs.Lifetime.{is_persistent}
use Rattle.row_changes.specs.Change.{Grant, PlainChange}
use Rattle.web_cookies.specs.Listed.{cells_in}
use Rattle.web_cookies.specs.Stored as cookies
use Rattle.web_storage.specs.Stored as storage
use Rattle.durable_model.specs.Saved.{Saved, cookies_at, pairs_at}
use Rattle.row_store.specs.CellTexts.{in_order_of_texts}
use Rattle.row_store.specs.Listing.{cookie_rows, key_rows, stored_keys}
use Rattle.row_store.specs.Stored.{saved_in}
use Rattle.row_store.specs.declared.which.Which.{Which}
use Rattle.row_store.specs.declared.which.Which.TheVariants as which

-- no permission
abbrev pub no_grants : PlainGrants
no_grants = record { rows = []; spare = 0 }

-- a durable state of a storage alone
abbrev pub areas_alone : storage.Entries → Saved
areas_alone areas = saved_in areas [] no_grants

-- a durable state of cookies alone
abbrev pub cells_alone : cookies.Entries → Saved
cells_alone cells = saved_in (record { local = []; session = [] }) cells no_grants

-- what is stored at a key
abbrev pub key_rows_in : storage.Entries → PlainKey → List PlainChange
key_rows_in areas key = key_rows (areas_alone areas) key

-- what is stored at these keys
abbrev pub rows_of_keys : storage.Entries → List PlainKey → List PlainChange
rows_of_keys areas keys = flat_map (key_rows_in areas) keys

-- what is stored at all keys
abbrev pub area_rows : storage.Entries → List PlainChange
area_rows areas = rows_of_keys areas (stored_keys (areas_alone areas))

-- the pairs of a key's area
abbrev pub stored_pairs : storage.Entries → PlainKey → List Pair
stored_pairs areas key = pairs_at key (areas_alone areas)

-- whether the bucket of a key is persistent
abbrev pub is_stored_mode : storage.Entries → PlainKey → Bool
is_stored_mode areas key = finite.contains_key (areas_alone areas).under.persistent key

-- ---- cookies

-- a cookie is one of these
abbrev pub is_chosen : Which → PlainCookie → Bool
is_chosen which.All = λ c. true
is_chosen which.Persistent = λ c. is_persistent c

-- these cookies of a cell, each at its place among them
abbrev pub cell_rows_in : Which → cookies.Entries → PlainCell → List PlainChange
cell_rows_in these cells cell =
    cookie_rows cell 0 (filter (is_chosen these) (cookies_at cell (cells_alone cells)))

-- these cookies of cells
abbrev pub rows_of_cells : Which → cookies.Entries → List PlainCell → List PlainChange
rows_of_cells these cells listed = flat_map (cell_rows_in these cells) listed

-- these cookies of all cells
abbrev pub cookie_rows_in : Which → cookies.Entries → List PlainChange
cookie_rows_in these cells =
    rows_of_cells these cells (cells_in kind.Own cells)
    ++ rows_of_cells these cells (in_order_of_texts (cells_in kind.Partition cells))

-- ---- all of it

-- what is stored at all keys, these cookies of all cells, and all permissions
abbrev pub all_rows : Which → storage.Entries → cookies.Entries → PlainGrants → List PlainChange
all_rows these areas cells grants =
    area_rows areas ++ cookie_rows_in these cells ++ map (λ row. Grant row) grants.rows
