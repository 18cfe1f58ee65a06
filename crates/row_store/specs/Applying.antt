-- Where there is room for a row change, and which one may want memory all the same.
-- Source: none.
-- Our own choice: room is made for one row change at a time. A name that an area does not have yet
-- takes its memory where it is put.
use Rattle.std.specs.Prelude.{◌≡◌, ◌<◌, ⊤, None}
use Rattle.local_area.specs.Area.{area_get}
use Rattle.cookie_jar.specs.Key.{plain_key as plain_cell}
use Rattle.row_changes.specs.Change as plain
use Rattle.row_changes.specs.Change.{PlainChange}
use Rattle.row_changes.specs.declared.change.Change.{Change}
use Rattle.row_changes.specs.declared.change.Change.TheVariants.{AreaPut, AreaRemove, AreaClear}
use Rattle.row_changes.specs.declared.change.Change.TheVariants.{SetMode, CookieInsert}
use Rattle.row_changes.specs.declared.change.Change.TheVariants.{CookieReplace, CookieRemove, Grant}
use Rattle.web_storage.specs.BucketRoom.{HasBucket}
use Rattle.web_cookies.specs.Rows.{HasPlace}
use Rattle.durable_model.specs.Saved.{Saved, pairs_at}
use Rattle.row_store.specs.declared.parts.Parts.{Parts}

-- there is room for a row change in parts
abbrev pub IsReady : Change → Parts → Type 0
IsReady (AreaPut key name value) parts = ⊤
IsReady (AreaRemove key name) parts = ⊤
IsReady (AreaClear key) parts = ⊤
IsReady (SetMode key) parts = HasBucket key parts.storage
IsReady (CookieInsert cell place cookie) parts = HasPlace (plain_cell cell) parts.cookies
IsReady (CookieReplace cell place cookie) parts = ⊤
IsReady (CookieRemove cell place) parts = ⊤
IsReady (Grant row) parts = 0 < parts.grants.spare

-- a row change puts a name that its area does not have
abbrev pub PutsNewName : PlainChange → Saved → Type 0
PutsNewName (plain.AreaPut key name value) d = area_get name (pairs_at key d) ≡ None
PutsNewName (plain.AreaRemove key name) d = ⊥
PutsNewName (plain.AreaClear key) d = ⊥
PutsNewName (plain.SetMode key) d = ⊥
PutsNewName (plain.CookieInsert cell place cookie) d = ⊥
PutsNewName (plain.CookieReplace cell place cookie) d = ⊥
PutsNewName (plain.CookieRemove cell place) d = ⊥
PutsNewName (plain.Grant row) d = ⊥
