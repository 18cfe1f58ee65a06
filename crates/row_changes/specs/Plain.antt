-- A row change as contracts see it, owned or over parts that others own.
use Rattle.std.specs.Prelude.{string_bytes}
use Rattle.storage_key.specs.Plain.{plain_key}
use Rattle.cookie_jar.specs.Key.{plain_key as plain_cell}
use Rattle.cookie_jar.specs.Plain.{plain_cookie}
use Rattle.access_grants.specs.Plain.{plain_grant}
use Rattle.row_changes.specs.declared.change.Change.{Change as RowChange}
use Rattle.row_changes.specs.declared.change.Change.TheVariants as change
use Rattle.row_changes.specs.declared.change.ChangeRef.{ChangeRef}
use Rattle.row_changes.specs.declared.change.ChangeRef.TheVariants as borrowed
use Rattle.row_changes.specs.Change.{PlainChange, AreaPut, AreaRemove, AreaClear, SetMode}
use Rattle.row_changes.specs.Change.{CookieInsert, CookieReplace, CookieRemove, Grant}

-- a row change
abbrev pub plain_change : RowChange → PlainChange
plain_change (change.AreaPut key name value) =
    AreaPut (plain_key key) (string_bytes name) (string_bytes value)
plain_change (change.AreaRemove key name) = AreaRemove (plain_key key) (string_bytes name)
plain_change (change.AreaClear key) = AreaClear (plain_key key)
plain_change (change.SetMode key) = SetMode (plain_key key)
plain_change (change.CookieInsert cell place cookie) =
    CookieInsert (plain_cell cell) place (plain_cookie cookie)
plain_change (change.CookieReplace cell place cookie) =
    CookieReplace (plain_cell cell) place (plain_cookie cookie)
plain_change (change.CookieRemove cell place) = CookieRemove (plain_cell cell) place
plain_change (change.Grant row) = Grant (plain_grant row)

-- a row change over parts that others own
abbrev pub plain_ref : ChangeRef → PlainChange
plain_ref (borrowed.AreaPut key name value) = AreaPut (plain_key key.now) name.now value.now
plain_ref (borrowed.AreaRemove key name) = AreaRemove (plain_key key.now) name.now
plain_ref (borrowed.AreaClear key) = AreaClear (plain_key key.now)
plain_ref (borrowed.SetMode key) = SetMode (plain_key key.now)
plain_ref (borrowed.CookieInsert cell place cookie) =
    CookieInsert (plain_cell cell.now) place (plain_cookie cookie.now)
plain_ref (borrowed.CookieReplace cell place cookie) =
    CookieReplace (plain_cell cell.now) place (plain_cookie cookie.now)
plain_ref (borrowed.CookieRemove cell place) = CookieRemove (plain_cell cell.now) place
plain_ref (borrowed.Grant row) = Grant (plain_grant row.now)
