-- What contracts see of a row: the bytes of its texts.
-- Source: none; it says how contracts see a type of this crate.
use Rattle.storage_key.specs.Plain.{plain_key}
use Rattle.cookie_jar.specs.Key.{plain_key as plain_cell}
use Rattle.cookie_jar.specs.Plain.{plain_cookie}
use Rattle.access_grants.specs.Plain.{plain_grant}
use Rattle.row_lines.specs.Row.{PlainRow}
use Rattle.row_lines.specs.Row as plain
use Rattle.row_lines.specs.declared.row.Row.{Row}
use Rattle.row_lines.specs.declared.row.Row.TheVariants.{Area, Mode, Cookie, Grant}

-- a row
abbrev pub plain_row : Row → PlainRow
plain_row (Area key name value) = plain.Area (plain_key key.now) name.now value.now
plain_row (Mode key) = plain.Mode (plain_key key.now)
plain_row (Cookie cell cookie expiry) =
    plain.Cookie (plain_cell cell.now) (plain_cookie cookie.now) expiry
plain_row (Grant row) = plain.Grant (plain_grant row.now)
