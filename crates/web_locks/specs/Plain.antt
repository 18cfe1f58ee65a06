-- What contracts see of a row.
use Rattle.std.specs.Prelude.{string_bytes}
use Rattle.web_locks.specs.declared.request.LockRow.{LockRow}
use Rattle.web_locks.specs.Requests.{PlainRow}

-- a row, with its name as bytes
abbrev pub plain_row : LockRow → PlainRow
plain_row row = record { id = row.id; name = string_bytes row.name; state = row.state }
