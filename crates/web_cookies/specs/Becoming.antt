-- What the cookies of a cell become.
use Rattle.std.specs.Prelude.{◌≡◌, Option, Some, None}
use Rattle.partition_limits.specs.declared.tally.CellKind.{CellKind}
use Rattle.cookie_jar.specs.Key.{PlainKey}
use Rattle.cookie_jar.specs.Persistent.{RowReplace, apply_row}
use Rattle.cookie_jar.specs.Plain.{plain_cookie}
use Rattle.cookie_jar.specs.Sending.{marked}
use Rattle.agent_model.specs.CookieCells.{Cookies}
use Rattle.web_cookies.specs.Cells.{kind_of}
use Rattle.web_cookies.specs.declared.change.Becomes.{Becomes}
use Rattle.web_cookies.specs.declared.change.Becomes.TheVariants.{Marked, Stored}
use Rattle.web_cookies.specs.declared.change.Replacement.{Replacement}

-- the cookies of a cell of a kind, where one may be put in the place of the same one
abbrev pub replaced_in : CellKind → Option Replacement → Cookies → Cookies
replaced_in kind None cookies = cookies
replaced_in kind (Some new) cookies =
    apply_row kind cookies (RowReplace new.place (plain_cookie new.cookie))

-- what the cookies of a cell of a kind become
abbrev pub becomes_of : CellKind → Becomes → Cookies → Cookies
becomes_of kind (Marked places now new) cookies =
    replaced_in kind new (marked places.items now cookies)
becomes_of kind (Stored jar) cookies = jar.cookies

-- the kind of a jar, once its cookies have become so
abbrev pub kind_after : Becomes → CellKind → CellKind
kind_after (Marked places now new) kind = kind
kind_after (Stored jar) kind = jar.kind

-- a jar stays of the kind of the cell's key
abbrev pub FitsKey : PlainKey → Becomes → Type 0
FitsKey key becomes = kind_after becomes (kind_of key) ≡ kind_of key
