-- Who stores or reads cookies, and the cell that a cookie goes to.
-- Source: the draft "Cookies Having Independent Partitioned State" (CHIPS), "Partitioned"; Storage
-- Access API, on cookies in a third-party context.
-- Our own choice: without first party and without access an unpartitioned cookie has no cell.
use Rattle.std.specs.Prelude.{ℕ, Bool, true, false, ◌||◌, List, if◌then◌else◌}
use Rattle.setcookie_parse.specs.SetCookie.{CookieText}
use Rattle.cookie_jar.specs.declared.access.Destination.{Destination}
use Rattle.cookie_jar.specs.declared.access.Destination.TheVariants as to

-- the URL and the context of a request or of a script; texts are their bytes
pub record PlainAccess : Type 0 where
  pub https : Bool
  pub host : List ℕ
  pub ip : Bool
  pub path : List ℕ
  pub first : Bool
  pub same_site : Bool
  pub top_load : Bool
  pub safe : Bool
  pub script : Bool
  pub granted : Bool

-- the cell that the cookie of a text goes to
abbrev pub destination : CookieText → PlainAccess → Destination
destination text access =
    if text.partitioned then to.Partition
    else (if access.first || access.granted then to.Own else to.Nowhere)

-- whether there is no such cell
abbrev pub is_nowhere : Destination → Bool
is_nowhere to.Own = false
is_nowhere to.Partition = false
is_nowhere to.Nowhere = true
