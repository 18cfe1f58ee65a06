-- The rows of a store, and the text of a row: one line of JSON, as the crate `serde_json` writes it
-- compactly.
-- Source: none.
-- Our own choice: the whole format. Members stand in the byte order of their names. Sites and
-- origins are told by their texts. Null are the ancestor bit and the top-level site of a cookie
-- that is not partitioned, and nothing else.
use Rattle.std.specs.Prelude.{ℕ, ℤ, List, [], ◌∷◌, ◌++◌, codes, Option, Some, None, option_map}
use Rattle.serde_json.specs.Data.{Data, null, boolean, number, string, object}
use Rattle.serde_json.specs.Data.{Members, no_members, member}
use Rattle.serde_json.specs.Find.{of_integer}
use Rattle.serde_json.specs.Written.{compact_text}
use Rattle.origin_site.specs.Origin.{origin_text}
use Rattle.origin_site.specs.Site.{site_text}
use Rattle.storage_key.specs.Key.{PlainKey}
use Rattle.setcookie_parse.specs.declared.cookie.SameSite.{SameSite}
use Rattle.setcookie_parse.specs.declared.cookie.SameSite.TheVariants.{Default, NoneSent, Lax, Strict}
use Rattle.stored_cookie.specs.StoredCookie.{PlainCookie}
use Rattle.cookie_jar.specs.Key.{PlainKey as PlainCell, OwnCell, PartitionCell}
use Rattle.access_grants.specs.Grant.{PlainGrant}
use Rattle.row_changes.specs.Change.{PlainChange}
use Rattle.row_changes.specs.Change as change

-- ---- rows

-- a row of a store, as contracts see it
pub data PlainRow : Type 0 where
  -- a pair of the local area of a key
  Area : (key : PlainKey) (name value : List ℕ) → PlainRow
  -- the bucket of a key is persistent
  Mode : (key : PlainKey) → PlainRow
  -- a persistent cookie of a cell, with its expiry
  Cookie : (cell : PlainCell) (cookie : PlainCookie) (expiry : ℤ) → PlainRow
  -- a permission
  Grant : (row : PlainGrant) → PlainRow

-- the row that a cookie is in a cell; a session cookie is none
abbrev pub cookie_row : PlainCell → PlainCookie → Option PlainRow
cookie_row cell cookie = option_map (λ expiry. Cookie cell cookie expiry) cookie.expiry

-- the row that a row change adds to a store; a change of a row that is there adds none
abbrev pub row_of : PlainChange → Option PlainRow
row_of (change.AreaPut key name value) = Some (Area key name value)
row_of (change.AreaRemove key name) = None
row_of (change.AreaClear key) = None
row_of (change.SetMode key) = Some (Mode key)
row_of (change.CookieInsert cell place cookie) = cookie_row cell cookie
row_of (change.CookieReplace cell place cookie) = None
row_of (change.CookieRemove cell place) = None
row_of (change.Grant row) = Some (Grant row)

-- ---- values

-- the ancestor bit of a cell, or null where it is not partitioned
abbrev pub bit_data : PlainCell → Data
bit_data (OwnCell domain) = null
bit_data (PartitionCell top bit domain) = boolean bit

-- the top-level site of a cell, or null where it is not partitioned
abbrev pub top_data : PlainCell → Data
top_data (OwnCell domain) = null
top_data (PartitionCell top bit domain) = string (site_text top)

-- the name of a SameSite attribute
abbrev pub same_site_text : SameSite → List ℕ
same_site_text Default = codes "default"
same_site_text NoneSent = codes "none"
same_site_text Lax = codes "lax"
same_site_text Strict = codes "strict"

-- a moment, in seconds since 1970
abbrev pub moment_data : ℤ → Data
moment_data moment = number (of_integer moment)

-- ---- members, in byte order of their names

-- a pair of the local area of a key
abbrev pub area_members : PlainKey → (name value : List ℕ) → Members
area_members key name value =
    member (codes "bit") (boolean key.bit) (member (codes "key") (string name)
    (member (codes "origin") (string (origin_text key.origin))
    (member (codes "row") (string (codes "area"))
    (member (codes "top") (string (site_text key.top))
    (member (codes "value") (string value) no_members)))))

-- the mode of a key's bucket
abbrev pub mode_members : PlainKey → Members
mode_members key =
    member (codes "bit") (boolean key.bit)
    (member (codes "origin") (string (origin_text key.origin))
    (member (codes "row") (string (codes "mode"))
    (member (codes "top") (string (site_text key.top)) no_members)))

-- the members of a cookie from its name on
abbrev pub later_members : PlainCell → PlainCookie → Members
later_members cell cookie =
    member (codes "name") (string cookie.name) (member (codes "path") (string cookie.path)
    (member (codes "row") (string (codes "cookie"))
    (member (codes "same_site") (string (same_site_text cookie.same_site))
    (member (codes "secure") (boolean cookie.secure) (member (codes "top") (top_data cell)
    (member (codes "value") (string cookie.value) no_members))))))

-- a cookie of a cell; the domain is its own
abbrev pub cookie_members : PlainCell → PlainCookie → (expiry : ℤ) → Members
cookie_members cell cookie expiry =
    member (codes "bit") (bit_data cell) (member (codes "creation") (moment_data cookie.creation)
    (member (codes "domain") (string cookie.domain)
    (member (codes "expiry") (moment_data expiry)
    (member (codes "host_only") (boolean cookie.host_only)
    (member (codes "http_only") (boolean cookie.http_only) (later_members cell cookie))))))

-- a permission
abbrev pub grant_members : PlainGrant → Members
grant_members row =
    member (codes "granted") (boolean row.granted) (member (codes "row") (string (codes "grant"))
    (member (codes "site") (string (site_text row.site))
    (member (codes "top") (string (site_text row.top))
    (member (codes "until") (moment_data row.until) no_members))))

-- the members of a row
abbrev pub row_members : PlainRow → Members
row_members (Area key name value) = area_members key name value
row_members (Mode key) = mode_members key
row_members (Cookie cell cookie expiry) = cookie_members cell cookie expiry
row_members (Grant row) = grant_members row

-- a row's line, with its line feed
abbrev pub row_text : PlainRow → List ℕ
row_text row = compact_text (object (row_members row)) ++ 10 ∷ []
