-- The address that an entry names, and the cookies that it holds, as its line has them.
-- Source: URL Standard, "URL representation", for the parts of an address; RFC 6265bis, "Storage
-- Model", for the fields of a cookie.
-- Our own choice: an address is told by its text, in `url`, and besides by its parts, in `address`,
-- so that no law on texts of URLs is needed to say that two entries differ. A held cookie has no
-- `top`, since it is not partitioned.
use Rattle.std.specs.Prelude.{ℤ, List, [], ◌∷◌, map, codes, Option, Some, None}
use Rattle.serde_json.specs.Data.{Data, null, boolean, string, array, object}
use Rattle.serde_json.specs.Data.{Members, no_members, member}
use Rattle.serde_json.specs.View.{items_of}
use Rattle.unwinding.specs.LocalEntries.{HeldCell}
use Rattle.origin_site.specs.Address.{PlainAddress}
use Rattle.stored_cookie.specs.StoredCookie.{PlainCookie}
use Rattle.row_lines.specs.Row.{moment_data, same_site_text}
use Rattle.agent_model.specs.CookieCells.{Cookies, Domain}
use Rattle.item_lines.specs.Line.{whole_data}

-- ---- addresses

-- the parts of an address beside its text
abbrev pub address_data : PlainAddress → Data
address_data url = object (
    member (codes "host") (string url.host) (
    member (codes "https") (boolean url.https) (
    member (codes "ip") (boolean url.ip) (
    member (codes "path") (string url.path) (
    member (codes "port") (whole_data url.port) no_members)))))

-- the member `address` before others, where there is an address
abbrev pub addressed : Option PlainAddress → Members → Members
addressed None members = members
addressed (Some url) members = member (codes "address") (address_data url) members

-- ---- cookies that are held

-- a moment, or null
abbrev pub moment_or_null : Option ℤ → Data
moment_or_null (Some moment) = moment_data moment
moment_or_null None = null

-- a cookie; the expiry of a session cookie is null
abbrev pub cookie_data : PlainCookie → Data
cookie_data cookie = object (
    member (codes "creation") (moment_data cookie.creation) (
    member (codes "domain") (string cookie.domain) (
    member (codes "expiry") (moment_or_null cookie.expiry) (
    member (codes "host_only") (boolean cookie.host_only) (
    member (codes "http_only") (boolean cookie.http_only) (
    member (codes "last") (moment_data cookie.last) (
    member (codes "name") (string cookie.name) (
    member (codes "path") (string cookie.path) (
    member (codes "same_site") (string (same_site_text cookie.same_site)) (
    member (codes "secure") (boolean cookie.secure) (
    member (codes "value") (string cookie.value) no_members)))))))))))

-- the cookies of a domain, in order of place
abbrev pub cookies_data : Cookies → Data
cookies_data cookies = array (items_of (map cookie_data cookies))

-- the cookies of a domain that are held
abbrev pub cell_data : HeldCell Domain Cookies → Data
cell_data held = object (
    member (codes "cookies") (cookies_data held.content) (
    member (codes "domain") (string held.cell) no_members))

-- what an entry holds. No entry in memory holds the cookies of two domains; as a value of the model
-- one could, and then it has a list of them.
abbrev pub held_data : List (HeldCell Domain Cookies) → Data
held_data [] = null
held_data (cell ∷ []) = cell_data cell
held_data (cell ∷ other ∷ cells) = array (items_of (map cell_data (cell ∷ other ∷ cells)))
