-- What bytes say as a row change: one value at most, or nothing. No suffix list is asked.
-- Source: none.
-- Our own choice: the format of `Spelling`. Bytes that are no spelling say nothing, and which of
-- their fields is wrong makes no difference.
use Rattle.std.specs.Prelude.{ℕ, ◌/◌, ◌%◌, ℤ, pos, Bool, true, false, ◌&&◌, nat_lt, ◌==◌, List}
use Rattle.std.specs.Prelude.{Option, Some, None, if◌then◌else◌}
use Rattle.std.specs.Result.{result_ok}
use Rattle.origin_site.specs.Origin.{PlainOrigin}
use Rattle.origin_site.specs.Site.{PlainSite, site_of_text}
use Rattle.storage_key.specs.Key.{PlainKey}
use Rattle.setcookie_parse.specs.declared.cookie.SameSite.{SameSite}
use Rattle.setcookie_parse.specs.declared.cookie.SameSite.TheVariants.{Default, NoneSent, Lax, Strict}
use Rattle.stored_cookie.specs.StoredCookie.{PlainCookie}
use Rattle.cookie_jar.specs.Key.{PlainKey as PlainCell, OwnCell, PartitionCell}
use Rattle.access_grants.specs.Grant.{PlainGrant}
use Rattle.row_changes.specs.Change.{PlainChange, AreaPut, AreaRemove, AreaClear, SetMode}
use Rattle.row_changes.specs.Change.{CookieInsert, CookieReplace, CookieRemove, Grant}
use Rattle.row_changes.specs.Fields.{Reading, both, made, passing, behind_byte, nothing_at, byte_at}
use Rattle.row_changes.specs.Fields.{text_at, bit_at, signed_at}
use Rattle.row_changes.specs.Names.{origin_of_text, is_host}
use Rattle.row_changes.specs.Spelled.{suits}

-- an origin, by its text
unfoldable pub origin_at : Reading PlainOrigin
origin_at = made origin_of_text text_at

-- a site, by its text
unfoldable pub site_at : Reading PlainSite
site_at = made (λ text. result_ok (site_of_text text)) text_at

-- a domain, which is a host
unfoldable pub domain_at : Reading (List ℕ)
domain_at = made (passing is_host) text_at

-- the key of an origin, a top-level site and a bit
abbrev pub key_of : (PlainOrigin × PlainSite) × Bool → PlainKey
key_of parts = record { top = parts.0.1; origin = parts.0.0; bit = parts.1 }

-- a key
unfoldable pub key_at : Reading PlainKey
key_at = made (λ parts. Some (key_of parts)) (both (both origin_at site_at) bit_at)

-- what stands behind the first byte of a cell's name
abbrev pub cell_behind : ℕ → Reading PlainCell
cell_behind kind =
    if kind == 0 then made (λ domain. Some (OwnCell domain)) domain_at
    else (if kind == 1 then made (λ parts. Some (PartitionCell parts.0.0 parts.0.1 parts.1))
    (both (both site_at bit_at) domain_at)
    else nothing_at)

-- a cell's name
unfoldable pub cell_at : Reading PlainCell
cell_at = behind_byte cell_behind

-- the three flags of a byte: host-only, Secure and HttpOnly
abbrev pub flags_of : ℕ → Option ((Bool × Bool) × Bool)
flags_of byte =
    if nat_lt byte 8 then Some ((byte % 2 == 1, byte / 2 % 2 == 1), byte / 4 == 1) else None

-- flags
unfoldable pub flags_at : Reading ((Bool × Bool) × Bool)
flags_at = made flags_of byte_at

-- the SameSite attribute of a byte
abbrev pub same_site_of : ℕ → Option SameSite
same_site_of byte =
    if byte == 0 then Some Default else (if byte == 1 then Some NoneSent
    else (if byte == 2 then Some Lax else (if byte == 3 then Some Strict else None)))

-- a SameSite attribute
unfoldable pub same_site_at : Reading SameSite
same_site_at = made same_site_of byte_at

-- the four texts of a cookie: its name, value, domain and path
unfoldable pub texts_at : Reading (((List ℕ × List ℕ) × List ℕ) × List ℕ)
texts_at = both (both (both text_at text_at) text_at) text_at

-- what else a cookie has: its flags and SameSite attribute, its creation and its expiry
unfoldable pub marks_at : Reading (((((Bool × Bool) × Bool) × SameSite) × ℤ) × ℤ)
marks_at = both (both (both flags_at same_site_at) signed_at) signed_at

-- the cookie of its fields
abbrev pub cookie_of : (((List ℕ × List ℕ) × List ℕ) × List ℕ)
    × (((((Bool × Bool) × Bool) × SameSite) × ℤ) × ℤ) → PlainCookie
cookie_of parts = record {
  name = parts.0.0.0.0;
  value = parts.0.0.0.1;
  domain = parts.0.0.1;
  path = parts.0.1;
  host_only = parts.1.0.0.0.0.0;
  secure = parts.1.0.0.0.0.1;
  http_only = parts.1.0.0.0.1;
  same_site = parts.1.0.0.1;
  creation = parts.1.0.1;
  expiry = Some parts.1.1;
  last = pos 0;
}

-- a cookie
unfoldable pub cookie_at : Reading PlainCookie
cookie_at = made (λ parts. Some (cookie_of parts)) (both texts_at marks_at)

-- a cookie at a place of a cell that it suits
unfoldable pub placed_at : Reading ((PlainCell × ℕ) × PlainCookie)
placed_at =
    made (passing (λ placed. suits placed.0.0 placed.1))
    (both (both cell_at byte_at) cookie_at)

-- whether the answer of a byte is a grant
abbrev pub answer_of : ℕ → Option Bool
answer_of byte = if byte == 1 then Some true else (if byte == 2 then Some false else None)

-- a permission of its fields, both of whose sites are https
abbrev pub grant_of : ((PlainSite × PlainSite) × Bool) × ℤ → Option PlainGrant
grant_of parts =
    if parts.0.0.0.https && parts.0.0.1.https
    then Some
    (record { top = parts.0.0.0; site = parts.0.0.1; granted = parts.0.1; until = parts.1 })
    else None

-- a permission
unfoldable pub grant_at : Reading PlainGrant
grant_at =
    made grant_of
    (both (both (both site_at site_at) (made answer_of byte_at)) signed_at)

-- what stands behind the code of a row change
abbrev pub change_behind : ℕ → Reading PlainChange
change_behind code =
    if code == 1 then made (λ p. Some (AreaPut p.0.0 p.0.1 p.1))
    (both (both key_at text_at) text_at)
    else (if code == 2 then made (λ p. Some (AreaRemove p.0 p.1)) (both key_at text_at)
    else (if code == 3 then made (λ key. Some (AreaClear key)) key_at
    else (if code == 4 then made (λ key. Some (SetMode key)) key_at
    else (if code == 5 then made (λ p. Some (CookieInsert p.0.0 p.0.1 p.1)) placed_at
    else (if code == 6 then made (λ p. Some (CookieReplace p.0.0 p.0.1 p.1)) placed_at
    else (if code == 7 then made (λ p. Some (CookieRemove p.0 p.1)) (both cell_at byte_at)
    else (if code == 8 then made (λ row. Some (Grant row)) grant_at
    else nothing_at)))))))

-- the row change at the front of bytes, with the bytes behind it; `None` is no row change
unfoldable pub change_at : Reading PlainChange
change_at = behind_byte change_behind
