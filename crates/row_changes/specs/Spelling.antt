-- The bytes of a row change.
-- Source: none.
-- Our own choice: the whole format. A key is the text of its origin, that of its top-level site,
-- and its bit. A cell is 0 and its domain, or 1, the text of its top-level site, its bit and its
-- domain.
-- A cookie is its name, value, domain and path, its flags, its SameSite attribute, its creation and
-- its expiry. A row change is its code, from 1 on in the order of `PlainChange`, and its fields.
use Rattle.std.specs.Prelude.{ℕ, ◌+◌, ◌*◌, pos, Bool, List, [], ◌∷◌, ◌++◌, unwrap_or, if◌then◌else◌}
use Rattle.origin_site.specs.Origin.{origin_text}
use Rattle.origin_site.specs.Site.{site_text}
use Rattle.storage_key.specs.Key.{PlainKey}
use Rattle.setcookie_parse.specs.declared.cookie.SameSite.{SameSite}
use Rattle.setcookie_parse.specs.declared.cookie.SameSite.TheVariants.{Default, NoneSent, Lax, Strict}
use Rattle.stored_cookie.specs.StoredCookie.{PlainCookie}
use Rattle.cookie_jar.specs.Key.{PlainKey as PlainCell, OwnCell, PartitionCell}
use Rattle.access_grants.specs.Grant.{PlainGrant}
use Rattle.row_changes.specs.Change.{PlainChange, AreaPut, AreaRemove, AreaClear, SetMode}
use Rattle.row_changes.specs.Change.{CookieInsert, CookieReplace, CookieRemove, Grant}
use Rattle.row_changes.specs.Fields.{bit_byte, signed_bytes, text_bytes}

-- the bytes of a key
abbrev pub key_bytes : PlainKey → List ℕ
key_bytes key =
    text_bytes (origin_text key.origin) ++ text_bytes (site_text key.top) ++ bit_byte key.bit ∷ []

-- the bytes of a cell's name
abbrev pub cell_bytes : PlainCell → List ℕ
cell_bytes (OwnCell domain) = 0 ∷ text_bytes domain
cell_bytes (PartitionCell top bit domain) =
    1 ∷ text_bytes (site_text top) ++ bit_byte bit ∷ text_bytes domain

-- the flags of a cookie in one byte: 1 host-only, 2 Secure, 4 HttpOnly
abbrev pub flags_byte : PlainCookie → ℕ
flags_byte c = bit_byte c.host_only + (2 * bit_byte c.secure + 4 * bit_byte c.http_only)

-- the byte of a SameSite attribute
abbrev pub same_site_byte : SameSite → ℕ
same_site_byte Default = 0
same_site_byte NoneSent = 1
same_site_byte Lax = 2
same_site_byte Strict = 3

-- the bytes of a cookie's texts
abbrev pub cookie_texts : PlainCookie → List ℕ
cookie_texts c =
    text_bytes c.name ++ text_bytes c.value ++ text_bytes c.domain ++ text_bytes c.path

-- the bytes of what else is kept of a cookie that has an expiry; its last use is not among them
abbrev pub cookie_marks : PlainCookie → List ℕ
cookie_marks c =
    flags_byte c ∷ same_site_byte c.same_site ∷ signed_bytes c.creation
    ++ signed_bytes (unwrap_or c.expiry (pos 0))

-- the bytes of a cookie
abbrev pub cookie_bytes : PlainCookie → List ℕ
cookie_bytes c = cookie_texts c ++ cookie_marks c

-- the byte of an answer: 1 grant, 2 deny
abbrev pub answer_byte : Bool → ℕ
answer_byte granted = if granted then 1 else 2

-- the bytes of a permission
abbrev pub grant_bytes : PlainGrant → List ℕ
grant_bytes row =
    text_bytes (site_text row.top) ++ text_bytes (site_text row.site)
    ++ answer_byte row.granted ∷ signed_bytes row.until

-- the bytes of a row change
abbrev pub change_bytes : PlainChange → List ℕ
change_bytes (AreaPut key name value) = 1 ∷ key_bytes key ++ text_bytes name ++ text_bytes value
change_bytes (AreaRemove key name) = 2 ∷ key_bytes key ++ text_bytes name
change_bytes (AreaClear key) = 3 ∷ key_bytes key
change_bytes (SetMode key) = 4 ∷ key_bytes key
change_bytes (CookieInsert cell place c) = 5 ∷ cell_bytes cell ++ place ∷ cookie_bytes c
change_bytes (CookieReplace cell place c) = 6 ∷ cell_bytes cell ++ place ∷ cookie_bytes c
change_bytes (CookieRemove cell place) = 7 ∷ cell_bytes cell ++ place ∷ []
change_bytes (Grant row) = 8 ∷ grant_bytes row
