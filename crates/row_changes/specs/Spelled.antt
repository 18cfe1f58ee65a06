-- Which row changes have a spelling, which their own fields decide, and which of them are rows
-- under a suffix list.
-- Source: RFC 6265bis, "Storage Model" (name and value together, and the path), CHIPS (Cookies
-- Having Independent Partitioned State), "Partitioned" (a partitioned cookie is Secure); Storage
-- Access API (permissions are of secure contexts).
-- Our own choice: what depends on the state, such as the quota, a name that is there, the limits of
-- a cell and the same cookie, is not among it. Any name and value of 1 to 4,096 bytes are taken. A
-- row that was written under one list has a spelling under every list, so that it is read whatever
-- the list is. Whether it is a row under a list is asked of its hosts alone.
use Rattle.std.specs.Prelude.{◌≡◌, ◌<◌, ◌^◌, ℕ, ℤ, pos, Bool, true, false, not, ◌&&◌, ◌||◌, nat_le}
use Rattle.std.specs.Prelude.{◌==◌, List, [], ◌∷◌, length, Some, FitsSigned}
use Rattle.std.specs.Int.{w64}
use Rattle.std.specs.Str.{byte, is_utf8}
use Rattle.suffix_list.specs.Suffix.{Rule}
use Rattle.origin_site.specs.Origin.{origin_text}
use Rattle.origin_site.specs.Site.{PlainSite, SiteReadsBack, site_text}
use Rattle.storage_key.specs.Key.{PlainKey}
use Rattle.storage_key.specs.Stays.{key_stays}
use Rattle.setcookie_parse.specs.SetCookie.{pair_limit}
use Rattle.stored_cookie.specs.StoredCookie.{PlainCookie}
use Rattle.cookie_jar.specs.Cookie.{pair_bytes}
use Rattle.cookie_jar.specs.Key.{PlainKey as PlainCell, OwnCell, PartitionCell}
use Rattle.cookie_jar.specs.Stays.{cookie_stays, domain_of_cell, name_stays}
use Rattle.access_grants.specs.Grant.{PlainGrant}
use Rattle.access_grants.specs.Stays.{grant_stays}
use Rattle.row_changes.specs.Change.{PlainChange, AreaPut, AreaRemove, AreaClear, SetMode}
use Rattle.row_changes.specs.Change.{CookieInsert, CookieReplace, CookieRemove, Grant}
use Rattle.row_changes.specs.Names.{origin_of_text, is_host}

-- a text has a spelling: it is UTF-8, and its length has room in four bytes
abbrev pub IsText : List ℕ → Type 0
IsText text = (is_utf8 text ≡ true) × (length text < 2 ^ 32)

-- the text of a site reads back
abbrev pub IsSite : PlainSite → Type 0
IsSite site = IsText (site_text site) × SiteReadsBack site

-- the texts of a key read back; its bit is any
abbrev pub IsKey : PlainKey → Type 0
IsKey key =
    IsText (origin_text key.origin) × (origin_of_text (origin_text key.origin) ≡ Some key.origin)
    × IsSite key.top

-- whether a cell is a partition
abbrev pub is_partition : PlainCell → Bool
is_partition (OwnCell domain) = false
is_partition (PartitionCell top bit domain) = true

-- a cell's domain is a host, and the text of the top-level site of a partition reads back
abbrev pub IsNamed : PlainCell → Type 0
IsNamed (OwnCell domain) = IsText domain × (is_host domain ≡ true)
IsNamed (PartitionCell top bit domain) =
    IsSite top × IsText domain × (is_host domain ≡ true)

-- a cookie's path begins with `/`
abbrev pub begins_with_slash : List ℕ → Bool
begins_with_slash [] = false
begins_with_slash (first ∷ rest) = first == byte "/"

-- what a cookie is by itself: its name and value have 1 to 4,096 bytes together, its path begins
-- with `/`, and in a partition it is Secure
abbrev pub is_sound : Bool → PlainCookie → Bool
is_sound partition c =
    nat_le 1 (pair_bytes c) && (nat_le (pair_bytes c) pair_limit
    && (begins_with_slash c.path && (c.secure || not partition)))

-- what a cookie in a cell is: sound, and its domain is a host
abbrev pub suits : PlainCell → PlainCookie → Bool
suits cell c = is_sound (is_partition cell) c && is_host c.domain

-- the fields of a cookie have a spelling: it has an expiry, and its last use is 0
pub record HasSpelledFields (c : PlainCookie) : Type 0 where
  pub name : IsText c.name
  pub value : IsText c.value
  pub domain : IsText c.domain
  pub path : IsText c.path
  pub creation : FitsSigned w64 c.creation
  pub end : ℤ
  pub expiry : c.expiry ≡ Some end
  pub fits : FitsSigned w64 end
  pub last : c.last ≡ pos 0

-- a cookie at a place of a cell has a spelling
abbrev pub IsPlaced : PlainCell → ℕ → PlainCookie → Type 0
IsPlaced cell place c =
    IsNamed cell × (place < 2 ^ 8) × HasSpelledFields c × (suits cell c ≡ true)

-- a permission has a spelling: both its sites are https
abbrev pub IsRow : PlainGrant → Type 0
IsRow row =
    IsSite row.top × IsSite row.site × FitsSigned w64 row.until
    × (row.top.https ≡ true) × (row.site.https ≡ true)

-- what of a row change its own bytes decide. What depends on the state, such as the quota, a name
-- that is there, the limits of a cell and the same cookie, is not among it.
abbrev pub IsSpelled : PlainChange → Type 0
IsSpelled (AreaPut key name value) = IsKey key × IsText name × IsText value
IsSpelled (AreaRemove key name) = IsKey key × IsText name
IsSpelled (AreaClear key) = IsKey key
IsSpelled (SetMode key) = IsKey key
IsSpelled (CookieInsert cell place c) = IsPlaced cell place c
IsSpelled (CookieReplace cell place c) = IsPlaced cell place c
IsSpelled (CookieRemove cell place) = IsNamed cell × (place < 2 ^ 8)
IsSpelled (Grant row) = IsRow row

-- a row change is one of rows under a list of rules
abbrev pub change_stays : List Rule → PlainChange → Bool
change_stays rules (AreaPut key name value) = key_stays rules key
change_stays rules (AreaRemove key name) = key_stays rules key
change_stays rules (AreaClear key) = key_stays rules key
change_stays rules (SetMode key) = key_stays rules key
change_stays rules (CookieInsert cell place c) =
    name_stays rules cell && cookie_stays rules (domain_of_cell cell) c
change_stays rules (CookieReplace cell place c) =
    name_stays rules cell && cookie_stays rules (domain_of_cell cell) c
change_stays rules (CookieRemove cell place) = name_stays rules cell
change_stays rules (Grant row) = grant_stays rules row

-- a row change has a spelling, and is one of rows under a list of rules. The program writes such
-- alone.
abbrev pub IsSpelledUnder : List Rule → PlainChange → Type 0
IsSpelledUnder rules change = IsSpelled change × (change_stays rules change ≡ true)
