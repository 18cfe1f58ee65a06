-- Which row changes are of rows under a suffix list, by the parser of addresses.
-- Source: HTML, "Sites" (obtain a site); RFC 6265bis, "Storage Model" (a cookie's domain); Storage
-- Standard, "Storage keys"; URL Standard, "URL parsing".
-- `change_stays` of `Spelled` asks the texts of hosts alone, with no parser. The law says that of
-- what has a spelling it answers the same.
use Rattle.std.specs.Prelude.{◌≡◌, ◌↔◌, ℕ, Bool, true, false, List, Ok}
use Rattle.suffix_list.specs.Suffix.{Rule}
use Rattle.origin_site.specs.Address.{PlainAddress, address_of}
use Rattle.origin_site.specs.Domain.{host_domain}
use Rattle.origin_site.specs.Site.{IsOwnSite, site_of_origin, site_text}
use Rattle.storage_key.specs.Key.{PlainKey}
use Rattle.cookie_jar.specs.Key.{PlainKey as PlainCell, OwnCell, PartitionCell}
use Rattle.cookie_jar.specs.Stays.{domain_of_cell}
use Rattle.row_changes.specs.Change.{PlainChange, AreaPut, AreaRemove, AreaClear, SetMode}
use Rattle.row_changes.specs.Change.{CookieInsert, CookieReplace, CookieRemove, Grant}
use Rattle.row_changes.specs.Spelled.{IsSpelled, change_stays}

-- a text is a host of a domain: an http or an https address has this host, and the domain of the
-- address's host is this one
pub record IsHostOf (rules : List Rule) (domain host : List ℕ) : Type 0 where
  pub https : Bool
  pub address : PlainAddress
  pub reads : address_of (site_text (record { https = https; host = host })) ≡ Ok address
  pub whole : address.host ≡ host
  pub has : host_domain rules address.ip address.host ≡ domain

-- a key is one under the list: its top-level site is the site of the address that its text is, and
-- with the bit clear it is that of its origin
abbrev pub IsKeyUnder : List Rule → PlainKey → Type 0
IsKeyUnder rules key =
    IsOwnSite rules key.top × (key.bit ≡ false → site_of_origin rules key.origin ≡ key.top)

-- a cell's domain is its own domain, and the top-level site of a partition is a site
abbrev pub IsCellUnder : List Rule → PlainCell → Type 0
IsCellUnder rules (OwnCell domain) = IsHostOf rules domain domain
IsCellUnder rules (PartitionCell top bit domain) =
    IsOwnSite rules top × IsHostOf rules domain domain

-- a row change is of rows under the list
abbrev pub IsUnderList : List Rule → PlainChange → Type 0
IsUnderList rules (AreaPut key name value) = IsKeyUnder rules key
IsUnderList rules (AreaRemove key name) = IsKeyUnder rules key
IsUnderList rules (AreaClear key) = IsKeyUnder rules key
IsUnderList rules (SetMode key) = IsKeyUnder rules key
IsUnderList rules (CookieInsert cell place c) =
    IsCellUnder rules cell × IsHostOf rules (domain_of_cell cell) c.domain
IsUnderList rules (CookieReplace cell place c) =
    IsCellUnder rules cell × IsHostOf rules (domain_of_cell cell) c.domain
IsUnderList rules (CookieRemove cell place) = IsCellUnder rules cell
IsUnderList rules (Grant row) = IsOwnSite rules row.top × IsOwnSite rules row.site

-- of what has a spelling, the texts of its hosts tell whether it is of rows under the list
abbrev pub HostsTellRows : Type 0
HostsTellRows = (rules : List Rule) (change : PlainChange) → IsSpelled change
    → (change_stays rules change ≡ true) ↔ IsUnderList rules change
