-- The cells that sites share: the unpartitioned cookies of each domain.
-- Source: RFC 6265bis, "Weak Confidentiality" (cookies are not isolated by scheme, so pages of http
-- and of https share them), "Storage Model" (the fields of a cookie).
-- Our own choice: a cell is that of a site's domain, where the draft has one store for all hosts.
-- Two contents are the same where the same cookies stand in the same order; the time of the last
-- use counts too.
use Rattle.std.specs.Prelude.{ℕ, Bool, false, ◌==◌, ◌&&◌, List, bytes_eq}
use Rattle.std.specs.Bool.{beq}
use Rattle.std.specs.Option.{option_eq}
use Rattle.std.specs.Ordering.{nat_cmp, int_eq}
use Rattle.std.specs.declared.cmp.Ordering.{Ordering}
use Rattle.std.specs.Cmp.Lexicographic.{slice_cmp, pointwise}
use Rattle.std.specs.FinMap as map
use Rattle.unwinding.specs.FiniteCells.{Full}
use Rattle.origin_site.specs.Site.{PlainSite}
use Rattle.setcookie_parse.specs.declared.cookie.SameSite.{SameSite}
use Rattle.setcookie_parse.specs.declared.cookie.SameSite.TheVariants as when
use Rattle.stored_cookie.specs.StoredCookie.{PlainCookie}

-- the domain of a site: a registrable domain, or a whole host that has none
abbrev pub Domain : Type 0
Domain = List ℕ

-- domains in the order of their bytes
abbrev pub domain_order : Domain → Domain → Ordering
domain_order = slice_cmp nat_cmp

-- the cookies of one cell, in order of place
abbrev pub Cookies : Type 0
Cookies = List PlainCookie

-- a cell for each domain. One that is empty and one that is absent are the same.
abbrev pub CookieCells : Type 0
CookieCells = map.FinMap domain_order (Full PlainCookie)

-- no domain has a cookie
unfoldable pub no_cookies : CookieCells
no_cookies = map.empty

-- a cell is home to the sites of its domain: to the one of https, and to the one of http
abbrev pub is_home : PlainSite → Domain → Bool
is_home site domain = bytes_eq site.host domain

-- no cell is home to one site alone
abbrev pub is_own : PlainSite → Domain → Bool
is_own site domain = false

-- ---- the same content

-- a number for each SameSite
abbrev pub same_site_number : SameSite → ℕ
same_site_number when.Default = 0
same_site_number when.NoneSent = 1
same_site_number when.Lax = 2
same_site_number when.Strict = 3

-- two cookies have each field alike
abbrev pub equal_cookie : PlainCookie → PlainCookie → Bool
equal_cookie a b =
    bytes_eq a.name b.name
    && (bytes_eq a.value b.value && (bytes_eq a.domain b.domain && (bytes_eq a.path b.path
    && (beq a.host_only b.host_only && (beq a.secure b.secure && (beq a.http_only b.http_only
    && ((same_site_number a.same_site == same_site_number b.same_site)
    && (int_eq a.creation b.creation
    && (option_eq int_eq a.expiry b.expiry && int_eq a.last b.last)))))))))

-- two cells have the same cookies in the same order
abbrev pub equal_cookies : Cookies → Cookies → Bool
equal_cookies = pointwise equal_cookie
