-- The parts of a cookie that are compared one by one.
-- Source: RFC 6265bis, "Storage Model" (the fields of a cookie).
use Rattle.std.specs.Prelude.{ℕ, ℤ, Bool, List, Option}
use Rattle.setcookie_parse.specs.declared.cookie.SameSite.{SameSite}
use Rattle.stored_cookie.specs.StoredCookie.{PlainCookie}

-- name, value, domain and path
abbrev pub texts_of : PlainCookie → List ℕ × List ℕ × List ℕ × List ℕ
texts_of c = (c.name, c.value, c.domain, c.path)

-- the flags, and when it goes with requests from other sites
abbrev pub flags_of : PlainCookie → Bool × Bool × Bool × SameSite
flags_of c = (c.host_only, c.secure, c.http_only, c.same_site)

-- when it was made, when it expires, and when it was last used
abbrev pub times_of : PlainCookie → ℤ × Option ℤ × ℤ
times_of c = (c.creation, c.expiry, c.last)
