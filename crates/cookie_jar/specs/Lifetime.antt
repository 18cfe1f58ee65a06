-- When a cookie is expired, and whether it outlives a restart.
-- Source: RFC 6265bis, "Storage Model" (a cookie is expired if its expiry is in the past; the
-- persistent-flag).
-- Our own choice: a cookie is expired from its expiry on.
use Rattle.std.specs.Prelude.{ℤ, Bool, false, Option, Some, None, is_some, int_le}
use Rattle.cookie_jar.specs.Cookie.{PlainCookie}

-- an expiry that is at most the moment
abbrev pub has_passed : ℤ → Option ℤ → Bool
has_passed now None = false
has_passed now (Some expiry) = int_le expiry now

-- whether a cookie is expired at a moment
abbrev pub is_expired : ℤ → PlainCookie → Bool
is_expired now c = has_passed now c.expiry

-- whether a cookie outlives a restart
abbrev pub is_persistent : PlainCookie → Bool
is_persistent c = is_some c.expiry
