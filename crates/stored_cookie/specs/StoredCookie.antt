-- A cookie that is kept.
-- Source: RFC 6265bis, "Storage Model" (the fields of a cookie).
-- Our own choice: the persistent-flag is that there is an expiry.
use Rattle.std.specs.Prelude.{ℕ, ℤ, Bool, List, Option}
use Rattle.setcookie_parse.specs.declared.cookie.SameSite.{SameSite}

-- a cookie, as contracts see it: each text is the list of its bytes
pub record PlainCookie : Type 0 where
  pub name : List ℕ
  pub value : List ℕ
  pub domain : List ℕ
  pub path : List ℕ
  pub host_only : Bool
  pub secure : Bool
  pub http_only : Bool
  pub same_site : SameSite
  pub creation : ℤ
  pub expiry : Option ℤ
  pub last : ℤ
