-- Values of the format of rows, so that a wrong rule in the specs does not check.
use Rattle.std.proofs.Common.{◌≡◌, refl, pos, negsuc, Bool, true, false, ℕ, Some, None}
use Rattle.std.specs.Prelude.{codes}
use Rattle.std.specs.Fmt.{digits}
use Rattle.serde_json.proofs.OnLiterals.{serde_json_on_literals}
use Rattle.origin_site.specs.Site.{PlainSite}
use Rattle.storage_key.specs.Key.{PlainKey}
use Rattle.setcookie_parse.specs.declared.cookie.SameSite.{SameSite}
use Rattle.setcookie_parse.specs.declared.cookie.SameSite.TheVariants.{Default, NoneSent, Lax, Strict}
use Rattle.stored_cookie.specs.StoredCookie.{PlainCookie}
use Rattle.cookie_jar.specs.Key.{OwnCell, PartitionCell}
use Rattle.row_changes.specs.Change as change
use Rattle.row_lines.specs.Row.{Area, Mode, Cookie, Grant, row_of, row_text}

-- the site `https://a.test`
abbrev site_a : PlainSite
site_a = record { https = true; host = codes "a.test" }

-- the key of a document of `https://a.test` on a port, under that site
abbrev key_at : ℕ → PlainKey
key_at port = record { top = site_a; origin = record { https = true; ip = false; host = codes "a.test"; port = port }; bit = false }

-- a cookie of the domain `w.test`
abbrev cookie_with : (host_only secure http_only : Bool) → SameSite → PlainCookie
cookie_with host_only secure http_only same_site = record {
  name = codes "n";
  value = codes "1";
  domain = codes "w.test";
  path = codes "/";
  host_only = host_only;
  secure = secure;
  http_only = http_only;
  same_site = same_site;
  creation = pos 1767225600;
  expiry = Some (pos 1767226600);
  last = pos 0;
}

area : row_text (Area (key_at 443) (codes "k") (codes "v"))
    ≡ codes "{\"bit\":false,\"key\":\"k\",\"origin\":\"https://a.test\",\"row\":\"area\",\"top\":\"https://a.test\",\"value\":\"v\"}\n"
unfolding serde_json_on_literals
area = refl

port : row_text (Area (key_at 8443) (codes "\"") (codes ""))
    ≡ codes "{\"bit\":false,\"key\":\"\\\"\",\"origin\":\"https://a.test:8443\",\"row\":\"area\",\"top\":\"https://a.test\",\"value\":\"\"}\n"
unfolding digits serde_json_on_literals
port = refl

mode : row_text (Mode (key_at 443)) ≡ codes "{\"bit\":false,\"origin\":\"https://a.test\",\"row\":\"mode\",\"top\":\"https://a.test\"}\n"
unfolding serde_json_on_literals
mode = refl

partitioned : row_text (Cookie (PartitionCell site_a true (codes "w.test")) (cookie_with true true false NoneSent) (pos 1767226600))
    ≡ codes "{\"bit\":true,\"creation\":1767225600,\"domain\":\"w.test\",\"expiry\":1767226600,\"host_only\":true,\"http_only\":false,\"name\":\"n\",\"path\":\"/\",\"row\":\"cookie\",\"same_site\":\"none\",\"secure\":true,\"top\":\"https://a.test\",\"value\":\"1\"}\n"
unfolding digits serde_json_on_literals
partitioned = refl

own : row_text (Cookie (OwnCell (codes "w.test")) (cookie_with false false true Default) (negsuc 0))
    ≡ codes "{\"bit\":null,\"creation\":1767225600,\"domain\":\"w.test\",\"expiry\":-1,\"host_only\":false,\"http_only\":true,\"name\":\"n\",\"path\":\"/\",\"row\":\"cookie\",\"same_site\":\"default\",\"secure\":false,\"top\":null,\"value\":\"1\"}\n"
unfolding digits serde_json_on_literals
own = refl

grant : row_text (Grant (record { top = site_a; site = record { https = true; host = codes "x.test" }; granted = true; until = pos 1769817600 }))
    ≡ codes "{\"granted\":true,\"row\":\"grant\",\"site\":\"https://x.test\",\"top\":\"https://a.test\",\"until\":1769817600}\n"
unfolding digits serde_json_on_literals
grant = refl

denial : row_text (Grant (record { top = site_a; site = record { https = true; host = codes "x.test" }; granted = false; until = pos 0 }))
    ≡ codes "{\"granted\":false,\"row\":\"grant\",\"site\":\"https://x.test\",\"top\":\"https://a.test\",\"until\":0}\n"
unfolding digits serde_json_on_literals
denial = refl

-- a cookie is a row with its own expiry, and a session cookie is none
cookie : row_of (change.CookieInsert (OwnCell (codes "w.test")) 3 (cookie_with true true true Lax)) ≡ Some (Cookie (OwnCell (codes "w.test")) (cookie_with true true true Lax) (pos 1767226600))
cookie = refl

session : row_of (change.CookieInsert (OwnCell (codes "w.test")) 0 (record (cookie_with true true true Strict) { expiry = None })) ≡ None
session = refl

-- changes of rows that are there are none
removal : row_of (change.CookieRemove (OwnCell (codes "w.test")) 0) ≡ None
removal = refl

clear : row_of (change.AreaClear (key_at 443)) ≡ None
clear = refl
