use Rattle.std.proofs.Common.{◌≡◌, take}
use Rattle.std.specs.List.{sum_by}
use Rattle.cookie_jar.specs.Cookie.{counted}
use Rattle.web_cookies.proofs.rows.bytes_of.Given as goal

abbrev pub invariant-loop-place : goal.invariant-loop-place
invariant-loop-place l = l.bytes ≡ sum_by (counted l.jar.kind) (take l.place l.jar.cookies)
