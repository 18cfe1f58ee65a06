use Rattle.std.proofs.Common.{◌≡◌, take}
use Rattle.cookie_jar.specs.Cookie.{copies}
use Rattle.cookie_jar.specs.Plain.{plain_cookie}
use Rattle.web_cookies.proofs.rows.is_absent.Given as goal

abbrev pub invariant-loop-place : goal.invariant-loop-place
invariant-loop-place l = copies (plain_cookie l.cookie) (take l.place l.jar.cookies) ≡ 0
