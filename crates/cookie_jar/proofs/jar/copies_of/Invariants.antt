use Rattle.std.proofs.Common.{◌≡◌, map, take}
use Rattle.cookie_jar.specs.Plain.{plain_cookie}
use Rattle.cookie_jar.proofs.jar.copies_of.Given as goal

abbrev pub invariant-loop-cookie : goal.invariant-loop-cookie
invariant-loop-cookie l =
    map plain_cookie l.copies.items ≡ map plain_cookie (take l.cookie-index l.cookies)
