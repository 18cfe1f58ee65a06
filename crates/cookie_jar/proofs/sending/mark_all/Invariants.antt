use Rattle.std.proofs.Common.{◌≡◌, map, take}
use Rattle.cookie_jar.specs.Sending.{marked}
use Rattle.cookie_jar.specs.Plain.{plain_cookie}
use Rattle.cookie_jar.proofs.sending.mark_all.Given as goal

abbrev pub invariant-loop-place : goal.invariant-loop-place
invariant-loop-place l =
    map plain_cookie l.cookies ≡ marked (take l.place-index l.places) l.now (map plain_cookie l.initial.cookies)
