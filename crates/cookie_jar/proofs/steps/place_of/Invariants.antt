use Rattle.std.proofs.Common.{◌≡◌, ◌+◌, drop, map}
use Rattle.cookie_jar.specs.Steps.{place_of}
use Rattle.cookie_jar.specs.Borrowed.{plain_borrowed}
use Rattle.cookie_jar.specs.Plain.{plain_cookie}
use Rattle.cookie_jar.proofs.steps.place_of.Given as goal

abbrev pub invariant-loop-place : goal.invariant-loop-place
invariant-loop-place l = place_of (plain_borrowed l.fresh) (map plain_cookie l.cookies) ≡ l.place + place_of (plain_borrowed l.fresh) (map plain_cookie (drop l.place l.cookies))
