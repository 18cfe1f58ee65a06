use Rattle.std.proofs.Common.{◌≡◌, take}
use Rattle.local_scripts.proofs.same.same_cookies.Given as goal

abbrev pub invariant-loop-place : goal.invariant-loop-place
invariant-loop-place l = take l.place l.a.cookies ≡ take l.place l.b.cookies
