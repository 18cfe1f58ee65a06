use Rattle.std.proofs.Common.{◌≡◌, take}
use Rattle.cookie_jar.proofs.cookie.have_equal_bytes.Given as goal

-- the bytes so far are the same
abbrev pub invariant-loop-i : goal.invariant-loop-i
invariant-loop-i l = take l.i l.a ≡ take l.i l.b
