-- The lines of two answers, spelled out, so that a wrong form in the specs does not check.
use Rattle.std.proofs.Common.{◌≡◌, codes, refl}
use Rattle.std.specs.Fmt.{digits}
use Rattle.script_courses.specs.Twins.{Equal, LocalDiffer}
use Rattle.replay.specs.Twins.{twin_line}

equal : twin_line (Equal 12) ≡ codes "{\"equal\":12,\"twin\":\"equal\"}\n"
unfolding digits
equal = refl

differ : twin_line (LocalDiffer 0) ≡ codes "{\"differ\":0,\"twin\":\"local\"}\n"
unfolding digits
differ = refl
