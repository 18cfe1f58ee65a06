-- No pairs have no weight.
use Rattle.std.proofs.Common.{refl, arith}
use Rattle.local_area.proofs.PairsLemmas.{distinct-none}
use Rattle.local_area.proofs.area.Area.clear.Goals as goal

pub invariant_of-self : goal.invariant_of-self
invariant_of-self c = record {
  distinct = distinct-none _ c.clear.ensures.empty;
  weight = rw c.clear.ensures.empty refl;
  within = omega arith;
}
