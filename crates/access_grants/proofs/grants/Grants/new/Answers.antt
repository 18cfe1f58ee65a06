-- No row, so no two of one pair, and no number of one.
use Rattle.std.proofs.Common.{arith, refl}
use Rattle.std.specs.List.{IsDistinct}
use Rattle.access_grants.proofs.grants.Grants.new.Goals as goal

pub invariant_of-result : goal.invariant_of-result
unfolding IsDistinct
invariant_of-result c = record {
  distinct = rw c.new.ensures.items tt;
  first = λ code. rw (c.new.ensures.items, c.new-2.ensures.empty) refl;
  rows_room = omega arith;
  index_room = omega arith;
}
