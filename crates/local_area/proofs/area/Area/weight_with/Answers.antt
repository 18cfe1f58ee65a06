-- What comes and what goes, by the weight of a put over another value.
use Rattle.std.proofs.Common.{◌≡◌, arith, sym}
use Rattle.local_area.specs.Area.{area_weight, HasDistinctNames}
use Rattle.local_area.proofs.PairsLemmas.{area_weight-put_over}
use Rattle.local_area.proofs.area.Area.weight_with.Goals as goal

pub overflow_sub-result : goal.overflow_sub-result
overflow_sub-result c =
    let distinct : HasDistinctNames c.args.self.now = rw c.self.view_is at c.self.invariant.distinct in
    let running : c.self.inside.weight ≡ area_weight c.args.self.now = rw c.self.view_is at c.self.invariant.weight in
    omega (arith, running, (area_weight-put_over _ c.args.value.now _ _ distinct (sym c.in-Some.ensures.value)).0)

pub returns-in-Some-2-clause-weight : goal.returns-in-Some-2-clause-weight
returns-in-Some-2-clause-weight c =
    let distinct : HasDistinctNames c.args.self.now = rw c.self.view_is at c.self.invariant.distinct in
    let running : c.self.inside.weight ≡ area_weight c.args.self.now = rw c.self.view_is at c.self.invariant.weight in
    omega (arith, running, (area_weight-put_over _ c.args.value.now _ _ distinct (sym c.in-Some.ensures.value)).1)
