-- A value that is there leaves the weight.
use Rattle.std.proofs.Common.{◌≡◌, ap, sym, ◌∙◌}
use Rattle.local_area.specs.Area.{area_weight, HasDistinctNames}
use Rattle.local_area.proofs.PairsLemmas.{area_put-same}
use Rattle.local_area.proofs.area.Area.weight_after.Goals as goal

pub returns-in-None : goal.returns-in-None
returns-in-None c =
    let distinct : HasDistinctNames c.args.self.now = rw c.self.view_is at c.self.invariant.distinct in
    let running : c.self.inside.weight ≡ area_weight c.args.self.now = rw c.self.view_is at c.self.invariant.weight in
    record { weight = running ∙ sym (ap area_weight (area_put-same _ _ _ distinct c.in-None.ensures.same)) }
