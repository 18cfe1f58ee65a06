-- The order of partitioned cells, whose keys tie exactly where they are equal.
use Rattle.std.specs.Cmp.{IsTotalOrder, then_total, on_total, bool_cmp_total}
use Rattle.std.specs.FinMap.{IsAntisymmetric}
use Rattle.std.specs.Ordering.{bool_cmp}
use Rattle.storage_key.specs.Key.{site_order}
use Rattle.storage_key.proofs.OrderLemmas.{bool_same, both_equal, site_order_same, site_order_total}
use Rattle.agent_model.specs.PartitionedCells.{partitioned_order}
use Rattle.agent_model.proofs.CookieCellsLemmas.{domain_order_total, domain_order_same}

pub partitioned_order_total : IsTotalOrder partitioned_order
partitioned_order_total = then_total (on_total (λ k. k.top) site_order_total) (then_total (on_total (λ k. k.bit) bool_cmp_total) (on_total (λ k. k.domain) domain_order_total))

pub partitioned_order_same : IsAntisymmetric partitioned_order
partitioned_order_same a b e =
    let one = both_equal (site_order a.top b.top) _ e in
    let two = both_equal (bool_cmp a.bit b.bit) _ one.1 in
    let top = site_order_same a.top b.top one.0 in
    let bit = bool_same a.bit b.bit two.0 in
    let domain = domain_order_same a.domain b.domain two.1 in
    λ i. record { top = top i; bit = bit i; domain = domain i }
