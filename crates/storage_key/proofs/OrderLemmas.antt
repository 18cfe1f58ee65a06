-- Storage keys tie in their order exactly where they are equal.
use Rattle.std.proofs.Common.{◌≡◌, true, false, refl}
use Rattle.std.specs.declared.cmp.Ordering.{Ordering}
use Rattle.std.specs.declared.cmp.Ordering.TheVariants.{Less, Equal, Greater}
use Rattle.std.specs.Cmp.{IsTotalOrder, then_total, on_total, bool_cmp_total, nat_cmp_total}
use Rattle.std.specs.Cmp.Lexicographic.{slice_cmp, nat_list_cmp_total}
use Rattle.std.specs.FinMap.{IsAntisymmetric, nat_cmp-IsAntisymmetric, slice_cmp-IsAntisymmetric}
use Rattle.std.specs.Ordering.{nat_cmp, bool_cmp, ordering_then}
use Rattle.storage_key.specs.Key.{origin_order, site_order, key_order}

-- both parts of a tie are ties
pub both_equal : (a b : Ordering) → ordering_then a b ≡ Equal → (a ≡ Equal) × (b ≡ Equal)
both_equal Less b e = cc
both_equal Equal b e = (refl, e)
both_equal Greater b e = cc

pub bool_same : IsAntisymmetric bool_cmp
bool_same true true e = refl
bool_same true false e = cc
bool_same false true e = cc
bool_same false false e = refl

origin_order_total : IsTotalOrder origin_order
origin_order_total =
    then_total (on_total (λ o. o.https) bool_cmp_total) (then_total (on_total (λ o. o.ip) bool_cmp_total)
    (then_total (on_total (λ o. o.host) nat_list_cmp_total) (on_total (λ o. o.port) nat_cmp_total)))

origin_order_same : IsAntisymmetric origin_order
origin_order_same a b e =
    let one = both_equal (bool_cmp a.https b.https) _ e in
    let two = both_equal (bool_cmp a.ip b.ip) _ one.1 in
    let three = both_equal (slice_cmp nat_cmp a.host b.host) (nat_cmp a.port b.port) two.1 in
    let https = bool_same a.https b.https one.0 in
    let ip = bool_same a.ip b.ip two.0 in
    let host = slice_cmp-IsAntisymmetric nat_cmp-IsAntisymmetric a.host b.host three.0 in
    let port = nat_cmp-IsAntisymmetric a.port b.port three.1 in
    λ i. record { https = https i; ip = ip i; host = host i; port = port i }

pub site_order_total : IsTotalOrder site_order
site_order_total = then_total (on_total (λ s. s.https) bool_cmp_total) (on_total (λ s. s.host) nat_list_cmp_total)

pub site_order_same : IsAntisymmetric site_order
site_order_same a b e =
    let both = both_equal (bool_cmp a.https b.https) _ e in
    let https = bool_same a.https b.https both.0 in
    let host = slice_cmp-IsAntisymmetric nat_cmp-IsAntisymmetric a.host b.host both.1 in
    λ i. record { https = https i; host = host i }

pub key_order_total : IsTotalOrder key_order
key_order_total =
    then_total (on_total (λ k. k.top) site_order_total)
    (then_total (on_total (λ k. k.origin) origin_order_total) (on_total (λ k. k.bit) bool_cmp_total))

pub key_order_same : IsAntisymmetric key_order
key_order_same a b e =
    let one = both_equal (site_order a.top b.top) _ e in
    let two = both_equal (origin_order a.origin b.origin) (bool_cmp a.bit b.bit) one.1 in
    let top = site_order_same a.top b.top one.0 in
    let origin = origin_order_same a.origin b.origin two.0 in
    let bit = bool_same a.bit b.bit two.1 in
    λ i. record { top = top i; origin = origin i; bit = bit i }
