-- The order of session areas, and what a write of an area leaves.
use Rattle.std.proofs.Common.{◌≡◌, ℕ, List, refl}
use Rattle.std.specs.declared.cmp.Ordering.{Ordering}
use Rattle.std.specs.declared.cmp.Ordering.TheVariants.{Less, Equal, Greater}
use Rattle.std.specs.Cmp.{IsTotalOrder, then_total, on_total, nat_cmp_total}
use Rattle.std.specs.Ordering.{nat_cmp, ordering_then}
use Rattle.std.specs.FinMap.{IsAntisymmetric, nat_cmp-IsAntisymmetric}
use Rattle.storage_key.specs.Key.{PlainKey, key_order}
use Rattle.storage_key.proofs.OrderLemmas.{key_order_total, key_order_same}
use Rattle.local_area.specs.Area.{Pair}
use Rattle.storage_events.specs.declared.event.AreaKind.{AreaKind}
use Rattle.storage_events.specs.declared.event.AreaKind.TheVariants.{Local, Session}
use Rattle.agent_model.specs.Partition.{session_order, Holdings, with_area}

-- ---- the order of session areas

pub session_order_total : IsTotalOrder session_order
session_order_total = then_total (on_total (λ k. k.0) nat_cmp_total) (on_total (λ k. k.1) key_order_total)

-- session areas tie exactly where tab and key are equal
pub session_order_same : IsAntisymmetric session_order
session_order_same a b e = at (nat_cmp a.0 b.0) refl e
  where
    at : (r : Ordering) → nat_cmp a.0 b.0 ≡ r → ordering_then r (key_order a.1 b.1) ≡ Equal → a ≡ b
    at Less is tie = cc
    at Equal is tie = λ i. (nat_cmp-IsAntisymmetric a.0 b.0 is i, key_order_same a.1 b.1 tie i)
    at Greater is tie = cc

-- ---- writes

-- an area that is replaced leaves the tabs
pub with_area_tabs : (kind : AreaKind) (tab : ℕ) (key : PlainKey) (pairs : List Pair) (held : Holdings) → (with_area kind tab key pairs held).tabs ≡ held.tabs
with_area_tabs Local tab key pairs held = refl
with_area_tabs Session tab key pairs held = refl
