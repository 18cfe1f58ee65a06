-- The order of keys in a map is that of the plain keys, which tie exactly where they are equal.
use Rattle.std.proofs.Common.{◌≡◌, true, refl, ap}
use Rattle.std.specs.declared.cmp.Ordering.{Ordering}
use Rattle.std.specs.Ordering.{eq_by_cmp}
use Rattle.std.proofs.lemmas.Cmp.{tied_itself}
use Rattle.std.specs.Cmp.{Equal-is, IsTotalOrder, then_total, on_total, bool_cmp_total}
use Rattle.std.specs.FinMap.{IsAntisymmetric}
use Rattle.cookie_jar.specs.declared.key.CellKey.{CellKey}
use Rattle.cookie_jar.specs.declared.key.CellKey.TheVariants as variant
use Rattle.cookie_jar.specs.contracts.key.CellKeyOrd as ord
use Rattle.cookie_jar.specs.Key.{PlainKey, OwnCell, PartitionCell, plain_key}
use Rattle.agent_model.proofs.PartitionedLemmas.{partitioned_order_total, partitioned_order_same}
use Rattle.web_cookies.specs.Cells.{cell_order, is_partition, parts_of}

abbrev pub order : CellKey → CellKey → Ordering
order = (ord.TheImpl.cmp-value).it

pub alike : (a b : CellKey) → order a b ≡ cell_order (plain_key a) (plain_key b)
alike (variant.Own a) (variant.Own b) = refl
alike (variant.Own a) (variant.Partition t c b) = refl
alike (variant.Partition s c a) (variant.Own b) = refl
alike (variant.Partition s c a) (variant.Partition t d b) = refl

pub cell_order_total : IsTotalOrder cell_order
cell_order_total = then_total (on_total is_partition bool_cmp_total) (on_total parts_of partitioned_order_total)

pub cell_order_same : IsAntisymmetric cell_order
cell_order_same (OwnCell a) (OwnCell b) e =
    ap (λ k. OwnCell k.domain) (partitioned_order_same (parts_of (OwnCell a)) (parts_of (OwnCell b)) e)
cell_order_same (OwnCell a) (PartitionCell t c b) e = cc
cell_order_same (PartitionCell s c a) (OwnCell b) e = cc
cell_order_same (PartitionCell s c a) (PartitionCell t d b) e =
    ap (λ k. PartitionCell k.top k.bit k.domain) (partitioned_order_same (parts_of (PartitionCell s c a)) (parts_of (PartitionCell t d b)) e)

-- keys that tie are equal
pub equal_keys : (a b : PlainKey) → eq_by_cmp cell_order a b ≡ true → a ≡ b
equal_keys a b tie = cell_order_same a b ((Equal-is (cell_order a b)).0 tie)

pub own_tie : (a : PlainKey) → eq_by_cmp cell_order a a ≡ true
own_tie a = (Equal-is (cell_order a a)).1 (tied_itself cell_order_total a)
