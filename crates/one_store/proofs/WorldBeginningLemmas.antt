-- The world in which a run begins, from what is held for all sites then.
use Rattle.std.proofs.Common.{◌≡◌, ℕ, [], sym, subst}
use Rattle.std.specs.Cmp.{nat_cmp_total}
use Rattle.std.specs.Ordering.{nat_cmp}
use Rattle.std.specs.FinMap.{nat_cmp-IsAntisymmetric, get-empty}
use Rattle.origin_site.specs.Site.{PlainSite}
use Rattle.storage_key.specs.Key.{key_order}
use Rattle.storage_key.proofs.OrderLemmas.{key_order_total, key_order_same}
use Rattle.storage_key.specs.Context.{is_of}
use Rattle.agent_model.specs.PartitionedCells.{partitioned_order, no_partitioned_cells}
use Rattle.agent_model.specs.Partition.{session_order, no_holdings, empty_partition, is_cell_under, is_under}
use Rattle.agent_model.specs.Effects.{no_shared_cells}
use Rattle.agent_model.specs.Lines.{site_at, no_places}
use Rattle.agent_model.specs.TheMachine.{beginning}
use Rattle.one_store.specs.WholeWorld.{partition_at, whole_world, IsPlacedAt, IsPlaced}
use Rattle.agent_model.proofs.KeptLemmas as kept
use Rattle.agent_model.proofs.HoldingsLemmas.{session_order_total, session_order_same}
use Rattle.agent_model.proofs.PartitionedLemmas.{partitioned_order_total, partitioned_order_same}

-- nothing is nothing at each site
pub beginning_whole : (start : ℕ) → whole_world start no_places no_shared_cells no_holdings ≡ beginning start
unfolding whole_world beginning no_holdings no_partitioned_cells empty_partition
beginning_whole start = λ i. record { partition = λ site. record { site = site; held = nothing site i }; cells = no_shared_cells; rest = record { now = start; places = no_places } }
  where
    nothing : (site : PlainSite) → (partition_at no_places no_holdings site).held ≡ no_holdings
    nothing site = λ i.
        record {
          tabs = kept.kept_nothing nat_cmp nat_cmp_total nat_cmp-IsAntisymmetric (λ tab. is_of site (site_at tab no_places)) i;
          areas = kept.kept_nothing key_order key_order_total key_order_same (is_under site) i;
          persistent = kept.kept_nothing key_order key_order_total key_order_same (is_under site) i;
          sessions = kept.kept_nothing session_order session_order_total session_order_same (λ key. is_under site key.1) i;
          cookies = kept.kept_nothing partitioned_order partitioned_order_total partitioned_order_same (is_cell_under site) i;
          grants = [];
        }

-- and no tab is anywhere
pub beginning_placed : IsPlaced no_places no_holdings
unfolding no_places no_holdings
beginning_placed number = subst (IsPlacedAt (site_at number no_places)) (sym (get-empty nat_cmp number)) (get-empty nat_cmp number)
