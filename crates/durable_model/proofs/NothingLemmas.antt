-- The state in which nothing is durable is valid, and opens the world in which a run begins.
use Rattle.std.proofs.Common.{◌≡◌, ℕ, [], refl, sym, ap, arith, subst, ◌∙◌}
use Rattle.unwinding.specs.FiniteCells.{restrict_cells}
use Rattle.origin_site.specs.Site.{PlainSite}
use Rattle.storage_key.specs.Key.{key_order}
use Rattle.storage_key.proofs.OrderLemmas.{key_order_total, key_order_same}
use Rattle.cookie_jar.specs.Key.{OwnCell, PartitionCell}
use Rattle.agent_model.specs.PartitionedCells.{no_partitioned_cells, partitioned_order}
use Rattle.agent_model.specs.Partition.{empty_partition, is_cell_under, is_under, no_holdings}
use Rattle.agent_model.specs.TheMachine.{beginning}
use Rattle.agent_model.proofs.CookieCellsLemmas as own_cells
use Rattle.agent_model.proofs.KeptLemmas.{kept_nothing}
use Rattle.agent_model.proofs.PartitionedLemmas.{partitioned_order_total, partitioned_order_same}
use Rattle.durable_model.specs.Saved.{IsKeptCell, IsValid, no_rows, nothing_saved}
use Rattle.durable_model.specs.Keeping.{keeping, partition_again, rows_under}
use Rattle.durable_model.specs.Histories.{reopened_world}
use Rattle.durable_model.proofs.CellsLemmas.{get_none}

pub none_kept : IsKeptCell []
none_kept = (refl, λ c. omega arith)

pub nothing_valid : IsValid nothing_saved
unfolding nothing_saved no_rows
nothing_valid (OwnCell domain) = subst IsKeptCell (sym (own_cells.get_none domain)) none_kept
nothing_valid (PartitionCell top bit domain) = subst IsKeptCell (sym (get_none (record { top = top; bit = bit; domain = domain }))) none_kept

-- under no site is anything kept
nothing_under : (site : PlainSite) → rows_under site no_rows ≡ no_rows
unfolding no_rows restrict_cells no_partitioned_cells
nothing_under site = λ i.
    record {
      areas = kept_nothing key_order key_order_total key_order_same (is_under site) i;
      persistent = kept_nothing key_order key_order_total key_order_same (is_under site) i;
      cookies = kept_nothing partitioned_order partitioned_order_total partitioned_order_same (is_cell_under site) i;
      grants = [];
    }

nothing_again : (site : PlainSite) → partition_again site no_rows ≡ empty_partition site
unfolding no_rows no_holdings empty_partition
nothing_again site = refl

-- a run that begins with nothing durable begins in the world without tabs and storage
pub nothing_opens : (start : ℕ) → reopened_world start nothing_saved ≡ beginning start
unfolding keeping beginning nothing_saved
nothing_opens start = λ i.
    record {
      partition = λ site. (ap (partition_again site) (nothing_under site) ∙ nothing_again site) i;
      cells = (beginning start).cells;
      rest = (beginning start).rest;
    }
