-- Row changes keep a durable state valid, and a restart of a valid state is sound.
use Rattle.std.proofs.Common.{◌≡◌, ℕ, Bool, true, false, cond, List, [], ◌∷◌, refl, sym, ap, arith, subst}
use Rattle.std.specs.Ordering.{nat_cmp}
use Rattle.std.specs.FinMap.{get-empty}
use Rattle.unwinding.specs.FiniteCells.{get_cell}
use Rattle.unwinding.specs.Durable.{apply_changes, restarted}
use Rattle.unwinding.proofs.FiniteCellsLemmas as cells_of
use Rattle.origin_site.specs.Site.{PlainSite}
use Rattle.storage_key.specs.Context.{is_of}
use Rattle.cookie_jar.specs.Key.{OwnCell, PartitionCell}
use Rattle.row_changes.specs.Change.{PlainChange}
use Rattle.agent_model.specs.CookieCells.{CookieCells, Domain, domain_order}
use Rattle.agent_model.specs.PartitionedCells.{PartitionedKey, partitioned_order}
use Rattle.agent_model.specs.Partition.{is_cell_under, no_holdings, tab_named}
use Rattle.agent_model.specs.Lines.{Rest}
use Rattle.agent_model.proofs.PartitionedLemmas.{partitioned_order_total, partitioned_order_same}
use Rattle.durable_model.specs.Saved.{IsKeptCell, IsValid, Saved, SiteRows}
use Rattle.durable_model.specs.RowEdits.{after_change, domain_of_change, top_of_change}
use Rattle.durable_model.specs.Keeping.{AgentDurable, cells_alone, cells_changed, durable_of, keeping, partition_again, passes, rows_alone, rows_changed, rows_kept}
use Rattle.durable_model.specs.Laws.{ChangesKeepValid}
use Rattle.durable_model.specs.Sound.{IsSoundWorld, IsTabOf, IsValidState}
use Rattle.durable_model.proofs.CellsLemmas.{kept_all}
use Rattle.durable_model.proofs.KeptCellLemmas.{change_keeps, kept_same}

-- ---- row changes

pub changes_keep_valid : ChangesKeepValid
changes_keep_valid d change valid cell = change_keeps d change cell (valid cell)

rows_keep : (site : PlainSite) (change : PlainChange) (rows : SiteRows) → ((key : PartitionedKey) → IsKeptCell (get_cell partitioned_order rows.cookies key))
    → (key : PartitionedKey) → IsKeptCell (get_cell partitioned_order (rows_changed site change rows).cookies key)
rows_keep site change rows valid key = at (is_of site (top_of_change change))
  where
    at : (b : Bool) → IsKeptCell (get_cell partitioned_order (cond b (after_change (rows_alone rows) change).under rows).cookies key)
    at true = change_keeps (rows_alone rows) change (PartitionCell key.top key.bit key.domain) (valid key)
    at false = valid key

cells_keep : (change : PlainChange) (cells : CookieCells) → ((domain : Domain) → IsKeptCell (get_cell domain_order cells domain))
    → (domain : Domain) → IsKeptCell (get_cell domain_order (cells_changed (λ c. true) change cells) domain)
cells_keep change cells valid domain = at (passes (λ c. true) (domain_of_change change))
  where
    at : (b : Bool) → IsKeptCell (get_cell domain_order (cond b (after_change (cells_alone cells) change).cells cells) domain)
    at true = change_keeps (cells_alone cells) change (OwnCell domain) (valid domain)
    at false = valid domain

one_valid : (d : AgentDurable) (change : PlainChange) → IsValidState d → IsValidState (apply_changes keeping (change ∷ []) d)
unfolding keeping
one_valid d change valid =
    record {
      shared = cells_keep change d.cells valid.shared;
      partitioned = λ site. rows_keep site change (d.partition site) (valid.partitioned site);
    }

pub all_valid : (d : AgentDurable) (changes : List PlainChange) → IsValidState d → IsValidState (apply_changes keeping changes d)
all_valid d [] valid = valid
all_valid d (change ∷ changes) valid = all_valid (apply_changes keeping (change ∷ []) d) changes (one_valid d change valid)

-- ---- restarts

no_tab : (site : PlainSite) (number : ℕ) → IsTabOf site (tab_named number no_holdings)
unfolding no_holdings
no_tab site number = subst (IsTabOf site) (sym (get-empty nat_cmp number)) tt

pub opens_sound : (rest : Rest) (d : AgentDurable) → IsValidState d → IsSoundWorld (restarted keeping rest d)
unfolding keeping
opens_sound rest d valid =
    record {
      own = λ site. refl;
      tabs = no_tab;
      shared = λ domain. (valid.shared domain).1;
      partitioned = λ site key. (valid.partitioned site key).1;
    }

-- of what a restart opens the same is kept
pub opened_same : (site : PlainSite) (rows : SiteRows) → ((key : PartitionedKey) → IsKeptCell (get_cell partitioned_order rows.cookies key)) → rows_kept (partition_again site rows) ≡ rows
opened_same site rows valid =
    ap (λ cookies. record rows { cookies = cookies }) (kept_all rows.cookies (λ key. kept_same (get_cell partitioned_order rows.cookies key) (valid key).0))

-- a valid state of all sites is so at each
pub valid_state : (d : Saved) → IsValid d → IsValidState (durable_of d)
valid_state d valid =
    record {
      shared = λ domain. valid (OwnCell domain);
      partitioned = λ site key.
          subst IsKeptCell (sym (cells_of.get_restrict partitioned_order partitioned_order_total partitioned_order_same (is_cell_under site) d.under.cookies key))
          (at key (is_cell_under site key));
    }
  where
    at : (key : PartitionedKey) (b : Bool) → IsKeptCell (cond b (get_cell partitioned_order d.under.cookies key) [])
    at key true = valid (PartitionCell key.top key.bit key.domain)
    at key false = (refl, λ c. omega arith)
