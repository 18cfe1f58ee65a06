-- The world that an opening begins with.
use Rattle.std.proofs.Common.{◌≡◌, ℕ, List, [], ap, ◌∙◌}
use Rattle.std.specs.Cmp.{nat_cmp_total}
use Rattle.std.specs.FinMap as finite
use Rattle.std.specs.FinMap.{nat_cmp-IsAntisymmetric}
use Rattle.std.specs.Ordering.{nat_cmp}
use Rattle.unwinding.specs.FiniteCells.{restrict_cells}
use Rattle.suffix_list.specs.Suffix.{Rule}
use Rattle.origin_site.specs.Site.{PlainSite}
use Rattle.storage_key.specs.Context.{is_of}
use Rattle.access_grants.specs.Grant.{PlainGrants}
use Rattle.access_grants.specs.UnderSite.{grants_under}
use Rattle.web_storage.specs.Stored as storage
use Rattle.web_cookies.specs.Stored as cookies
use Rattle.agent_model.specs.Lines.{no_places, site_at}
use Rattle.agent_model.specs.Partition.{Holdings, SessionAreas, is_cell_under, is_under, no_holdings, session_order}
use Rattle.agent_model.proofs.HoldingsLemmas.{session_order_same, session_order_total}
use Rattle.agent_model.proofs.KeptLemmas as kept
use Rattle.durable_model.specs.Histories.{reopened_world}
use Rattle.durable_model.specs.Keeping.{keeping, partition_again, rows_under}
use Rattle.durable_model.specs.Saved.{Saved}
use Rattle.row_store.specs.Stored.{HasNoSession, saved_in}
use Rattle.one_store.specs.HeldAt.{held_at}
use Rattle.one_store.specs.WholeWorld.{whole_world}
use Rattle.agent_memory.specs.AgentState.{beside_storage, world_of}
use Rattle.agent_core.specs.Openings.{resumed}

module _ (rules : List Rule) (now : ℕ) (areas : storage.Entries) (cells : cookies.Entries)
    (grants : PlainGrants) (none : HasNoSession areas) where
  held : Holdings
  held = storage.held_with (beside_storage [] cells grants.rows) areas

  no_sessions : held.sessions ≡ finite.empty
  unfolding held
  no_sessions = none (beside_storage [] cells grants.rows)

  saved : Saved
  saved = saved_in areas cells grants

  held_is : (site : PlainSite)
      → held_at site (λ tab. is_of site (site_at tab no_places)) held
      ≡ (partition_again site (rows_under site saved.under)).held
  unfolding held saved storage.held_with no_holdings restrict_cells
  held_is site = λ i.
      record {
        tabs =
            kept.kept_nothing nat_cmp nat_cmp_total nat_cmp-IsAntisymmetric
            (λ tab. is_of site (site_at tab no_places)) i;
        areas = finite.retain_keys (storage.areas_in areas.local) (is_under site);
        persistent = finite.retain_keys (storage.keys_in areas.local) (is_under site);
        sessions =
            (ap
            (λ (s : SessionAreas). finite.retain_keys s (λ key. is_under site key.1)) no_sessions
            ∙ kept.kept_nothing session_order session_order_total session_order_same
            (λ key. is_under site key.1)) i;
        cookies = finite.retain_keys (cookies.partitioned_in cells) (is_cell_under site);
        grants = grants_under site grants.rows;
      }

  pub resumed_world : world_of (resumed rules now areas cells grants)
      ≡ reopened_world now (saved_in areas cells grants)
  unfolding world_of whole_world keeping held saved
  resumed_world = λ i.
      record {
        partition = λ site. record { site = site; held = held_is site i };
        cells = cookies.shared_in cells;
        rest = record { now = now; places = no_places };
      }
