-- The durable state that the parts of a store's rows stand for, as contracts see it.
-- Source: none.
use Rattle.std.specs.Prelude.{◌≡◌}
use Rattle.std.specs.FinMap as finite
use Rattle.access_grants.specs.Grant.{PlainGrants}
use Rattle.agent_model.specs.Partition.{Holdings, no_holdings}
use Rattle.web_storage.specs.Stored as storage
use Rattle.web_cookies.specs.Stored as cookies
use Rattle.durable_model.specs.Saved.{Saved}
use Rattle.row_store.specs.declared.parts.Parts.{Parts}

-- the durable state of local areas and modes, of cookies and of permissions
abbrev pub saved_in : storage.Entries → cookies.Entries → PlainGrants → Saved
saved_in areas cells grants =
    record {
      under = record {
        areas = (storage.held_with no_holdings areas).areas;
        persistent = (storage.held_with no_holdings areas).persistent;
        cookies = cookies.partitioned_in cells;
        grants = grants.rows;
      };
      cells = cookies.shared_in cells;
    }

-- the durable state of parts
abbrev pub saved_of : Parts → Saved
saved_of parts = saved_in parts.storage parts.cookies parts.grants

-- no tab has a session area
abbrev pub HasNoSession : storage.Entries → Type 0
HasNoSession areas =
    (beside : Holdings) → (storage.held_with beside areas).sessions ≡ finite.empty

-- what contracts see of rows: the parts
pub record PlainRows : Type 0 where
  pub parts : Parts
