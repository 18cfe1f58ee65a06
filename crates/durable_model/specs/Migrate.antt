-- What of a durable state stays under another suffix list.
-- Source: HTML, "Sites": which sites and domains there are follows from the list, and so a storage
-- key, a cell of cookies or a permission that was written under one list may be none under another.
-- Our own choice: what is none goes, whole: an area with its bucket's mode, a cell with each of its
-- cookies, a permission. What stays is as it was and in its order. Nothing is moved to another key.
use Rattle.std.specs.Prelude.{◌≡◌, Bool, true, ◌&&◌, List, [], filter, if◌then◌else◌}
use Rattle.std.specs.List.{list_all}
use Rattle.std.specs.FinMap as finite
use Rattle.suffix_list.specs.Suffix.{Rule}
use Rattle.storage_key.specs.Key.{PlainKey}
use Rattle.storage_key.specs.Stays.{key_stays}
use Rattle.cookie_jar.specs.Key.{PlainKey as PlainCell, OwnCell, PartitionCell}
use Rattle.cookie_jar.specs.Stays.{cell_stays}
use Rattle.access_grants.specs.Stays.{grant_stays}
use Rattle.agent_model.specs.CookieCells.{Domain}
use Rattle.agent_model.specs.PartitionedCells.{PartitionedKey}
use Rattle.durable_model.specs.Saved.{IsValid, Saved, cookies_at, nothing_saved, pairs_at}

-- a cell stays with what the state has in it
abbrev pub stays_at : List Rule → Saved → PlainCell → Bool
stays_at rules d cell = cell_stays rules cell (cookies_at cell d)

-- the same of a partitioned cell, and of an unpartitioned one
abbrev pub partition_stays : List Rule → Saved → PartitionedKey → Bool
partition_stays rules d key = stays_at rules d (PartitionCell key.top key.bit key.domain)

abbrev pub own_stays : List Rule → Saved → Domain → Bool
own_stays rules d domain = stays_at rules d (OwnCell domain)

-- what stays of a state under a list of rules
abbrev pub migrate : List Rule → Saved → Saved
migrate rules d =
    record {
      under = record {
        areas = finite.retain_keys d.under.areas (key_stays rules);
        persistent = finite.retain_keys d.under.persistent (key_stays rules);
        cookies = finite.retain_keys d.under.cookies (partition_stays rules d);
        grants = filter (grant_stays rules) d.under.grants;
      };
      cells = finite.retain_keys d.cells (own_stays rules d);
    }

-- all of a state stays under a list of rules
abbrev pub stays_whole : List Rule → Saved → Bool
stays_whole rules d =
    list_all (key_stays rules) (finite.keys d.under.areas)
    && (list_all (key_stays rules) (finite.keys d.under.persistent)
    && (list_all (partition_stays rules d) (finite.keys d.under.cookies)
    && (list_all (grant_stays rules) d.under.grants
    && list_all (own_stays rules d) (finite.keys d.cells))))

-- a state is one under a list of rules: all of it stays
abbrev pub IsUnder : List Rule → Saved → Type 0
IsUnder rules d = migrate rules d ≡ d

-- The laws of it: seen at each key and cell; all stays exactly where nothing changes; once is
-- enough; a state that is valid stays so; and of nothing all stays.
pub record StatesMigrate (rules : List Rule) (d : Saved) : Type 0 where
  pub pairs : (key : PlainKey)
      → pairs_at key (migrate rules d) ≡ (if key_stays rules key then pairs_at key d else [])
  pub modes : (key : PlainKey)
      → finite.contains_key (migrate rules d).under.persistent key
      ≡ (finite.contains_key d.under.persistent key && key_stays rules key)
  pub cookies : (cell : PlainCell)
      → cookies_at cell (migrate rules d)
      ≡ (if stays_at rules d cell then cookies_at cell d else [])
  pub whole : stays_whole rules d ≡ true → IsUnder rules d
  pub only : IsUnder rules d → stays_whole rules d ≡ true
  pub once : IsUnder rules (migrate rules d)
  pub valid : IsValid d → IsValid (migrate rules d)
  pub nothing : stays_whole rules nothing_saved ≡ true
