-- Whether a tab has session areas under a site.
-- Source: Storage Standard, "Storage sheds": each traversable navigable holds a storage shed.
-- Our own choice: an area that is empty is none.
use Rattle.std.specs.Prelude.{ℕ, ◌==◌, ◌&&◌, Bool, not, List, length}
use Rattle.std.specs.List.{list_any}
use Rattle.std.specs.FinMap as finite
use Rattle.origin_site.specs.Site.{PlainSite}
use Rattle.storage_key.specs.Plain.{plain_key}
use Rattle.storage_key.specs.declared.key.StorageKey.{StorageKey}
use Rattle.local_area.specs.Area.{Pair}
use Rattle.agent_model.specs.Partition.{SessionAreas, is_under}
use Rattle.agent_model.specs.Sessions.{is_copied}

-- a tab has a session area under a site: one that a copy of them would take
abbrev pub has_session_under : PlainSite → ℕ → SessionAreas → Bool
has_session_under site tab sessions = list_any (is_copied site tab) (finite.keys sessions)

-- an area of a tab is under a site, and is not empty. Only a private function sees it.
abbrev pub has_pairs_under : PlainSite → StorageKey × List Pair → Bool
has_pairs_under site entry = not (length entry.1 == 0) && is_under site (plain_key entry.0)
