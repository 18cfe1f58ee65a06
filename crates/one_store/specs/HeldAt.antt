-- What one site has of what is held for all sites.
-- Source: Storage Standard, "Storage keys", where an area and a bucket belong to a storage key;
-- HTML, "Navigables", where a document belongs to the tab that shows it.
-- Our own choice: a key's top-level site says which site an area, a bucket's mode and a session
-- area are of. A tab is of the site that it is at, which is told from outside.
use Rattle.std.specs.Prelude.{◌≡◌, ℕ, Bool, true, Some}
use Rattle.std.specs.FinMap as finite
use Rattle.origin_site.specs.Site.{PlainSite}
use Rattle.storage_key.specs.Key.{PlainKey}
use Rattle.access_grants.specs.UnderSite.{grants_under}
use Rattle.live_state.specs.Tabs.{PlainTab}
use Rattle.frame_tree.specs.Keys.{key_of_frame}
use Rattle.agent_model.specs.Partition.{Holdings, is_cell_under, is_under, tab_named}
use Rattle.agent_model.specs.Effects.{Done}

-- what one site has of what is held for all: the tabs that are at it, the storage whose key has it,
-- and the permissions under it, in their order. `here` is whether the tab of a number is at the
-- site.
abbrev pub held_at : PlainSite → (here : ℕ → Bool) → Holdings → Holdings
held_at site here held =
    record {
      tabs = finite.retain_keys held.tabs here;
      areas = finite.retain_keys held.areas (is_under site);
      persistent = finite.retain_keys held.persistent (is_under site);
      sessions = finite.retain_keys held.sessions (λ key. is_under site key.1);
      cookies = finite.retain_keys held.cookies (is_cell_under site);
      grants = grants_under site held.grants;
    }

-- what an action did at a site, from what it did for all: what is held is the site's. The shared
-- cells, the changes of durable state and the answer are the same.
abbrev pub done_at : PlainSite → (here : ℕ → Bool) → Done → Done
done_at site here done = record done { held = held_at site here done.held }

-- each document of the tabs at a site has a storage key of that site, or none
pub record IsKeyed (site : PlainSite) (here : ℕ → Bool) (held : Holdings) : Type 0 where
  pub under : (number : ℕ) (tab : PlainTab) (frame : ℕ) (key : PlainKey) → here number ≡ true
      → tab_named number held ≡ Some tab → key_of_frame frame tab.frames ≡ Some key
      → is_under site key ≡ true
