-- The state of the agent, as contracts see it, and the world that it stands for.
-- Source: none; the agent keeps one list of tabs, one storage, one set of cookies and one list of
-- permissions for all sites, and the world has a partition for each site.
use Rattle.std.specs.Prelude.{◌≡◌, ◌≤◌, ℕ, false, List, [], ◌∷◌, map, Option, Some, None}
use Rattle.std.specs.FinMap as finite
use Rattle.suffix_list.specs.Suffix.{Rule}
use Rattle.origin_site.specs.Site.{PlainSite}
use Rattle.access_grants.specs.Grant.{PlainGrant}
use Rattle.frame_tree.specs.Tree.{top_site}
use Rattle.live_state.specs.Tabs.{PlainTab}
use Rattle.web_storage.specs.Stored.{Entries, held_with}
use Rattle.web_cookies.specs.Stored.{Entries as CookieEntries, partitioned_in, shared_in}
use Rattle.agent_model.specs.Partition.{Tabs, Holdings, no_holdings, tab_named}
use Rattle.agent_model.specs.Effects.{SharedCells}
use Rattle.agent_model.specs.Lines.{Places, AgentWorld, no_places, placed}
use Rattle.agent_base.specs.Seconds.{last_moment}
use Rattle.agent_model.specs.Sessions.{has_session}
use Rattle.one_store.specs.WholeWorld.{IsPlaced, whole_world}

-- the agent: the rules of its list, the clock, the open tabs in the order of their numbers, the
-- entries of its storage, those of its cookies, and the permissions of storage access
pub record AgentState : Type 0 where
  pub rules : List Rule
  pub now : ℕ
  pub tabs : List PlainTab
  pub entries : Entries
  pub cookies : CookieEntries
  pub grants : List PlainGrant

-- the open tabs by their numbers
abbrev pub tabs_in : List PlainTab → Tabs
tabs_in tabs = finite.from_entries (map (λ tab. (tab.number, tab)) tabs)

-- a tab whose top document is at this site, or at none
abbrev pub placed_by : ℕ → Option PlainSite → Places → Places
placed_by tab None places = finite.remove places tab
placed_by tab (Some site) places = placed tab site places

-- where each open tab is: at the site of its top document
abbrev pub places_in : List PlainTab → Places
places_in [] = no_places
places_in (tab ∷ tabs) = placed_by tab.number (top_site tab.frames) (places_in tabs)

-- what is held beside the storage: the open tabs, the partitioned cells of cookies, and the
-- permissions
abbrev pub beside_storage : List PlainTab → CookieEntries → List PlainGrant → Holdings
beside_storage tabs cookies grants =
    record no_holdings {
      tabs = tabs_in tabs;
      cookies = partitioned_in cookies;
      grants = grants;
    }

-- what the agent holds for all sites
abbrev pub held_in : AgentState → Holdings
held_in state = held_with (beside_storage state.tabs state.cookies state.grants) state.entries

-- the cells that sites share
abbrev pub cells_in : AgentState → SharedCells
cells_in state = shared_in state.cookies

-- session areas belong to open tabs
abbrev pub AreOwned : Holdings → Type 0
AreOwned held = (tab : ℕ) → tab_named tab held ≡ None → has_session tab held ≡ false

-- what each agent keeps: its clock is in time, each tab is at the site of its top document, and
-- session areas belong to open tabs
pub record IsStanding (state : AgentState) : Type 0 where
  pub in_time : state.now ≤ last_moment
  pub placed_all : IsPlaced (places_in state.tabs) (held_in state)
  pub owned : AreOwned (held_in state)

-- the world that the agent stands for
unfoldable pub world_of : AgentState → AgentWorld
world_of state =
    whole_world state.now (places_in state.tabs) (cells_in state) (held_in state)
