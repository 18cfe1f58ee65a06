-- What is held for all sites, as contracts see it: the open tabs, the storage, the cookies and the
-- permissions of storage access.
-- Source: none; the agent keeps one of each.
use Rattle.std.specs.Prelude.{ℕ, List}
use Rattle.suffix_list.specs.Suffix.{Rule}
use Rattle.access_grants.specs.Grant.{PlainGrant}
use Rattle.live_state.specs.Tabs.{PlainLive}
use Rattle.web_storage.specs.Stored.{Entries, held_with}
use Rattle.web_cookies.specs.Stored.{Entries as CookieEntries, shared_in}
use Rattle.agent_model.specs.Partition.{Holdings}
use Rattle.agent_model.specs.Effects.{SharedCells}
use Rattle.agent_memory.specs.AgentState.{AgentState, beside_storage}

-- the open tabs, the entries of the storage, those of the cookies, and the permissions
pub record HoldingsView : Type 0 where
  pub live : PlainLive
  pub storage : Entries
  pub cookies : CookieEntries
  pub grants : List PlainGrant

-- what is held for all sites
abbrev pub held_of : HoldingsView → Holdings
held_of parts =
    held_with (beside_storage parts.live.tabs parts.cookies parts.grants) parts.storage

-- the cells that sites share
abbrev pub cells_of : HoldingsView → SharedCells
cells_of parts = shared_in parts.cookies

-- the state of an agent, by the rules of its list, its clock and what it holds
abbrev pub state_of : List Rule → ℕ → HoldingsView → AgentState
state_of rules now parts = record {
  rules = rules;
  now = now;
  tabs = parts.live.tabs;
  entries = parts.storage;
  cookies = parts.cookies;
  grants = parts.grants;
}
