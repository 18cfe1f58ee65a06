-- The event of each kind of line beside the main one.
-- Source: that of each event stands in `agent_model`.
use Rattle.std.specs.Prelude.{◌≡◌, ℕ, Bool, true, false, List, Option}
use Rattle.suffix_list.specs.Suffix.{Rule}
use Rattle.origin_site.specs.Address.{PlainAddress}
use Rattle.origin_site.specs.Site.{PlainSite, site_of_address}
use Rattle.live_state.specs.Tabs.{PlainTab}
use Rattle.script_actions.specs.Action.{PlainAction, Tick, Open, Close, Go, Evict, Act}
use Rattle.agent_model.specs.Lines.{AgentWorld, site_at}
use Rattle.agent_model.specs.Sessions.{has_session}
use Rattle.agent_model.specs.SideEvents.{closes, copies, leaves}
use Rattle.local_scripts.specs.declared.site_event.SiteEvent.{SiteEvent}
use Rattle.local_scripts.specs.Events.{IsTold, ShowsTabs}

-- a line may have an event beside the main one
abbrev pub has_side : PlainAction → Bool
has_side (Tick s) = false
has_side (Open tab url opener noopener method head) = true
has_side (Close tab) = true
has_side (Go tab url by_page method head) = true
has_side (Evict site) = false
has_side (Act at action) = false

-- of a tab that is opened
abbrev pub CopiesSide : List PlainTab → ℕ → Option ℕ → Bool → PlainSite → Option SiteEvent → Type 0
CopiesSide tabs tab opener noopener site found =
    (world : AgentWorld) → ShowsTabs tabs world
    → IsTold world (copies world tab opener noopener (site_at tab world.rest.places) site) found

-- of a tab that goes to an address
abbrev pub LeavesSide : List Rule → List PlainTab → ℕ → PlainAddress → PlainSite → Option SiteEvent
    → Type 0
LeavesSide rules tabs tab url site found =
    (world : AgentWorld) → ShowsTabs tabs world
    → IsTold world
    (leaves world tab (site_at tab world.rest.places) (site_of_address rules url) site) found

-- of a tab that is closed
abbrev pub ClosesSide : List PlainTab → ℕ → PlainSite → (areas : Bool) → Option SiteEvent → Type 0
ClosesSide tabs tab site areas found =
    (world : AgentWorld) → ShowsTabs tabs world
    → has_session tab (world.partition site).held ≡ areas
    → IsTold world (closes world tab (site_at tab world.rest.places) site) found
