-- The events of a line, as they are read off the open tabs.
-- Source: that of each event stands in `agent_model`.
-- Our own choice: whether a site has session areas of a tab that is closed is told by the caller.
use Rattle.std.specs.Prelude.{◌≡◌, ℕ, Bool, List, [], ◌∷◌, map, Option, Some, None, option_and_then}
use Rattle.std.specs.Prelude.{option_map, option_to_list, string_bytes, if◌then◌else◌}
use Rattle.suffix_list.specs.Suffix.{Rule}
use Rattle.origin_site.specs.Address.{PlainAddress}
use Rattle.origin_site.specs.Site.{PlainSite, site_of_address}
use Rattle.origin_site.specs.Plain.{plain_site}
use Rattle.storage_key.specs.Context.{is_of}
use Rattle.frame_tree.specs.Tree.{top_site}
use Rattle.live_state.specs.Tabs.{PlainTab, tab_at}
use Rattle.script_actions.specs.Action.{PlainAction, Tick, Open, Close, Go, Evict, Act}
use Rattle.agent_model.specs.Consults.{event_names}
use Rattle.agent_model.specs.CookieCells.{Domain}
use Rattle.agent_model.specs.Lines.{AgentWorld, Page, Starter, User, is_same_site, main_event, occurs}
use Rattle.agent_model.specs.Lines.{site_at, timed}
use Rattle.agent_model.specs.Partition.{Partition, tab_named}
use Rattle.agent_model.specs.Sessions.{has_session}
use Rattle.agent_model.specs.SideEvents as model
use Rattle.agent_model.specs.SiteEvent.{SiteEvent, Acts, Arrives, Closes, Evicts, Opens, Goes}
use Rattle.agent_model.specs.SiteEvent.{TimedEvent}
use Rattle.local_scripts.specs.Items.{event_of}
use Rattle.local_scripts.specs.declared.site_event.SiteEvent.{SiteEvent as GivenEvent}
use Rattle.local_scripts.specs.declared.main_events.MainEvent.{MainEvent}

-- the site of the top document of a tab, where it is open
abbrev pub place_in : List PlainTab → ℕ → Option PlainSite
place_in tabs number = option_and_then (λ tab. top_site tab.frames) (tab_at number tabs)

-- a partition has the open tabs that are at its site
abbrev pub HasTabs : List PlainTab → Partition → Type 0
HasTabs tabs own =
    (number : ℕ) → tab_named number own.held
    ≡ (if is_of own.site (place_in tabs number) then tab_at number tabs else None)

-- these tabs are those of a world: each is at the site of its top document, and in its partition
pub record ShowsTabs (tabs : List PlainTab) (world : AgentWorld) : Type 0 where
  pub places : (number : ℕ) → site_at number world.rest.places ≡ place_in tabs number
  pub sites : (site : PlainSite) → (world.partition site).site ≡ site
  pub partitions : (site : PlainSite) → HasTabs tabs (world.partition site)

-- ---- the main event

-- who starts a load: the page of this tab, which has to be open, or the user
abbrev pub starter_in : List PlainTab → Option ℕ → Option Starter
starter_in tabs None = Some User
starter_in tabs (Some number) = option_map Page (place_in tabs number)

-- the tab whose page starts a load, if a page does
abbrev pub page_of : ℕ → Bool → Option ℕ
page_of tab by_page = if by_page then Some tab else None

-- the domain whose cookies a main event consults, as a list
abbrev pub cells_of : MainEvent → List Domain
cells_of found = map string_bytes (option_to_list found.domain)

-- the event of a line that is not refused, where its load is same-site or is not
abbrev pub event_by : PlainAction → Bool → SiteEvent
event_by (Tick s) same_site = Evicts
event_by (Open tab url opener noopener method head) same_site =
    Arrives Opens tab url method same_site head
event_by (Close tab) same_site = Closes tab
event_by (Go tab url by_page method head) same_site = Arrives Goes tab url method same_site head
event_by (Evict site) same_site = Evicts
event_by (Act at action) same_site = Acts at action

-- the main event of a line is at this site, and consults the cookies of this domain alone
pub record IsMainEvent (rules : List Rule) (tabs : List PlainTab) (action : PlainAction)
    (found : MainEvent) : Type 0 where
  pub event : (world : AgentWorld) → ShowsTabs tabs world → main_event rules world action
      ≡ Some (occurs world (event_by action found.same_site) (plain_site found.site))
  pub cells : (own : Partition) → own.site ≡ plain_site found.site → HasTabs tabs own
      → event_names rules own (event_by action found.same_site) ≡ cells_of found

-- a line has this main event, or none
abbrev pub IsMain : List Rule → List PlainTab → PlainAction → Option MainEvent → Type 0
IsMain rules tabs action None =
    (world : AgentWorld) → ShowsTabs tabs world → main_event rules world action ≡ None
IsMain rules tabs action (Some found) = IsMainEvent rules tabs action found

-- the event of a load of this address, which this tab's page starts or the user
pub record IsArrival (rules : List Rule) (tabs : List PlainTab) (url : PlainAddress)
    (starter : Option ℕ) (found : MainEvent) : Type 0 where
  pub site : plain_site found.site ≡ site_of_address rules url
  pub same_site : (who : Starter) → starter_in tabs starter ≡ Some who
      → found.same_site ≡ is_same_site who (site_of_address rules url)
  pub cells : cells_of found ≡ (site_of_address rules url).host ∷ []

-- ---- the event beside it

-- whether a site has session areas of the tab that a line closes
abbrev pub HasAreas : PlainAction → PlainSite → AgentWorld → Bool → Type 0
HasAreas (Tick s) site world areas = Unit {0}
HasAreas (Open tab url opener noopener method head) site world areas = Unit {0}
HasAreas (Close tab) site world areas = has_session tab (world.partition site).held ≡ areas
HasAreas (Go tab url by_page method head) site world areas = Unit {0}
HasAreas (Evict named) site world areas = Unit {0}
HasAreas (Act at acted) site world areas = Unit {0}

-- an event at a site beside the main one, or none, in this world
abbrev pub IsTold : AgentWorld → Option TimedEvent → Option GivenEvent → Type 0
IsTold world event found = event ≡ option_map (timed world) (option_map event_of found)

-- a line has this event at a site beside the main one, or none
abbrev pub IsSide : List Rule → List PlainTab → PlainAction → PlainSite → Bool
    → Option GivenEvent → Type 0
IsSide rules tabs action site areas found =
    (world : AgentWorld) → ShowsTabs tabs world → HasAreas action site world areas
    → IsTold world (model.side_event rules world action site) found
