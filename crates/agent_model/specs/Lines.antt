-- How a line of a script becomes events of sites, or is refused.
-- Source: HTML, "Navigables" (a tab that a page opens has that page's as its opener).
-- Our own choice: a script names its tabs by numbers. A tab is at the site of its top document, and
-- every line in it is an event of that site. A refused line is of no site.
use Rattle.std.specs.Prelude.{ℕ, Bool, true, List, Option, Some, None, option_map}
use Rattle.std.specs.Prelude.{if◌then◌else◌}
use Rattle.std.specs.Ordering.{nat_cmp}
use Rattle.std.specs.FinMap as map
use Rattle.unwinding.specs.Machine.{World, Occurrence}
use Rattle.suffix_list.specs.Suffix.{Rule}
use Rattle.origin_site.specs.Address.{PlainAddress}
use Rattle.origin_site.specs.Site.{PlainSite, site_of_address, same_plain_site}
use Rattle.script_actions.specs.declared.words.Method.{Method}
use Rattle.script_actions.specs.Action.{HeadField, PlainAction, Tick, Open, Close, Go, Evict, Act}
use Rattle.agent_model.specs.Partition.{Partition}
use Rattle.agent_model.specs.Effects.{SharedCells}
use Rattle.agent_model.specs.SiteEvent.{SiteEvent, Acts, Arrives, Closes, Evicts, Opens, Goes}
use Rattle.agent_model.specs.SiteEvent.{TimedEvent}

-- the site that each open tab is at
abbrev pub Places : Type 0
Places = map.FinMap nat_cmp PlainSite

-- no tab is open
unfoldable pub no_places : Places
no_places = map.empty

-- the site that a tab is at, where the tab is open
abbrev pub site_at : ℕ → Places → Option PlainSite
site_at tab places = map.get places tab

-- the places with this site at a tab
abbrev pub placed : ℕ → PlainSite → Places → Places
placed tab site places = map.insert places tab site

-- the clock, in seconds since 1970, and where each open tab is
pub record Rest : Type 0 where
  pub now : ℕ
  pub places : Places

-- the world of all sites
abbrev pub AgentWorld : Type 0
AgentWorld = World PlainSite SharedCells Partition Rest

-- an event, and the site at which it occurs
abbrev pub SiteOccurrence : Type 0
SiteOccurrence = Occurrence PlainSite TimedEvent

-- an event at the moment of the clock
abbrev pub timed : AgentWorld → SiteEvent → TimedEvent
timed world event = record { moment = world.rest.now; event = event }

-- an event of a site, at the moment of the clock
abbrev pub occurs : AgentWorld → SiteEvent → PlainSite → SiteOccurrence
occurs world event site = record { site = site; event = timed world event }

-- ---- loads of top documents

-- who starts a load: the user, or a page, which is of a site
pub data Starter : Type 0 where
  User : Starter
  Page : PlainSite → Starter

-- a load is same-site where the user starts it, or a page of the site that is reached
abbrev pub is_same_site : Starter → PlainSite → Bool
is_same_site User target = true
is_same_site (Page site) target = same_plain_site site target

-- who starts an `open`: the top document of the opener, which has to be open, or the user
abbrev pub opener_of : Option ℕ → Places → Option Starter
opener_of None places = Some User
opener_of (Some opener) places = option_map Page (site_at opener places)

-- who starts a `go` in a tab at this site
abbrev pub goer_of : Bool → PlainSite → Starter
goer_of by_page here = if by_page then Page here else User

-- an opened tab reaches its site, where its opener is open and its number is free
abbrev pub opening : List Rule → AgentWorld → ℕ → PlainAddress → Method → List HeadField
    → Option Starter → Option PlainSite → Option SiteOccurrence
opening rules world tab url method head None here = None
opening rules world tab url method head (Some starter) None =
    let target = site_of_address rules url in
    let same_site = is_same_site starter target in
    Some (occurs world (Arrives Opens tab url method same_site head) target)
opening rules world tab url method head (Some starter) (Some here) = None

-- a tab that is open reaches another address
abbrev pub going : List Rule → AgentWorld → ℕ → PlainAddress → Bool → Method → List HeadField
    → Option PlainSite → Option SiteOccurrence
going rules world tab url by_page method head None = None
going rules world tab url by_page method head (Some here) =
    let target = site_of_address rules url in
    let same_site = is_same_site (goer_of by_page here) target in
    Some (occurs world (Arrives Goes tab url method same_site head) target)

-- ---- the main event

-- the event of a line that gets a reply. A line other than a load of a top document and an eviction
-- is an event of the site that its tab is at.
unfoldable pub main_event : List Rule → AgentWorld → PlainAction → Option SiteOccurrence
main_event rules world action = of action
  where
    here : ℕ → Option PlainSite
    here tab = site_at tab world.rest.places

    of : PlainAction → Option SiteOccurrence
    of (Tick s) = None
    of (Open tab url opener noopener method head) =
        opening rules world tab url method head (opener_of opener world.rest.places) (here tab)
    of (Go tab url by_page method head) =
        going rules world tab url by_page method head (here tab)
    of (Close tab) = option_map (occurs world (Closes tab)) (here tab)
    of (Evict site) = Some (occurs world Evicts site)
    of (Act at action) = option_map (occurs world (Acts at action)) (here at.tab)
