-- The events of a line beside the main one: at a site that a tab leaves, where session areas are
-- copied, and at each site that has session areas of a tab that is closed. They get no reply.
-- Source: HTML, "Navigables"; Storage Standard, "Storage sheds" (the copy for a tab that a page
-- opens).
-- Our own choice: a closed tab's session areas go at every site at once.
use Rattle.std.specs.Prelude.{ℕ, Bool, false, not, ◌&&◌, List, Option, Some, None, is_some}
use Rattle.std.specs.Prelude.{if◌then◌else◌}
use Rattle.suffix_list.specs.Suffix.{Rule}
use Rattle.origin_site.specs.Site.{PlainSite, site_of_address, same_plain_site}
use Rattle.storage_key.specs.Context.{is_of}
use Rattle.script_actions.specs.Action.{PlainAction, Tick, Open, Close, Go, Evict, Act}
use Rattle.agent_model.specs.Partition.{tab_named}
use Rattle.agent_model.specs.SiteEvent.{Leaves, Copies, Closes, TimedEvent}
use Rattle.agent_model.specs.Sessions.{has_session}
use Rattle.agent_model.specs.Lines.{AgentWorld, site_at, timed}

-- an event, where it occurs
abbrev pub where_so : Bool → TimedEvent → Option TimedEvent
where_so so event = if so then Some event else None

-- a tab that a page opens gets copies of the session areas that its opener has under the opener's
-- site, unless the page wants none of it. A number that is taken opens nothing.
abbrev pub copies : AgentWorld → (tab : ℕ) (opener : Option ℕ) (noopener : Bool)
    → (taken : Option PlainSite) → PlainSite → Option TimedEvent
copies world tab None noopener taken site = None
copies world tab (Some opener) noopener taken site =
    let is_opened = not (is_some taken) in
    let is_wanted = not noopener in
    where_so (is_opened && (is_wanted && is_of site (site_at opener world.rest.places)))
    (timed world (Copies opener tab))

-- a tab that goes to another site leaves the one that it is at
abbrev pub leaves : AgentWorld → ℕ → Option PlainSite → PlainSite → PlainSite → Option TimedEvent
leaves world tab here target site =
    where_so (if is_of site here then not (same_plain_site site target) else false)
    (timed world (Leaves tab))

-- a tab that is closed has session areas under a site that it is not at. At its own site the
-- closing is the main event, and a site without such an area has none.
abbrev pub closes : AgentWorld → ℕ → Option PlainSite → PlainSite → Option TimedEvent
closes world tab None site = None
closes world tab (Some here) site =
    let held = (world.partition site).held in
    where_so (if is_some (tab_named tab held) then false else has_session tab held)
    (timed world (Closes tab))

-- the event of a line at a site, beside the main one
unfoldable pub side_event : List Rule → AgentWorld → PlainAction → PlainSite → Option TimedEvent
side_event rules world action site = of action
  where
    here : ℕ → Option PlainSite
    here tab = site_at tab world.rest.places

    of : PlainAction → Option TimedEvent
    of (Open tab url opener noopener method head) = copies world tab opener noopener (here tab) site
    of (Go tab url by_page method head) =
        leaves world tab (here tab) (site_of_address rules url) site
    of (Close tab) = closes world tab (here tab) site
    of (Tick s) = None
    of (Evict named) = None
    of (Act at acted) = None
