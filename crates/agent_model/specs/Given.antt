-- What a line gives a site: the events, said over the line, the site's own partition, the places of
-- tabs and the clock; and with each event the cookies that it consults and the site may not know.
-- Source: none; these are the words of the promise.
-- Our own choice: a line gives a site an event where its tab is at the site, where it reaches the
-- site, leaves it, copies session areas there, closes a tab that has some there, or evicts it.
use Rattle.std.specs.Prelude.{ℕ, Bool, true, not, ◌&&◌, ◌||◌, List, [], ◌∷◌, ◌++◌, filter, map}
use Rattle.std.specs.Prelude.{bytes_eq, Option, Some, None, is_some, if◌then◌else◌}
use Rattle.std.specs.List.{list_any}
use Rattle.unwinding.specs.FiniteCells.{get_cell}
use Rattle.unwinding.specs.LocalEntries.{Entry}
use Rattle.suffix_list.specs.Suffix.{Rule}
use Rattle.origin_site.specs.Address.{PlainAddress}
use Rattle.origin_site.specs.Site.{PlainSite, same_plain_site, site_of_address}
use Rattle.storage_key.specs.Context.{is_of}
use Rattle.script_actions.specs.declared.words.Method.{Method}
use Rattle.script_actions.specs.Action.{HeadField, PlainAction, Tick, Open, Close, Go, Evict, Act}
use Rattle.agent_model.specs.CookieCells.{Domain, Cookies, domain_order, is_home}
use Rattle.agent_model.specs.Partition.{Partition, tab_named}
use Rattle.agent_model.specs.Effects.{SharedCells}
use Rattle.agent_model.specs.SiteEvent.{SiteEvent, Acts, Arrives, Leaves, Copies, Closes, Evicts}
use Rattle.agent_model.specs.SiteEvent.{TopLoad, Opens, Goes, TimedEvent}
use Rattle.agent_model.specs.Consults.{event_names}
use Rattle.agent_model.specs.Sessions.{has_session}
use Rattle.agent_model.specs.Lines.{Places, Rest, site_at}

-- ---- events

-- an event of this moment, where something is so
abbrev pub given : Bool → ℕ → SiteEvent → List TimedEvent
given so now event = if so then record { moment = now; event = event } ∷ [] else []

-- what a tab that reaches an address gives a site
abbrev pub given_reaching : List Rule → PlainSite → ℕ → TopLoad → ℕ → PlainAddress → Method → Bool
    → List HeadField → List TimedEvent
given_reaching rules site now load tab url method same_site head =
    given (same_plain_site site (site_of_address rules url)) now
    (Arrives load tab url method same_site head)

-- What a tab that is opened, by the user or by a page at a site, gives a site. An opener that is
-- not open opens nothing.
abbrev pub given_opening : List Rule → PlainSite → ℕ → ℕ → PlainAddress → (opener : Option ℕ)
    → (noopener : Bool) → Method → List HeadField → (from : Option PlainSite) → List TimedEvent
given_opening rules site now tab url None noopener method head from =
    given_reaching rules site now Opens tab url method true head
given_opening rules site now tab url (Some opener) noopener method head None = []
given_opening rules site now tab url (Some opener) noopener method head (Some from) =
    given (not noopener && same_plain_site site from) now (Copies opener tab)
    ++ given_reaching rules site now Opens tab url method
    (same_plain_site from (site_of_address rules url)) head

-- a tab that is open already is not opened
abbrev pub where_free : Option PlainSite → List TimedEvent → List TimedEvent
where_free None events = events
where_free (Some here) events = []

-- what a tab that goes to an address gives a site. A tab that is not open goes nowhere.
abbrev pub given_going : List Rule → PlainSite → ℕ → ℕ → PlainAddress → (by_page : Bool) → Method
    → List HeadField → (here : Option PlainSite) → List TimedEvent
given_going rules site now tab url by_page method head None = []
given_going rules site now tab url by_page method head (Some here) =
    let target = site_of_address rules url in
    given (same_plain_site site here && not (same_plain_site site target)) now (Leaves tab)
    ++ given_reaching rules site now Goes tab url method
    (not by_page || same_plain_site here target) head

-- What a tab that is closed gives a site: that its session areas go, where the site has some and
-- its partition has no such tab, and that it is closed, where the tab is at the site.
abbrev pub given_closing : PlainSite → Partition → ℕ → ℕ → (here : Option PlainSite)
    → List TimedEvent
given_closing site own now tab None = []
given_closing site own now tab (Some here) =
    given (not (is_some (tab_named tab own.held)) && has_session tab own.held) now (Closes tab)
    ++ given (same_plain_site site here) now (Closes tab)

-- the place of an opener, where there is one
abbrev pub opener_place : Option ℕ → Places → Option PlainSite
opener_place None places = None
opener_place (Some opener) places = site_at opener places

-- the events that a line gives a site
unfoldable pub events_given : List Rule → PlainSite → Partition → Rest → PlainAction
    → List TimedEvent
events_given rules site own rest (Tick s) = []
events_given rules site own rest (Open tab url opener noopener method head) =
    let from = opener_place opener rest.places in
    where_free (site_at tab rest.places)
    (given_opening rules site rest.now tab url opener noopener method head from)
events_given rules site own rest (Go tab url by_page method head) =
    given_going rules site rest.now tab url by_page method head (site_at tab rest.places)
events_given rules site own rest (Close tab) =
    given_closing site own rest.now tab (site_at tab rest.places)
events_given rules site own rest (Evict named) =
    given (same_plain_site site named) rest.now Evicts
events_given rules site own rest (Act at action) =
    given (is_of site (site_at at.tab rest.places)) rest.now (Acts at action)

-- ---- entries

-- an entry of a local script
abbrev pub SiteEntry : Type 0
SiteEntry = Entry Domain Cookies TimedEvent

-- a site may not know the cookies of a domain: they are not home to it, or events of other sites
-- have left them different
abbrev pub is_unknown : PlainSite → (touched : List Domain) → Domain → Bool
is_unknown site touched domain = not (is_home site domain) || list_any (bytes_eq domain) touched

-- an event with the cookies that it consults and the site may not know
abbrev pub entry_given : List Rule → PlainSite → Partition → (touched : List Domain) → SharedCells
    → TimedEvent → SiteEntry
entry_given rules site own touched cells timed =
    record {
      event = timed;
      held =
          map (λ domain. record { cell = domain; content = get_cell domain_order cells domain })
          (filter (is_unknown site touched) (event_names rules own timed.event));
    }

-- the entries that a line gives a site, where these are the shared cells before it and others have
-- left these domains different
abbrev pub entries_given : List Rule → PlainSite → Partition → Rest → (touched : List Domain)
    → SharedCells → PlainAction → List SiteEntry
entries_given rules site own rest touched cells line =
    map (entry_given rules site own touched cells) (events_given rules site own rest line)
