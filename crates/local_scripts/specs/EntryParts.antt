-- What private functions make.
-- Source: none; the entries are those of the general local script.
use Rattle.std.specs.Prelude.{◌≡◌, ℕ, Bool, false, not, ◌&&◌, List, [], map, bytes_eq}
use Rattle.std.specs.Prelude.{Option, Some, None, option_to_list}
use Rattle.unwinding.specs.LocalEntries.{held_cells, is_held, main_entries}
use Rattle.unwinding.specs.World.{after_sides, is_in}
use Rattle.suffix_list.specs.Suffix.{Rule}
use Rattle.origin_site.specs.Plain.{plain_site}
use Rattle.origin_site.specs.Site.{PlainSite, same_plain_site}
use Rattle.script_actions.specs.Action.{PlainAction}
use Rattle.agent_model.specs.CookieCells.{Domain}
use Rattle.agent_model.specs.Lines.{AgentWorld, main_event}
use Rattle.agent_model.specs.TheMachine.{machine}
use Rattle.web_cookies.specs.Stored.{Entries, shared_in}
use Rattle.local_scripts.specs.Items.{AgentEntry, entry_of, event_of, held_of}
use Rattle.local_scripts.specs.declared.site_event.SiteEvent.{SiteEvent}
use Rattle.local_scripts.specs.declared.entry.Entry.{Entry}
use Rattle.local_scripts.specs.declared.entry.HeldJar.{HeldJar}
use Rattle.local_scripts.specs.Events.{cells_of}
use Rattle.local_scripts.specs.declared.main_events.MainEvent.{MainEvent}
use Rattle.local_scripts.specs.Present.{PlainPresent, StandsForWorld}
use Rattle.local_scripts.specs.Seen.{IsTouched}

-- ---- the main event

-- it consults the unpartitioned cookies of this domain
abbrev pub consults : MainEvent → Domain → Bool
consults found domain = is_in bytes_eq domain (cells_of found)

-- it is of the site
abbrev pub is_own : PlainSite → Option MainEvent → Bool
is_own site None = false
is_own site (Some found) = same_plain_site site (plain_site found.site)

-- it is of another site, and consults the cookies of the site's domain
abbrev pub is_asked : PlainSite → Option MainEvent → Bool
is_asked site None = false
is_asked site (Some found) =
    not (same_plain_site site (plain_site found.site)) && consults found site.host

-- the cookies that it holds
abbrev pub IsHeld : PlainSite → Entries → Bool → List Domain → Option HeldJar → Type 0
IsHeld site cookies touched domains held =
    (rules : List Rule) (others : List Domain) → IsTouched site others touched
    → map held_of (option_to_list held)
    ≡ held_cells (machine rules) (is_held (machine rules) site others) (shared_in cookies) domains

-- ---- entries

-- an entry that may be there
abbrev pub entries_in : Option Entry → List AgentEntry
entries_in entry = map entry_of (option_to_list entry)

-- that of the main event, where it is of the site
abbrev pub IsMainEntry : PlainPresent → PlainAction → PlainSite → (touched : Bool) → Option Entry
    → Type 0
IsMainEntry present action site touched entry =
    (world : AgentWorld) (others : List Domain) → StandsForWorld present world
    → IsTouched site others touched
    → let m = machine present.rules in
    entries_in entry
    ≡ main_entries m site others (after_sides m world action)
    (main_event present.rules world action)

-- that of an event beside it
abbrev pub SideEntry : ℕ → Option SiteEvent → Option Entry → Type 0
SideEntry now event entry =
    entries_in entry
    ≡ map (λ e. record { event = record { moment = now; event = event_of e }; held = [] })
    (option_to_list event)
