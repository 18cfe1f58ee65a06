-- Items of a local script as contracts see them: those of the general local script.
-- Source: none; it says how contracts see types of this crate.
-- Our own choice: an entry holds the cookies of one domain at most, since no event consults more.
use Rattle.std.specs.Prelude.{map, option_to_list, string_bytes}
use Rattle.unwinding.specs.LocalEntries.{Entry, HeldCell}
use Rattle.unwinding.specs.LocalScript.{ScriptItem, Happens, Restarts}
use Rattle.origin_site.specs.Plain.{plain_address}
use Rattle.script_actions.specs.Action.{PlainAction, Tick, Open, Close, Go, Evict, Act}
use Rattle.script_actions.specs.Plain.{action_of, head_field_of}
use Rattle.agent_model.specs.CookieCells.{Cookies, Domain}
use Rattle.agent_model.specs.SiteEvent as model
use Rattle.agent_model.specs.SiteEvent.{TimedEvent}
use Rattle.local_scripts.specs.declared.entry.Entry.{Entry as HeldEntry}
use Rattle.local_scripts.specs.declared.entry.HeldJar.{HeldJar}
use Rattle.local_scripts.specs.declared.item.Item.{Item}
use Rattle.local_scripts.specs.declared.item.Item.TheVariants as item
use Rattle.local_scripts.specs.declared.site_event.SiteEvent.{SiteEvent}
use Rattle.local_scripts.specs.declared.site_event.SiteEvent.TheVariants as event
use Rattle.local_scripts.specs.declared.site_event.TopLoad.{TopLoad}
use Rattle.local_scripts.specs.declared.site_event.TopLoad.TheVariants as load

-- the entries of an agent's sites
abbrev pub AgentEntry : Type 0
AgentEntry = Entry Domain Cookies TimedEvent

-- the items of their local scripts
abbrev pub AgentItem : Type 0
AgentItem = ScriptItem Domain Cookies TimedEvent

-- a load
abbrev pub load_of : TopLoad → model.TopLoad
load_of load.Opens = model.Opens
load_of load.Goes = model.Goes

-- the event of a line that a document does. No other line stands in an event.
abbrev pub acted : PlainAction → model.SiteEvent
acted (Act at action) = model.Acts at action
acted (Tick s) = model.Evicts
acted (Open tab url opener noopener method head) = model.Evicts
acted (Close tab) = model.Evicts
acted (Go tab url by_page method head) = model.Evicts
acted (Evict site) = model.Evicts

-- an event
abbrev pub event_of : SiteEvent → model.SiteEvent
event_of (event.Acts line) = acted (action_of line.action)
event_of (event.Arrives load tab url method same_site head) =
    model.Arrives (load_of load) tab (plain_address url.value) method same_site
    (map head_field_of head.items)
event_of (event.Leaves tab) = model.Leaves tab
event_of (event.Copies from to) = model.Copies from to
event_of (event.Closes tab) = model.Closes tab
event_of event.Evicts = model.Evicts

-- the cookies that are held
abbrev pub held_of : HeldJar → HeldCell Domain Cookies
held_of held = record { cell = string_bytes held.domain; content = held.jar.cookies }

-- an entry
abbrev pub entry_of : HeldEntry → AgentEntry
entry_of entry =
    record {
      event = record { moment = entry.moment; event = event_of entry.event };
      held = map held_of (option_to_list entry.held);
    }

-- an item
abbrev pub item_of : Item → AgentItem
item_of (item.Happens entry) = Happens (entry_of entry)
item_of (item.Restarts restart) = Restarts restart.moment restart.acknowledged restart.kept
