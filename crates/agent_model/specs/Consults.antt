-- Which shared cells an event consults: the unpartitioned cookies of at most one domain.
-- Source: that of each use of cookies stands where it is defined.
-- Our own choice: a line that is refused consults no cell. A load or a request that finds no cookie
-- and stores none consults one all the same.
use Rattle.std.specs.Prelude.{List, [], Option, Some, None, option_map, option_and_then}
use Rattle.std.specs.Prelude.{Result, Ok, Err}
use Rattle.agent_base.specs.declared.refusals.Label.{Label}
use Rattle.suffix_list.specs.Suffix.{Rule}
use Rattle.origin_site.specs.Site.{PlainSite}
use Rattle.frame_tree.specs.declared.tab.TreeFault.{TreeFault}
use Rattle.frame_tree.specs.Document.{PlainDocument}
use Rattle.frame_tree.specs.Keys.{key_of_document}
use Rattle.frame_tree.specs.Tree.{PlainFrame, document_of}
use Rattle.live_state.specs.Tabs.{PlainTab}
use Rattle.script_actions.specs.Action.{DocumentAction, Frame, Nav, Drop, Click, Fetch, Set, Get, Del}
use Rattle.script_actions.specs.Action.{Clear, Len, Key, Events, Cookie, SetCookie, Has, Request}
use Rattle.script_actions.specs.Action.{Persisted, Estimate, Persist}
use Rattle.agent_model.specs.CookieCells.{Domain}
use Rattle.agent_model.specs.Partition.{Partition, tab_named}
use Rattle.agent_model.specs.Documents.{Keyed}
use Rattle.agent_model.specs.CookieUse.{consulted_by}
use Rattle.agent_model.specs.CookieUses.{fetch_use, frame_use, nav_use, script_use, top_use}
use Rattle.agent_model.specs.Frames.{frames_added, frames_navigated}
use Rattle.agent_model.specs.SiteEvent.{SiteEvent, Acts, Arrives, Leaves, Copies, Closes, Evicts}

-- ---- an action of a document

-- those of a load of a frame, unless the frames refuse it
abbrev pub unless_refused : List Domain → Result (List PlainFrame) TreeFault → List Domain
unless_refused domains (Ok frames) = domains
unless_refused domains (Err why) = []

-- those of a request of a document, where it is there
abbrev pub where_there : List Domain → Option PlainDocument → List Domain
where_there domains None = []
where_there domains (Some document) = domains

-- the document of a frame with its storage key, where it has one
abbrev pub keyed_at : Label → PlainTab → Option Keyed
keyed_at at tab =
    option_and_then (λ document. option_map
    (λ key. record { at = at; document = document; key = key })
    (key_of_document at.frame tab.frames document)) (document_of at.frame tab.frames)

-- those of a script, whose document has a storage key
abbrev pub by_script : List Rule → PlainSite → Option Keyed → List Domain
by_script rules site None = []
by_script rules site (Some own) = consulted_by rules (script_use site own)

-- those of an action of a document in an open tab at this site
abbrev pub names_in : List Rule → PlainSite → Label → DocumentAction → PlainTab → List Domain
names_in rules site at (Frame parent url sandbox deny head) tab =
    unless_refused (consulted_by rules (frame_use rules site parent tab.frames url))
    (frames_added rules at parent url sandbox deny tab.frames)
names_in rules site at (Nav url by_self method head) tab =
    unless_refused (consulted_by rules (nav_use rules site at.frame tab.frames url by_self method))
    (frames_navigated rules at url by_self tab.frames)
names_in rules site at (Fetch url method head) tab =
    where_there (consulted_by rules (fetch_use rules site at.frame tab.frames url method))
    (document_of at.frame tab.frames)
names_in rules site at Cookie tab = by_script rules site (keyed_at at tab)
names_in rules site at (SetCookie text) tab = by_script rules site (keyed_at at tab)
names_in rules site at Has tab = []
names_in rules site at (Request answer) tab = []
names_in rules site at Drop tab = []
names_in rules site at Click tab = []
names_in rules site at (Set area key value) tab = []
names_in rules site at (Get area key) tab = []
names_in rules site at (Del area key) tab = []
names_in rules site at (Clear area) tab = []
names_in rules site at (Len area) tab = []
names_in rules site at (Key area n) tab = []
names_in rules site at Events tab = []
names_in rules site at Persisted tab = []
names_in rules site at Estimate tab = []
names_in rules site at (Persist answer) tab = []

-- ---- every event

-- those of an action in a tab, where it is at the site
abbrev pub names_at : List Rule → PlainSite → Label → DocumentAction → Option PlainTab → List Domain
names_at rules site at action None = []
names_at rules site at action (Some tab) = names_in rules site at action tab

-- the cells that an event consults
abbrev pub event_names : List Rule → Partition → SiteEvent → List Domain
event_names rules own (Acts at action) =
    names_at rules own.site at action (tab_named at.tab own.held)
event_names rules own (Arrives load tab url method same_site head) =
    consulted_by rules (top_use own.site url method same_site)
event_names rules own (Leaves tab) = []
event_names rules own (Copies from to) = []
event_names rules own (Closes tab) = []
event_names rules own Evicts = []
