-- The machine of one site: what an event makes of the site's partition, and the reply to it.
-- Source: that of each action stands where the action is defined.
-- The machine sees one partition, the shared cells that its event consults, and one event; and no
-- other site.
use Rattle.std.specs.Prelude.{ℕ, Bool, true, false, List, Option, Some, None, codes}
use Rattle.agent_base.specs.declared.refusals.Label.{Label}
use Rattle.suffix_list.specs.Suffix.{Rule}
use Rattle.origin_site.specs.Site.{PlainSite}
use Rattle.live_state.specs.Tabs.{PlainTab}
use Rattle.script_actions.specs.Action.{DocumentAction, Frame, Nav, Drop, Click, Fetch, Set, Get, Del}
use Rattle.script_actions.specs.Action.{Clear, Len, Key, Events, Cookie, SetCookie, Has, Request}
use Rattle.script_actions.specs.Action.{Persisted, Estimate, Persist}
use Rattle.script_actions.specs.ActionFacts.{facts_of}
use Rattle.agent_model.specs.Partition.{Partition, tab_named}
use Rattle.agent_model.specs.TabChanges.{Gone, tab_becomes}
use Rattle.agent_model.specs.Effects.{SharedCells, Effect, answers, ok}
use Rattle.agent_model.specs.Documents.{Keyed, in_secure, with_key}
use Rattle.agent_model.specs.Cookies.{fetch, read_cookies, set_cookie}
use Rattle.agent_model.specs.StorageAccess.{request_access, tell_access}
use Rattle.agent_model.specs.Frames.{add_frame, navigate_frame, remove_frame, click}
use Rattle.agent_model.specs.AreaActions.{set_item, remove_item, clear_area}
use Rattle.agent_model.specs.AreaActions.{get_item, get_name, get_length}
use Rattle.agent_model.specs.Buckets.{get_mode, get_usage, persist, evict}
use Rattle.agent_model.specs.Queues.{take_events}
use Rattle.agent_model.specs.Sessions.{arrive, close, copy_sessions}
use Rattle.agent_model.specs.SiteEvent.{SiteEvent, Acts, Arrives, Leaves, Copies, Closes, Evicts}
use Rattle.agent_model.specs.SiteEvent.{TimedEvent, SiteOutcome, replied, silent}
use Rattle.agent_model.specs.LoadNames.{load_name}

-- What an action does, in an open tab at a site: with the storage key of its document where it is
-- keyed, and else by the label of that document.
abbrev pub Deed : (keyed : Bool) → Type 0
Deed true = PlainSite → PlainTab → Keyed → Effect
Deed false = PlainSite → Label → PlainTab → Effect

-- what each does
abbrev pub deed_of : List Rule → ℕ → (action : DocumentAction) → Deed (facts_of action).keyed
deed_of rules now (Frame parent url sandbox deny head) =
    λ site at. add_frame rules now site at parent url sandbox deny head
deed_of rules now (Nav url by_self method head) =
    λ site at. navigate_frame rules now site at url by_self method head
deed_of rules now Drop = λ site. remove_frame
deed_of rules now Click = λ site. click now
deed_of rules now (Fetch url method head) = λ site at. fetch rules now site at url method head
deed_of rules now (Set area key value) = λ site tab. set_item area key value
deed_of rules now (Get area key) = λ site tab. get_item area key
deed_of rules now (Del area key) = λ site tab. remove_item area key
deed_of rules now (Clear area) = λ site tab. clear_area area
deed_of rules now (Len area) = λ site tab. get_length area
deed_of rules now (Key area n) = λ site tab. get_name area n
deed_of rules now Events = λ site. take_events
deed_of rules now Cookie = λ site tab. read_cookies rules now site
deed_of rules now (SetCookie text) = λ site tab. set_cookie rules now site text
deed_of rules now Has = λ site. tell_access rules now
deed_of rules now (Request answer) = λ site at. request_access rules now site at answer
deed_of rules now Persisted = λ site tab. get_mode
deed_of rules now Estimate = λ site tab. get_usage
deed_of rules now (Persist answer) = λ site tab. in_secure tab (persist answer)

-- a deed is done by the document of a frame, with its storage key where it is keyed
abbrev pub by_deed : (keyed : Bool) → Deed keyed → PlainSite → Label → PlainTab → Effect
by_deed true does site at tab = with_key at tab (does site tab)
by_deed false does site at tab = does site at tab

-- an action of a document in an open tab at this site
abbrev pub act_in : List Rule → ℕ → PlainSite → Label → DocumentAction → PlainTab → Effect
act_in rules now site at action tab =
    by_deed (facts_of action).keyed (deed_of rules now action) site at tab

-- ---- every event

-- a document acts in a tab, where the tab is at the site
abbrev pub act : List Rule → ℕ → Label → DocumentAction → Option PlainTab → SharedCells → Partition
    → SiteOutcome
act rules now at action None cells partition = silent partition cells partition.held
act rules now at action (Some tab) cells partition =
    replied partition (facts_of action).name
    (act_in rules now partition.site at action tab cells partition.held)

-- a tab is closed. The site that it is at replies.
abbrev pub close_at : ℕ → Option PlainTab → SharedCells → Partition → SiteOutcome
close_at tab None cells partition = silent partition cells (close tab partition.held)
close_at tab (Some closed) cells partition =
    replied partition (codes "close") (answers ok cells (close tab partition.held))

-- what an event gives
unfoldable pub site_step : List Rule → Partition → SharedCells → TimedEvent → SiteOutcome
site_step rules partition cells timed = step timed.event
  where
    step : SiteEvent → SiteOutcome
    step (Acts at action) =
        act rules timed.moment at action (tab_named at.tab partition.held) cells partition
    step (Arrives load tab url method same_site head) =
        replied partition (load_name load)
        (arrive rules timed.moment partition.site tab url method same_site head cells
        partition.held)
    step (Leaves tab) = silent partition cells (tab_becomes tab Gone partition.held)
    step (Copies from to) =
        silent partition cells (copy_sessions partition.site from to partition.held)
    step (Closes tab) = close_at tab (tab_named tab partition.held) cells partition
    step Evicts =
        replied partition (codes "evict") (evict partition.site cells partition.held)
