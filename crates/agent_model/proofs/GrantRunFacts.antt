-- Which entries of local scripts hold the cookies of a domain by granted storage access, worked out by
-- hand in a whole run. A load of `https://w.test` in tab 9 stores a cookie. Tab 1 is at
-- `https://a.test`, where a widget of `w.test` is clicked and asks for access, and the user grants it.
-- It requests a page of its own, and the response stores another value. Then tab 9 loads
-- `https://w.test` again.
use Rattle.std.proofs.Common.{◌≡◌, true, false, cond, pos, List, [], ◌∷◌, ◌++◌, ℕ, Some, None, refl, ap, ◌∙◌}
use Rattle.std.specs.Cmp.{nat_cmp_total}
use Rattle.std.specs.Ordering.{nat_cmp}
use Rattle.std.specs.FinMap.{get-empty, get-insert}
use Rattle.std.specs.Prelude.{codes, map}
use Rattle.unwinding.specs.FiniteCells.{get_cell, restrict_cells, set_cell}
use Rattle.unwinding.specs.World.{world_step}
use Rattle.unwinding.specs.LocalEntries.{changed_cells, line_entries, line_touched, local_entries}
use Rattle.unwinding.proofs.FiniteCellsLemmas as cells
use Rattle.origin_site.specs.Address.{PlainAddress}
use Rattle.origin_site.specs.Site.{PlainSite}
use Rattle.access_grants.specs.Grant.{PlainGrant}
use Rattle.frame_tree.specs.Calls.{activated, flagged, opened, with_document}
use Rattle.live_state.specs.Tabs.{PlainTab, made_tab}
use Rattle.setcookie_parse.specs.declared.cookie.SameSite.TheVariants as when
use Rattle.stored_cookie.specs.StoredCookie.{PlainCookie}
use Rattle.row_changes.specs.Change.{Grant}
use Rattle.reply_lines.specs.Reply.{Plain}
use Rattle.script_actions.specs.declared.words.Method.TheVariants as method
use Rattle.script_actions.specs.Action.{DocumentAction, Click, Fetch, Frame, Request, HeadField, PlainAction, Go}
use Rattle.script_actions.specs.declared.words.Prompt.TheVariants as prompt
use Rattle.agent_model.specs.CookieCells.{Domain, Cookies, domain_order, equal_cookies}
use Rattle.agent_model.specs.PartitionedCells.{PartitionedKey, partitioned_order}
use Rattle.agent_model.specs.Partition.{Holdings, Partition, empty_partition, no_holdings, tab_named, with_tab}
use Rattle.agent_model.specs.Effects.{SharedCells, no_shared_cells}
use Rattle.agent_model.specs.SiteEvent.{SiteEvent, Arrives, Goes}
use Rattle.agent_model.specs.CookieUse.{CookieUse}
use Rattle.agent_model.specs.CookieUses.{fetch_use, frame_use}
use Rattle.agent_model.specs.CookieStore.{BothCells, both_marked, cookie_texts, header_text, sent, store_texts}
use Rattle.agent_model.specs.Sessions.{arrive}
use Rattle.agent_model.specs.SiteStep.{act_in, site_step}
use Rattle.agent_model.specs.Lines.{AgentWorld, no_places, placed, site_at}
use Rattle.agent_model.specs.SideEvents.{side_event}
use Rattle.agent_model.specs.TheMachine.{beginning, machine}
use Rattle.agent_model.specs.Isolation.{local_script}
use Rattle.agent_model.specs.Given.{SiteEntry, entry_given, events_given, given_going}
use Rattle.agent_model.proofs.CookieCellsLemmas.{get_merge, get_none, get_restrict, get_set}
use Rattle.agent_model.proofs.PartitionedLemmas.{partitioned_order_total, partitioned_order_same}
use Rattle.agent_model.proofs.GivenLemmas.{gives}
use Rattle.agent_model.proofs.OpenedLemmas.{after_open, comes, cookies_after, left_in, nothing_partitioned, open_gives, open_stepped, open_touches, opens}
use Rattle.agent_model.proofs.WidgetLemmas.{acts, asks, cells_by, done_by, entry, gives_a, gives_w, line, names_by, nine_is_at_w, places, stepped, touched_a, touched_w, world}
use Rattle.agent_model.proofs.StandardFacts.{address, at_frame, shown, site, stores, widget, a}

-- the cookie `n` of `w.test` with this value
abbrev cookie : List ℕ → PlainCookie
cookie value =
    record {
      name = codes "n";
      value = value;
      domain = widget;
      path = codes "/";
      host_only = true;
      secure = true;
      http_only = false;
      same_site = when.NoneSent;
      creation = pos 7;
      expiry = None;
      last = pos 7;
    }

-- ---- the loads of both tabs

-- tab 9 is opened at `https://w.test`, and the response stores the cookie
abbrev first : List HeadField
first = stores (codes "n=1; SameSite=None; Secure")

abbrev pub opens_w : PlainAction
opens_w = opens 9 (address widget) first

-- tab 1 is opened at `https://a.test`
abbrev pub opens_a : PlainAction
opens_a = opens 1 (address a) []

abbrev pub w0 : AgentWorld
w0 = beginning 7

abbrev w1 : AgentWorld
w1 = after_open w0 9 (address widget) first

abbrev pub w2 : AgentWorld
w2 = after_open w1 1 (address a) []

nine_is_free : site_at 9 no_places ≡ None
unfolding no_places
nine_is_free = get-empty nat_cmp 9

one_is_free : site_at 1 (placed 9 (site widget) no_places) ≡ None
unfolding no_places
one_is_free = get-insert nat_cmp_total no_places 9 (site widget) 1 ∙ get-empty nat_cmp 1

-- what other sites have from then on, and `https://a.test`
abbrev pub others : PlainSite → Partition
others = w1.partition

abbrev pub held_opened : Holdings
held_opened = (arrive [] 7 (site a) 1 (address a) method.Get true [] no_shared_cells no_holdings).held

is_world : w2 ≡ world others w2.cells held_opened
unfolding beginning machine empty_partition site_step
is_world = refl

pub after_opens : world_step (machine []) (world_step (machine []) w0 opens_w) opens_a ≡ world others w2.cells held_opened
unfolding beginning
after_opens =
    ap (λ w. world_step (machine []) w opens_a) (open_stepped w0 9 (address widget) first nine_is_free)
    ∙ open_stepped w1 1 (address a) [] one_is_free ∙ is_world

-- the cookies of `w.test`, and those of `a.test`
own_w : get_cell domain_order w1.cells widget ≡ cookie (codes "1") ∷ []
unfolding beginning machine empty_partition site_step
own_w =
    left_in (site widget) 9 (address widget) first (record { top = site widget; bit = false; domain = widget }) widget w0.cells refl refl
    ∙ ap (λ own. cookies_after (site widget) (address widget) first own []) (get_none widget)

own_second : get_cell domain_order w2.cells widget ≡ cookie (codes "1") ∷ []
unfolding beginning machine empty_partition site_step
own_second = get_merge _ _ w1.cells widget ∙ own_w

none_first : get_cell domain_order w1.cells a ≡ []
unfolding beginning machine empty_partition site_step
none_first = get_merge _ _ w0.cells a ∙ get_none a

none_second : get_cell domain_order w2.cells a ≡ []
unfolding beginning machine empty_partition site_step
none_second =
    left_in (site a) 1 (address a) [] (record { top = site a; bit = false; domain = a }) a w1.cells refl refl
    ∙ ap (λ own. cookies_after (site a) (address a) [] own []) none_first

-- what each load gives either site, and what it leaves different for it
first_gives_w : line_entries (machine []) (site widget) [] w0 opens_w ≡ entry (comes 9 (address widget) first) [] ∷ []
unfolding beginning empty_partition
first_gives_w = open_gives w0 9 (address widget) first nine_is_free (site widget) []

first_gives_a : line_entries (machine []) (site a) [] w0 opens_w ≡ []
unfolding beginning empty_partition
first_gives_a = open_gives w0 9 (address widget) first nine_is_free (site a) []

second_gives_w : line_entries (machine []) (site widget) [] w1 opens_a ≡ []
unfolding beginning empty_partition
second_gives_w = open_gives w1 1 (address a) [] one_is_free (site widget) []

second_gives_a : line_entries (machine []) (site a) (widget ∷ []) w1 opens_a ≡ entry (comes 1 (address a) []) [] ∷ []
unfolding beginning empty_partition
second_gives_a = open_gives w1 1 (address a) [] one_is_free (site a) (widget ∷ [])

first_touches_w : line_touched (machine []) (site widget) [] w0 opens_w ≡ []
unfolding beginning machine
first_touches_w = open_touches w0 9 (address widget) first nine_is_free (site widget) []

first_touches_a : line_touched (machine []) (site a) [] w0 opens_w ≡ widget ∷ []
unfolding beginning machine empty_partition side_event
first_touches_a = open_touches w0 9 (address widget) first nine_is_free (site a) [] ∙ (λ i. cond (equal_cookies (get_none widget i) (own_w i)) [] (widget ∷ []))

second_touches_w : line_touched (machine []) (site widget) [] w1 opens_a ≡ []
unfolding beginning machine empty_partition side_event
second_touches_w = open_touches w1 1 (address a) [] one_is_free (site widget) [] ∙ (λ i. cond (equal_cookies (none_first i) (none_second i)) [] (a ∷ []))

second_touches_a : line_touched (machine []) (site a) (widget ∷ []) w1 opens_a ≡ widget ∷ []
unfolding beginning machine
second_touches_a = open_touches w1 1 (address a) [] one_is_free (site a) (widget ∷ [])

-- ---- the widget and the click

abbrev pub framing : DocumentAction
framing = Frame 0 (address widget) None false []

-- the tab at `https://a.test` after the load, with the widget, and after the click on it
abbrev pub opened_tab : PlainTab
opened_tab = made_tab 1 (opened [] (address a)) None None

abbrev pub framed_tab : PlainTab
framed_tab = made_tab 1 (shown a None) None (Some opened_tab)

abbrev pub clicked_tab : PlainTab
clicked_tab = made_tab 1 (activated 1 (pos 7) (shown a None)) None (Some framed_tab)

-- the shared cells and what is held with the widget, and after the click
abbrev pub cells_framed : SharedCells
cells_framed = cells_by others w2.cells held_opened framing (Some opened_tab)

abbrev pub held_framed : Holdings
held_framed = (done_by others w2.cells held_opened framing (Some opened_tab)).partition.held

abbrev pub cells_before : SharedCells
cells_before = cells_by others cells_framed held_framed Click (Some framed_tab)

abbrev pub held_before : Holdings
held_before = (done_by others cells_framed held_framed Click (Some framed_tab)).partition.held

pub is_opened : tab_named 1 held_opened ≡ Some opened_tab
is_opened = get-insert nat_cmp_total no_holdings.tabs 1 opened_tab 1

pub is_framed : tab_named 1 held_framed ≡ Some framed_tab
is_framed = get-insert nat_cmp_total held_opened.tabs 1 framed_tab 1

pub is_clicked : tab_named 1 held_before ≡ Some clicked_tab
is_clicked = get-insert nat_cmp_total held_framed.tabs 1 clicked_tab 1

own_first : get_cell domain_order cells_before widget ≡ cookie (codes "1") ∷ []
own_first =
    get_merge (asks Click (Some framed_tab)) (done_by others cells_framed held_framed Click (Some framed_tab)).cells cells_framed widget
    ∙ get_merge (asks framing (Some opened_tab)) (done_by others w2.cells held_opened framing (Some opened_tab)).cells w2.cells widget
    ∙ own_second

-- ---- the first four lines

abbrev pub after_four : List PlainAction → List PlainAction
after_four lines = opens_w ∷ opens_a ∷ line framing ∷ line Click ∷ lines

begins_w : (lines : List PlainAction) → local_entries (machine []) (site widget) [] w0 (after_four lines)
    ≡ entry (comes 9 (address widget) first) [] ∷ local_entries (machine []) (site widget) [] (world others cells_before held_before) lines
unfolding beginning
begins_w lines =
    (λ i. first_gives_w i ++ local_entries (machine []) (site widget) (first_touches_w i) (open_stepped w0 9 (address widget) first nine_is_free i) (opens_a ∷ line framing ∷ line Click ∷ lines))
    ∙ (λ i. given ++ (second_gives_w i ++ local_entries (machine []) (site widget) (second_touches_w i) ((open_stepped w1 1 (address a) [] one_is_free ∙ is_world) i) (line framing ∷ line Click ∷ lines)))
    ∙ (λ i. given ++ (gives_w others w2.cells held_opened framing opened_tab is_opened [] i
    ++ local_entries (machine []) (site widget) (touched_w others w2.cells held_opened framing opened_tab is_opened i) (stepped others w2.cells held_opened framing opened_tab is_opened i) (line Click ∷ lines)))
    ∙ (λ i. given ++ (gives_w others cells_framed held_framed Click framed_tab is_framed [] i
    ++ local_entries (machine []) (site widget) (touched_w others cells_framed held_framed Click framed_tab is_framed i) (stepped others cells_framed held_framed Click framed_tab is_framed i) lines))
  where
    given : List SiteEntry
    given = entry (comes 9 (address widget) first) [] ∷ []

begins_a : (lines : List PlainAction) → local_entries (machine []) (site a) [] w0 (after_four lines)
    ≡ entry (comes 1 (address a) []) [] ∷ entry (acts framing) [] ∷ entry (acts Click) [] ∷ local_entries (machine []) (site a) (widget ∷ []) (world others cells_before held_before) lines
unfolding beginning
begins_a lines =
    (λ i. first_gives_a i ++ local_entries (machine []) (site a) (first_touches_a i) (open_stepped w0 9 (address widget) first nine_is_free i) (opens_a ∷ line framing ∷ line Click ∷ lines))
    ∙ (λ i. second_gives_a i ++ local_entries (machine []) (site a) (second_touches_a i) ((open_stepped w1 1 (address a) [] one_is_free ∙ is_world) i) (line framing ∷ line Click ∷ lines))
    ∙ (λ i. given ++ (gives_a others w2.cells held_opened framing opened_tab is_opened touched i
    ++ local_entries (machine []) (site a) (touched_a others w2.cells held_opened framing opened_tab is_opened touched i) (stepped others w2.cells held_opened framing opened_tab is_opened i) (line Click ∷ lines)))
    ∙ (λ i. given ++ (entry (acts framing) [] ∷ (gives_a others cells_framed held_framed Click framed_tab is_framed touched i
    ++ local_entries (machine []) (site a) (touched_a others cells_framed held_framed Click framed_tab is_framed touched i) (stepped others cells_framed held_framed Click framed_tab is_framed i) lines)))
  where
    touched : List Domain
    touched = widget ∷ []

    given : List SiteEntry
    given = entry (comes 1 (address a) []) [] ∷ []

-- ---- the lines behind them

-- the widget asks for storage access, and the user grants it
abbrev pub asking : DocumentAction
asking = Request prompt.Grant

-- it requests a page of its own origin, and the response stores another value
abbrev page : PlainAddress
page = record (address widget) { text = codes "https://w.test/p"; path = codes "/p" }

abbrev response : List HeadField
response = stores (codes "n=2; SameSite=None; Secure")

abbrev pub fetch : DocumentAction
fetch = Fetch page method.Get response

-- the user loads the widget's site in tab 9
abbrev pub goes : PlainAction
goes = Go 9 (address widget) false method.Get []

abbrev pub arrives : SiteEvent
arrives = Arrives Goes 9 (address widget) method.Get true []

-- ---- the request for access

-- the tab, the shared cells and what is held after it
abbrev pub given_tab : PlainTab
given_tab = made_tab 1 (with_document 1 flagged (activated 1 (pos 7) (shown a None))) None (Some clicked_tab)

abbrev pub cells_asked : SharedCells
cells_asked = cells_by others cells_before held_before asking (Some clicked_tab)

abbrev pub held_after : Holdings
held_after = (done_by others cells_before held_before asking (Some clicked_tab)).partition.held

-- it is granted, which is a row change, and touches no shared cell: the document has access, and
-- the permission is kept
abbrev permission : PlainGrant
permission = record { top = site a; site = site widget; granted = true; until = pos 2592007 }

granted : (cells : SharedCells) → act_in [] 7 (site a) (at_frame 1 1) asking clicked_tab cells held_before
    ≡ record { held = record (with_tab 1 given_tab held_before) { grants = permission ∷ [] }; cells = cells; changes = Grant permission ∷ []; body = Plain (codes "granted") }
unfolding no_holdings
granted cells = refl

pub is_given : tab_named 1 held_after ≡ Some given_tab
unfolding no_holdings
is_given = get-insert nat_cmp_total held_before.tabs 1 given_tab 1

own_asked : get_cell domain_order cells_asked widget ≡ cookie (codes "1") ∷ []
own_asked = get_merge (asks asking (Some clicked_tab)) (done_by others cells_before held_before asking (Some clicked_tab)).cells cells_before widget ∙ own_first

-- ---- the request of its own origin

abbrev how : CookieUse
how = fetch_use [] (site a) 1 given_tab.frames page method.Get

abbrev key : PartitionedKey
key = record { top = site a; bit = true; domain = widget }

-- its partitioned cell is empty, after the load of the widget too
none_partitioned : get_cell partitioned_order held_after.cookies key ≡ []
unfolding no_holdings
none_partitioned =
    cells.get_set partitioned_order partitioned_order_total partitioned_order_same key key _ held_opened.cookies
    ∙ ap (λ found. (both_marked 7 (frame_use [] (site a) 0 opened_tab.frames (address widget)) (record { own = []; partition = found })).partition)
    (cells.get_set partitioned_order partitioned_order_total partitioned_order_same key (record { top = site a; bit = false; domain = a }) _ no_holdings.cookies ∙ nothing_partitioned key)

-- it sends the old cookie and replaces it
abbrev both : BothCells
both = record { own = cookie (codes "1") ∷ []; partition = [] }

sends : header_text (sent 7 how both) ≡ Some (codes "n=1")
sends = refl

replaces : (store_texts [] 7 how (both_marked 7 how both) (cookie_texts response)).words ≡ codes "replaced" ∷ []
replaces = refl

abbrev own_after : Cookies → Cookies → Cookies
own_after own partition = (store_texts [] 7 how (both_marked 7 how (record { own = own; partition = partition })) (cookie_texts response)).both.own

-- the shared cells and what is held after it
abbrev pub cells_fetched : SharedCells
cells_fetched = cells_by others cells_asked held_after fetch (Some given_tab)

abbrev pub held_fetched : Holdings
held_fetched = (done_by others cells_asked held_after fetch (Some given_tab)).partition.held

own_fetched : get_cell domain_order cells_fetched widget ≡ cookie (codes "2") ∷ []
own_fetched =
    let asked = asks fetch (Some given_tab) in
    let seen = restrict_cells domain_order asked cells_asked in
    let left = own_after (get_cell domain_order seen widget) (get_cell partitioned_order held_after.cookies key) in
    get_merge asked (set_cell domain_order widget left seen) cells_asked widget
    ∙ get_set widget widget left seen
    ∙ λ i. own_after ((get_restrict asked cells_asked widget ∙ own_asked) i) (none_partitioned i)

-- it leaves the cookies of `w.test` different
left_different : changed_cells (machine []) cells_asked cells_fetched (names_by fetch (Some given_tab)) ≡ widget ∷ []
unfolding machine
left_different = λ i. cond (equal_cookies (own_asked i) (own_fetched i)) [] (widget ∷ [])

-- ---- the second load

-- what it gives either site, where others have left these different
load_gives : (w : AgentWorld) → w.rest ≡ record { now = 7; places = places } → (s : PlainSite) (touched : List Domain)
    → line_entries (machine []) s touched w goes ≡ map (entry_given [] s (w.partition s) touched w.cells) (given_going [] s 7 9 (address widget) false method.Get [] (Some (site widget)))
unfolding events_given
load_gives w rest s touched =
    gives [] s touched w goes
    ∙ (λ i. map (entry_given [] s (w.partition s) touched w.cells) (given_going [] s (rest i).now 9 (address widget) false method.Get [] (site_at 9 (rest i).places)))
    ∙ (λ i. map (entry_given [] s (w.partition s) touched w.cells) (given_going [] s 7 9 (address widget) false method.Get [] (nine_is_at_w i)))

-- ---- the whole run

abbrev pub last_three : List PlainAction
last_three = line asking ∷ line fetch ∷ goes ∷ []

abbrev pub run : List PlainAction
run = after_four last_three

-- the first load of `https://w.test` holds no cell. The second holds the cookies of the domain,
-- which the widget has changed.
held_at_w : (local_script [] (site widget) 7 run).script.entries
    ≡ entry (comes 9 (address widget) first) []
    ∷ entry arrives (record { cell = widget; content = cookie (codes "2") ∷ [] } ∷ [])
    ∷ []
unfolding local_script
held_at_w =
    begins_w last_three
    ∙ ap (λ later. entry (comes 9 (address widget) first) [] ∷ later)
    ((λ i. gives_w others cells_before held_before asking clicked_tab is_clicked [] i
    ++ local_entries (machine []) (site widget) (touched_w others cells_before held_before asking clicked_tab is_clicked i) (stepped others cells_before held_before asking clicked_tab is_clicked i) (line fetch ∷ goes ∷ []))
    ∙ (λ i. gives_w others cells_asked held_after fetch given_tab is_given [] i
    ++ local_entries (machine []) (site widget) ((touched_w others cells_asked held_after fetch given_tab is_given ∙ left_different) i) (stepped others cells_asked held_after fetch given_tab is_given i) (goes ∷ []))
    ∙ (λ i. load_gives (world others cells_fetched held_fetched) refl (site widget) (widget ∷ []) i ++ [])
    ∙ (λ i. entry arrives (record { cell = widget; content = own_fetched i } ∷ []) ∷ []))

-- without what the widget did by its access the second holds none either
held_alone : (local_script [] (site widget) 7 (after_four (goes ∷ []))).script.entries ≡ entry (comes 9 (address widget) first) [] ∷ entry arrives [] ∷ []
unfolding local_script
held_alone = begins_w (goes ∷ []) ∙ ap (λ later. entry (comes 9 (address widget) first) [] ∷ later) (λ i. load_gives (world others cells_before held_before) refl (site widget) [] i ++ [])

-- at `https://a.test` the request of the widget holds them, and nothing else does
held_at_a : (local_script [] (site a) 7 run).script.entries
    ≡ entry (comes 1 (address a) []) []
    ∷ entry (acts framing) []
    ∷ entry (acts Click) []
    ∷ entry (acts asking) []
    ∷ entry (acts fetch) (record { cell = widget; content = cookie (codes "1") ∷ [] } ∷ [])
    ∷ []
unfolding local_script
held_at_a =
    begins_a last_three
    ∙ ap (λ later. entry (comes 1 (address a) []) [] ∷ entry (acts framing) [] ∷ entry (acts Click) [] ∷ later)
    ((λ i. gives_a others cells_before held_before asking clicked_tab is_clicked touched i
    ++ local_entries (machine []) (site a) (touched_a others cells_before held_before asking clicked_tab is_clicked touched i) (stepped others cells_before held_before asking clicked_tab is_clicked i) (line fetch ∷ goes ∷ []))
    ∙ (λ i. entry (acts asking) [] ∷ (gives_a others cells_asked held_after fetch given_tab is_given touched i
    ++ local_entries (machine []) (site a) (touched_a others cells_asked held_after fetch given_tab is_given touched i) (stepped others cells_asked held_after fetch given_tab is_given i) (goes ∷ [])))
    ∙ (λ i. entry (acts asking) [] ∷ entry (acts fetch) (record { cell = widget; content = own_asked i } ∷ []) ∷ (load_gives (world others cells_fetched held_fetched) refl (site a) touched i ++ [])))
  where
    touched : List Domain
    touched = widget ∷ []
