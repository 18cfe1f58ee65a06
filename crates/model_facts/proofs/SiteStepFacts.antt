-- Steps of a site that have no reply of their own, or where the site has no such tab, worked out by
-- hand; and the places of tabs.
-- Source: HTML, "Navigables" (a top-level traversable that is destroyed goes with its documents) and
-- "Navigation"; Storage Standard, "Storage sheds" (a session shed is that of a traversable navigable).
-- Our own choice: a tab that is closed has its session areas taken at every site where it has some.
use Rattle.std.proofs.Common.{◌≡◌, ℕ, true, not, [], Some, None, refl, ap, ◌∙◌}
use Rattle.std.specs.Prelude.{codes, option_map}
use Rattle.std.specs.Cmp.{nat_cmp_total}
use Rattle.std.specs.FinMap.{get-empty, get-insert, get-remove}
use Rattle.std.specs.Ordering.{nat_cmp}
use Rattle.unwinding.proofs.FiniteCellsLemmas.{get_set}
use Rattle.storage_events.specs.declared.event.AreaKind.TheVariants.{Local, Session}
use Rattle.script_actions.specs.declared.words.Method.TheVariants as method
use Rattle.script_actions.specs.Action.{Act, Click, Close, Len}
use Rattle.reply_lines.specs.Reply.{Plain}
use Rattle.agent_model.specs.Effects.{SharedCells, no_shared_cells, ok}
use Rattle.agent_model.specs.Lines.{AgentWorld, Places, no_places, placed, site_at}
use Rattle.agent_model.specs.Partition.{Holdings, area_of, empty_partition, no_holdings, session_order, tab_named, with_area, with_tab}
use Rattle.agent_model.specs.Rest.{refusal, rest_after}
use Rattle.agent_model.specs.Sessions.{is_of_tab}
use Rattle.agent_model.specs.SiteEvent.{Acts, Arrives, Closes, Copies, Evicts, Goes, Leaves, Opens, SiteEvent, SiteOutcome}
use Rattle.agent_model.specs.SiteStep.{act, close_at, site_step}
use Rattle.agent_model.proofs.HoldingsLemmas.{session_order_same, session_order_total}
use Rattle.agent_model.proofs.KeptLemmas as kept
use Rattle.agent_model.proofs.StandardFacts.{a, address, at_frame, at_seven, b, site}
use Rattle.agent_model.proofs.StorageFacts.{key_a, pairs, shows_a}
use Rattle.model_facts.proofs.Names.{site_with}

-- what an event at second 7 gives `https://a.test`, which has these holdings
abbrev steps : Holdings → SharedCells → SiteEvent → SiteOutcome
steps held cells event = site_step [] (site_with held) cells (at_seven event)

-- ---- a tab leaves for another site

-- there is no reply and no row change, and no shared cell is another
leaves_silently : (held : Holdings) (cells : SharedCells) → ((steps held cells (Leaves 1)).reply ≡ None) × ((steps held cells (Leaves 1)).changes ≡ []) × ((steps held cells (Leaves 1)).cells ≡ cells)
unfolding site_step
leaves_silently held cells = (refl, refl, refl)

-- the tab is not there any more, and every other tab stays as it is
leaves_the_site : (held : Holdings) (cells : SharedCells) → tab_named 1 (steps held cells (Leaves 1)).partition.held ≡ None
unfolding site_step
leaves_the_site held cells = get-remove nat_cmp_total held.tabs 1 1

others_stay : (held : Holdings) (cells : SharedCells) → tab_named 2 (steps held cells (Leaves 1)).partition.held ≡ tab_named 2 held
unfolding site_step
others_stay held cells = get-remove nat_cmp_total held.tabs 1 2

-- so do its session areas, and the local areas, cookies, modes and permissions of the site
areas_stay : (held : Holdings) (cells : SharedCells) → (steps held cells (Leaves 1)).partition ≡ site_with (record held { tabs = (steps held cells (Leaves 1)).partition.held.tabs })
unfolding site_step
areas_stay held cells = refl

-- ---- a tab is closed that is at another site

-- tabs 1 and 2 have session areas under the site. Tab 1 is elsewhere, and tab 2 is there.
abbrev visited : Holdings
visited = with_tab 2 (shows_a 2) (with_area Local 2 key_a pairs (with_area Session 1 key_a pairs (with_area Session 2 key_a pairs no_holdings)))

one_is_elsewhere : tab_named 1 visited ≡ None
unfolding no_holdings
one_is_elsewhere = get-insert nat_cmp_total no_holdings.tabs 2 (shows_a 2) 1 ∙ get-empty nat_cmp 1

-- there is no reply
closes_silently : (cells : SharedCells) → ((steps visited cells (Closes 1)).reply ≡ None)
unfolding site_step
closes_silently cells = ap (λ tab. (close_at 1 tab cells (site_with visited)).reply) one_is_elsewhere

-- its session area under the site is gone, that of the other tab stays, and so does the local area
area_after : (tab : ℕ) (cells : SharedCells) → area_of Session tab key_a (steps visited cells (Closes 1)).partition.held ≡ area_of Session tab key_a (close_at 1 None cells (site_with visited)).partition.held
unfolding site_step
area_after tab cells = ap (λ found. area_of Session tab key_a (close_at 1 found cells (site_with visited)).partition.held) one_is_elsewhere

own_area_goes : (cells : SharedCells) → area_of Session 1 key_a (steps visited cells (Closes 1)).partition.held ≡ []
own_area_goes cells = area_after 1 cells ∙ kept.kept_cell session_order session_order_total session_order_same visited.sessions (λ key. not (is_of_tab 1 key)) (1, key_a)

other_area_stays : (cells : SharedCells) → area_of Session 2 key_a (steps visited cells (Closes 1)).partition.held ≡ pairs
other_area_stays cells =
    area_after 2 cells ∙ kept.kept_cell session_order session_order_total session_order_same visited.sessions (λ key. not (is_of_tab 1 key)) (2, key_a)
    ∙ get_set session_order session_order_total session_order_same (2, key_a) (1, key_a) pairs (with_area Session 2 key_a pairs no_holdings).sessions
    ∙ get_set session_order session_order_total session_order_same (2, key_a) (2, key_a) pairs no_holdings.sessions

local_stays : (cells : SharedCells) → (steps visited cells (Closes 1)).partition.held.areas ≡ visited.areas
unfolding site_step
local_stays cells = ap (λ tab. (close_at 1 tab cells (site_with visited)).partition.held.areas) one_is_elsewhere

-- at the site where the tab is, the closing is answered
closes_here : (cells : SharedCells) → (steps visited cells (Closes 2)).reply ≡ Some (record { name = codes "close"; body = ok })
unfolding site_step
closes_here cells = ap (λ tab. (close_at 2 tab cells (site_with visited)).reply) (get-insert nat_cmp_total no_holdings.tabs 2 (shows_a 2) 2)

-- a document of a tab that is not there does nothing, and nothing is answered
acts_nowhere : (cells : SharedCells) → (steps visited cells (Acts (at_frame 1 0) Click)).reply ≡ None
unfolding site_step
acts_nowhere cells = ap (λ tab. (act [] 7 (at_frame 1 0) Click tab cells (site_with visited)).reply) one_is_elsewhere

-- ---- what is answered, and by which name

goes_by_name : (held : Holdings) (cells : SharedCells) → option_map (λ answer. answer.name) (steps held cells (Arrives Goes 1 (address a) method.Get true [])).reply ≡ Some (codes "go")
unfolding site_step
goes_by_name held cells = refl

opens_by_name : (held : Holdings) (cells : SharedCells) → option_map (λ answer. answer.name) (steps held cells (Arrives Opens 1 (address a) method.Get true [])).reply ≡ Some (codes "open")
unfolding site_step
opens_by_name held cells = refl

evicts_by_name : (held : Holdings) (cells : SharedCells) → option_map (λ answer. answer.name) (steps held cells Evicts).reply ≡ Some (codes "evict")
unfolding site_step
evicts_by_name held cells = refl

copies_silently : (held : Holdings) (cells : SharedCells) → ((steps held cells (Copies 1 2)).reply ≡ None) × ((steps held cells (Copies 1 2)).changes ≡ [])
unfolding site_step
copies_silently held cells = (refl, refl)

-- ---- places

-- tab 1 is at `https://a.test`, and tab 2 at `https://b.test`
abbrev places : Places
places = placed 2 (site b) (placed 1 (site a) no_places)

abbrev world : AgentWorld
world = record { partition = empty_partition; cells = no_shared_cells; rest = record { now = 7; places = places } }

-- a tab that is closed gives up its place, and the other one keeps its own
gives_up : site_at 1 (rest_after [] world (Close 1)).places ≡ None
unfolding rest_after
gives_up = get-remove nat_cmp_total places 1 1

keeps_place : site_at 2 (rest_after [] world (Close 1)).places ≡ Some (site b)
unfolding rest_after
keeps_place = get-remove nat_cmp_total places 1 2 ∙ get-insert nat_cmp_total (placed 1 (site a) no_places) 2 (site b) 2

same_clock : (rest_after [] world (Close 1)).now ≡ 7
unfolding rest_after
same_clock = refl

-- a tab that is not open is closed by none, and a line in it is refused by its own name
refused_click : (w : AgentWorld) → refusal w (Act (at_frame 3 0) Click) ≡ record { name = codes "click"; body = Plain (codes "no-tab") }
unfolding refusal
refused_click w = refl

refused_length : (w : AgentWorld) → refusal w (Act (at_frame 3 0) (Len Local)) ≡ record { name = codes "len"; body = Plain (codes "no-tab") }
unfolding refusal
refused_length w = refl
