-- What short runs reply and what they give a site, worked out by hand.
use Rattle.std.proofs.Common.{◌≡◌, true, false, refl, ap, subst, sym, ◌∙◌, List, [], ◌∷◌, Some, None}
use Rattle.std.specs.Prelude.{codes, option_map}
use Rattle.std.specs.Cmp.{nat_cmp_total}
use Rattle.std.specs.Ordering.{nat_cmp}
use Rattle.std.specs.FinMap.{nat_cmp-IsAntisymmetric, get-empty, get-insert}
use Rattle.unwinding.specs.FiniteCells.{list_of, get_cell}
use Rattle.unwinding.proofs.FiniteCellsLemmas.{get_set}
use Rattle.unwinding.specs.Durable.{DurableChange}
use Rattle.unwinding.specs.World.{SiteReply, replies}
use Rattle.origin_site.specs.Site.{PlainSite}
use Rattle.storage_key.specs.Key.{key_order}
use Rattle.storage_key.proofs.OrderLemmas.{key_order_total, key_order_same}
use Rattle.row_changes.specs.Change.{PlainChange}
use Rattle.local_area.specs.Area.{area_get, area_put}
use Rattle.local_area.specs.Put.{put_answer}
use Rattle.storage_events.specs.declared.event.AreaKind.TheVariants.{Local}
use Rattle.storage_events.specs.Event.{PlainEvent}
use Rattle.script_actions.specs.declared.words.Method.TheVariants as method
use Rattle.reply_lines.specs.Reply.{PlainBody, Cookie, Load, Text}
use Rattle.script_actions.specs.Action.{PlainAction, DocumentAction, HeadField, Open, Act, Set, Get}
use Rattle.script_actions.specs.Action as script
use Rattle.cookie_jar.specs.Sending.{joined}
use Rattle.agent_model.specs.CookieCells.{Cookies, domain_order}
use Rattle.agent_model.specs.PartitionedCells.{PartitionedKey, partitioned_order}
use Rattle.agent_model.specs.CookieUse.{CookieUse}
use Rattle.agent_model.specs.CookieUses.{script_use, top_use}
use Rattle.agent_model.specs.CookieStore.{BothCells, both_marked, cookie_texts, header_text, sent, store_texts}
use Rattle.agent_model.specs.Partition.{Holdings, no_holdings, tab_named, area_of}
use Rattle.agent_model.specs.Effects.{SharedCells, Done, no_shared_cells, ok}
use Rattle.agent_model.specs.SiteEvent.{Answer}
use Rattle.agent_model.specs.Documents.{told_tab}
use Rattle.agent_model.specs.AreaActions.{set_by, write}
use Rattle.agent_model.specs.Sessions.{arrive}
use Rattle.agent_model.specs.SiteStep.{act_in}
use Rattle.agent_model.specs.Lines.{AgentWorld, Places, User, no_places, placed, site_at}
use Rattle.agent_model.specs.TheMachine.{machine}
use Rattle.agent_model.specs.Isolation.{replies_to}
use Rattle.one_store.specs.Store.{change_of}
use Rattle.one_store.specs.WholeWorld.{whole_world, IsPlaced}
use Rattle.agent_model.proofs.CookieCellsLemmas.{get_none}
use Rattle.agent_model.proofs.CookieCellsLemmas as shared
use Rattle.agent_model.proofs.CookieRunFacts.{cookie, nothing_partitioned, own_after}
use Rattle.agent_model.proofs.PartitionedLemmas.{partitioned_order_total, partitioned_order_same}
use Rattle.agent_model.proofs.KeptLemmas as kept
use Rattle.agent_model.proofs.StandardFacts.{address, site, at_frame, stores, a}
use Rattle.agent_model.proofs.StorageFacts.{shows_a, writer, key_a, k, v, pairs}
use Rattle.one_store.proofs.ActPlacedLemmas.{act_placed}
use Rattle.one_store.proofs.WorldLemmas.{LineMakes, told_at}
use Rattle.one_store.proofs.WorldBeginningLemmas.{beginning_whole, beginning_placed}
use Rattle.one_store.proofs.WorldActLemmas.{act_makes}
use Rattle.one_store.proofs.WorldOpenLemmas.{open_makes, open_placed}

-- the replies to a line and to those behind it
then : {made : List (DurableChange PlainSite PlainChange)} (before after : AgentWorld) (action : PlainAction) (told : SiteReply PlainSite Answer) (lines : List PlainAction) → LineMakes [] before action after told made
    → replies (machine []) before (action ∷ lines) ≡ told ∷ replies (machine []) after lines
then before after action told lines makes = λ i. makes.reply i ∷ replies (machine []) (makes.world i) lines

-- ---- a load that the user opens in tab 1

-- the line, and what is done
abbrev opens : List HeadField → PlainAction
opens head = Open 1 (address a) None false method.Get head

abbrev came : List HeadField → Done
came head = arrive [] 7 (site a) 1 (address a) method.Get true head no_shared_cells no_holdings

abbrev how : CookieUse
how = top_use (site a) (address a) method.Get true

-- its partitioned cell
abbrev cell : PartitionedKey
cell = record { top = site a; bit = false; domain = a }

abbrev both : Cookies → Cookies → BothCells
both own partition = record { own = own; partition = partition }

-- it finds no cookie
came_body : (head : List HeadField) → (came head).body ≡ Load None (store_texts [] 7 how (both [] []) (cookie_texts head)).words
came_body head = λ i. answer (both (get_none a i) (nothing_partitioned cell i))
  where
    answer : BothCells → PlainBody
    answer found = Load (header_text (sent 7 how found)) (store_texts [] 7 how (both_marked 7 how found) (cookie_texts head)).words

abbrev at_a : Places
at_a = placed 1 (site a) no_places

one_is_at_a : site_at 1 at_a ≡ Some (site a)
one_is_at_a = get-insert nat_cmp_total no_places 1 (site a) 1

one_shows_a : (head : List HeadField) → tab_named 1 (came head).held ≡ Some (shows_a 1)
one_shows_a head = get-insert nat_cmp_total no_holdings.tabs 1 (shows_a 1) 1

nothing_open : site_at 1 no_places ≡ None
unfolding no_places
nothing_open = get-empty nat_cmp 1

came_placed : (head : List HeadField) → IsPlaced at_a (came head).held
came_placed head = open_placed [] 7 no_places no_shared_cells no_holdings 1 (address a) None false method.Get head true beginning_placed

-- the run of the load and other lines, from the replies to these
comes : (head : List HeadField) (lines : List PlainAction) → replies_to [] 7 (opens head ∷ lines)
    ≡ told_at (site a) (opens head) (Load None (store_texts [] 7 how (both [] []) (cookie_texts head)).words) ∷ replies (machine []) (whole_world 7 at_a (came head).cells (came head).held) lines
unfolding replies_to
comes head lines =
    ap (λ w. replies (machine []) w (opens head ∷ lines)) (sym (beginning_whole 7))
    ∙ then (whole_world 7 no_places no_shared_cells no_holdings) (whole_world 7 at_a (came head).cells (came head).held) (opens head) _ lines
    (open_makes [] 7 no_places no_shared_cells no_holdings 1 (address a) None false method.Get head User refl nothing_open)
    ∙ ap (λ body. told_at (site a) (opens head) body ∷ replies (machine []) (whole_world 7 at_a (came head).cells (came head).held) lines) (came_body head)

-- ---- a value is set and read

abbrev setting : DocumentAction
setting = Set Local k v

abbrev getting : DocumentAction
getting = Get Local k

abbrev sets : PlainAction
sets = Act (at_frame 1 0) setting

abbrev gets : PlainAction
gets = Act (at_frame 1 0) getting

-- what is held after each line
abbrev opened_held : Holdings
opened_held = (came []).held

abbrev opened_cells : SharedCells
opened_cells = (came []).cells

abbrev set_held : Holdings
set_held = (act_in [] 7 (site a) (at_frame 1 0) setting (shows_a 1) opened_cells opened_held).held

-- the area is empty, and then has the pair
empty_area : area_of Local 1 key_a opened_held ≡ []
unfolding get_cell no_holdings
empty_area = ap list_of (get-empty key_order key_a)

abbrev set_event : PlainEvent
set_event = record { area = Local; key = Some k; before = None; after = Some v; url = codes "https://a.test/" }

set_done : act_in [] 7 (site a) (at_frame 1 0) setting (shows_a 1) opened_cells opened_held ≡ write Local writer pairs set_event opened_cells opened_held
set_done = ap (λ found. set_by (put_answer k v found) Local writer k v (area_put k v found) opened_cells opened_held) empty_area

-- the page hears nothing of it
still_shows_a : tab_named 1 set_held ≡ Some (shows_a 1)
still_shows_a =
    ap (λ (done : Done). tab_named 1 done.held) set_done
    ∙ kept.get_mapped nat_cmp nat_cmp_total nat_cmp-IsAntisymmetric (told_tab Local writer set_event) opened_held.tabs 1
    ∙ ap (option_map (told_tab Local writer set_event 1)) (one_shows_a [])

reads : (act_in [] 7 (site a) (at_frame 1 0) getting (shows_a 1) opened_cells set_held).body ≡ Text (Some v)
reads =
    ap (λ (done : Done). Text (area_get k (area_of Local 1 key_a done.held))) set_done
    ∙ ap (λ found. Text (area_get k found)) (get_set key_order key_order_total key_order_same key_a key_a pairs opened_held.areas)

set_placed : IsPlaced at_a set_held
set_placed = act_placed at_a opened_cells opened_held (came_placed []) (at_frame 1 0) (shows_a 1) (one_shows_a []) [] 7 (site a) setting

-- the replies of the run, each of the site that the tab is at
last_line : replies (machine []) (whole_world 7 at_a opened_cells set_held) (gets ∷ []) ≡ told_at (site a) gets (Text (Some v)) ∷ []
last_line =
    then (whole_world 7 at_a opened_cells set_held) _ gets _ []
    (act_makes [] 7 at_a opened_cells set_held set_placed (at_frame 1 0) getting (shows_a 1) still_shows_a (site a) one_is_at_a)
    ∙ ap (λ body. told_at (site a) gets body ∷ []) reads

last_two : replies (machine []) (whole_world 7 at_a opened_cells opened_held) (sets ∷ gets ∷ []) ≡ told_at (site a) sets ok ∷ told_at (site a) gets (Text (Some v)) ∷ []
last_two =
    then (whole_world 7 at_a opened_cells opened_held) (whole_world 7 at_a opened_cells set_held) sets _ (gets ∷ [])
    (subst (λ cells. LineMakes [] (whole_world 7 at_a opened_cells opened_held) sets (whole_world 7 at_a cells set_held) (told_at (site a) sets (act_in [] 7 (site a) (at_frame 1 0) setting (shows_a 1) opened_cells opened_held).body) (change_of (site a) (act_in [] 7 (site a) (at_frame 1 0) setting (shows_a 1) opened_cells opened_held).changes))
    (ap (λ (done : Done). done.cells) set_done)
    (act_makes [] 7 at_a opened_cells opened_held (came_placed []) (at_frame 1 0) setting (shows_a 1) (one_shows_a []) (site a) one_is_at_a))
    ∙ λ i. told_at (site a) sets (set_done i).body ∷ last_line i

set_and_read : replies_to [] 7 (opens [] ∷ sets ∷ gets ∷ []) ≡ told_at (site a) (opens []) (Load None []) ∷ told_at (site a) sets ok ∷ told_at (site a) gets (Text (Some v)) ∷ []
set_and_read = comes [] (sets ∷ gets ∷ []) ∙ ap (λ more. told_at (site a) (opens []) (Load None []) ∷ more) last_two

-- ---- a cookie is stored and read

abbrev response : List HeadField
response = stores (codes "s=1")

abbrev reading : PlainAction
reading = Act (at_frame 1 0) script.Cookie

-- the domain has the cookie, and nothing is partitioned
stored_own : get_cell domain_order (came response).cells a ≡ cookie (codes "s") ∷ []
stored_own = shared.get_set a a _ no_shared_cells ∙ λ i. own_after (site a) (address a) (codes "s=1") (get_none a i) (nothing_partitioned cell i)

stored_apart : get_cell partitioned_order (came response).held.cookies cell ≡ []
stored_apart =
    get_set partitioned_order partitioned_order_total partitioned_order_same cell cell _ no_holdings.cookies
    ∙ λ i. (store_texts [] 7 how (both_marked 7 how (both (get_none a i) (nothing_partitioned cell i))) (cookie_texts response)).both.partition

cookie_read : (act_in [] 7 (site a) (at_frame 1 0) script.Cookie (shows_a 1) (came response).cells (came response).held).body ≡ Cookie (codes "s=1")
cookie_read = λ i. Cookie (joined (sent 7 (script_use (site a) writer) (both (stored_own i) (stored_apart i))))

stored_and_read : replies_to [] 7 (opens response ∷ reading ∷ []) ≡ told_at (site a) (opens response) (Load None (codes "added" ∷ [])) ∷ told_at (site a) reading (Cookie (codes "s=1")) ∷ []
stored_and_read =
    comes response (reading ∷ [])
    ∙ ap (λ more. told_at (site a) (opens response) (Load None (codes "added" ∷ [])) ∷ more)
    (then (whole_world 7 at_a (came response).cells (came response).held) _ reading _ []
    (act_makes [] 7 at_a (came response).cells (came response).held (came_placed response) (at_frame 1 0) script.Cookie (shows_a 1) (one_shows_a response) (site a) one_is_at_a)
    ∙ ap (λ body. told_at (site a) reading body ∷ []) cookie_read)
