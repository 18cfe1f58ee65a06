-- Areas, buckets, session areas and events, worked out by hand from the rules.
use Rattle.std.proofs.Common.{◌≡◌, ℕ, false, cond, refl, ap, ◌∙◌, List, [], ◌∷◌, Some, None}
use Rattle.std.specs.Prelude.{codes, nat_lt, option_map}
use Rattle.std.specs.Cmp.{nat_cmp_total}
use Rattle.std.specs.Ordering.{nat_cmp}
use Rattle.std.specs.FinMap as finite
use Rattle.std.specs.FinMap.{nat_cmp-IsAntisymmetric, get-empty, get-insert}
use Rattle.unwinding.specs.FiniteCells.{list_of, get_cell}
use Rattle.unwinding.proofs.FiniteCellsLemmas.{get_set}
use Rattle.origin_site.specs.Origin.{origin_of_address}
use Rattle.storage_key.specs.Key.{PlainKey, key_order}
use Rattle.storage_key.proofs.OrderLemmas.{key_order_total, key_order_same}
use Rattle.frame_tree.specs.Calls.{opened}
use Rattle.frame_tree.specs.Document.{PlainDocument, loaded}
use Rattle.frame_tree.specs.Sandbox.{both, sandbox_of, unrestricted}
use Rattle.local_area.specs.Area.{Pair, quota, area_get, area_put, area_remove, area_weight}
use Rattle.local_area.specs.Put.{put_answer}
use Rattle.storage_events.specs.declared.event.AreaKind.{AreaKind}
use Rattle.storage_events.specs.declared.event.AreaKind.TheVariants.{Local, Session}
use Rattle.storage_events.specs.Event.{PlainEvent}
use Rattle.live_state.specs.Tabs.{PlainTab, made_tab}
use Rattle.reply_lines.specs.Reply as reply
use Rattle.agent_model.specs.Partition.{Holdings, Tabs, no_holdings, session_order, tab_named, with_tab, area_of, with_area}
use Rattle.row_changes.specs.Change.{AreaPut, AreaRemove, AreaClear}
use Rattle.agent_model.specs.Effects.{SharedCells, Done, Effect, no_shared_cells, answers, ok}
use Rattle.agent_model.specs.Changes.{changes_of_write, durable_in}
use Rattle.agent_model.specs.Documents.{Keyed, with_document, with_key, told_tab}
use Rattle.agent_model.specs.AreaActions.{change_event, write, store, set_by, set_item, remove_by, remove_item, clear_area}
use Rattle.agent_model.specs.Queues.{take_events}
use Rattle.agent_model.proofs.KeptLemmas as kept
use Rattle.agent_model.proofs.HoldingsLemmas.{with_area_tabs}
use Rattle.agent_model.proofs.StandardFacts.{address, site, at_frame, a, shown, widget}

-- ---- names

-- tabs 1 and 2 both show `https://a.test/`
abbrev pub shows_a : ℕ → PlainTab
shows_a number = made_tab number (opened [] (address a)) None None

abbrev pub two_tabs : Holdings
two_tabs = with_tab 1 (shows_a 1) (with_tab 2 (shows_a 2) no_holdings)

-- its document in tab 1 acts
abbrev pub key_a : PlainKey
key_a = record { origin = origin_of_address (address a); top = site a; bit = false }

abbrev pub writer : Keyed
writer = record { at = at_frame 1 0; document = loaded [] unrestricted false (address a); key = key_a }

abbrev pub k : List ℕ
k = codes "k"

abbrev pub v : List ℕ
v = codes "v"

abbrev pub pairs : List Pair
pairs = record { name = k; value = v } ∷ []

-- its area has a pair
abbrev written : AreaKind → Holdings
written kind = with_area kind 1 key_a pairs two_tabs

local_pairs : area_of Local 1 key_a (written Local) ≡ pairs
local_pairs = get_set key_order key_order_total key_order_same key_a key_a pairs two_tabs.areas

-- before that it is empty
no_pairs : (kind : AreaKind) → area_of kind 1 key_a two_tabs ≡ []
unfolding get_cell no_holdings
no_pairs Local = ap list_of (get-empty key_order key_a)
no_pairs Session = ap list_of (get-empty session_order (1, key_a))

-- ---- who may act

acts : (action : Keyed → Effect) → with_key (at_frame 1 0) (shows_a 1) action ≡ action writer
acts action = refl

abbrev sandboxed : PlainTab
sandboxed = made_tab 1 (shown a (Some [])) None None

opaque : (action : Keyed → Effect) → with_key (at_frame 1 1) sandboxed action ≡ answers (reply.Plain (codes "security"))
opaque action = refl

absent : (action : Keyed → Effect) → with_key (at_frame 1 2) sandboxed action ≡ answers (reply.Plain (codes "no-frame"))
absent action = refl

-- what asks for no key is done by an opaque document, too
keyless : (action : PlainDocument → Effect) → with_document (at_frame 1 1) sandboxed action ≡ action (loaded [] (both unrestricted (sandbox_of (Some []))) false (address widget))
keyless action = refl

-- ---- changes and their events

-- a value that is there already changes nothing and is told to nobody
same_value : set_item Local k v writer no_shared_cells (written Local) ≡ answers ok no_shared_cells (written Local)
same_value = ap (λ found. set_by (put_answer k v found) Local writer k v (area_put k v found) no_shared_cells (written Local)) local_pairs

-- another value is an event with both
other_value : set_item Local k k writer no_shared_cells (written Local)
    ≡ write Local writer (record { name = k; value = k } ∷ []) (record { area = Local; key = Some k; before = Some v; after = Some k; url = codes "https://a.test/" }) no_shared_cells (written Local)
other_value = ap (λ found. set_by (put_answer k k found) Local writer k k (area_put k k found) no_shared_cells (written Local)) local_pairs

-- so is a removal, and that of an absent name is none
removed : remove_item Local k writer no_shared_cells (written Local)
    ≡ write Local writer [] (record { area = Local; key = Some k; before = Some v; after = None; url = codes "https://a.test/" }) no_shared_cells (written Local)
removed =
    ap (λ found. remove_by (area_get k found) Local writer k no_shared_cells (written Local)) local_pairs
    ∙ ap (λ found. write Local writer (area_remove k found) (change_event Local writer (Some k) (Some v) None) no_shared_cells (written Local)) local_pairs

removed_none : remove_item Local v writer no_shared_cells (written Local) ≡ answers ok no_shared_cells (written Local)
removed_none = ap (λ found. remove_by (area_get v found) Local writer v no_shared_cells (written Local)) local_pairs

-- ---- row changes

-- a value that is set is one, and the same value once more is none
put : (set_item Local k v writer no_shared_cells two_tabs).changes ≡ AreaPut key_a k v ∷ []
put = ap (λ found. (set_by (put_answer k v found) Local writer k v (area_put k v found) no_shared_cells two_tabs).changes) (no_pairs Local)

put_twice : (set_item Local k v writer no_shared_cells (written Local)).changes ≡ []
put_twice = ap (λ (done : Done). done.changes) same_value

put_over : (set_item Local k k writer no_shared_cells (written Local)).changes ≡ AreaPut key_a k k ∷ []
put_over = ap (λ (done : Done). done.changes) other_value

-- so is a removal, and that of an absent name is none
taken_out : (remove_item Local k writer no_shared_cells (written Local)).changes ≡ AreaRemove key_a k ∷ []
taken_out = ap (λ (done : Done). done.changes) removed

taken_out_none : (remove_item Local v writer no_shared_cells (written Local)).changes ≡ []
taken_out_none = ap (λ (done : Done). done.changes) removed_none

-- and a clear, but that of an empty area
emptied : (clear_area Local writer no_shared_cells (written Local)).changes ≡ AreaClear key_a ∷ []
emptied = ap (λ found. durable_in Local (changes_of_write key_a None None found)) local_pairs

emptied_none : (clear_area Local writer no_shared_cells two_tabs).changes ≡ []
emptied_none = ap (λ found. durable_in Local (changes_of_write key_a None None found)) (no_pairs Local)

-- a session area has none
session_put : (set_item Session k v writer no_shared_cells two_tabs).changes ≡ []
session_put = ap (λ found. (set_by (put_answer k v found) Session writer k v (area_put k v found) no_shared_cells two_tabs).changes) (no_pairs Session)

session_emptied : (clear_area Session writer no_shared_cells (written Session)).changes ≡ []
session_emptied = refl

-- ---- the quota and the events

-- five mebibytes are stored, and one byte more is not
fits : (heavy : List Pair) (event : PlainEvent) (cells : SharedCells) (held : Holdings) → area_weight heavy ≡ 5242880 → store Local writer heavy event cells held ≡ write Local writer heavy event cells held
fits heavy event cells held weighs = ap (λ weight. cond (nat_lt quota weight) (answers (reply.Plain (codes "quota")) cells held) (write Local writer heavy event cells held)) weighs

over : (heavy : List Pair) (event : PlainEvent) (cells : SharedCells) (held : Holdings) → area_weight heavy ≡ 5242881 → store Local writer heavy event cells held ≡ answers (reply.Plain (codes "quota")) cells held
over heavy event cells held weighs = ap (λ weight. cond (nat_lt quota weight) (answers (reply.Plain (codes "quota")) cells held) (write Local writer heavy event cells held)) weighs

-- a clear of an empty area is an event
abbrev cleared : AreaKind → PlainEvent
cleared kind = record { area = kind; key = None; before = None; after = None; url = codes "https://a.test/" }

abbrev shows_a_told : ℕ → PlainTab
shows_a_told number = record (shows_a number) { queues = record { frame = 0; events = cleared Local ∷ []; lost = 0 } ∷ [] }

tab_one : tab_named 1 two_tabs ≡ Some (shows_a 1)
tab_one = get-insert nat_cmp_total (with_tab 2 (shows_a 2) no_holdings).tabs 1 (shows_a 1) 1

tab_two : tab_named 2 two_tabs ≡ Some (shows_a 2)
tab_two = get-insert nat_cmp_total (with_tab 2 (shows_a 2) no_holdings).tabs 1 (shows_a 1) 2 ∙ get-insert nat_cmp_total no_holdings.tabs 2 (shows_a 2) 2

after_clear : (kind : AreaKind) (number : ℕ) → tab_named number (clear_area kind writer no_shared_cells two_tabs).held ≡ option_map (told_tab kind writer (cleared kind) number) (tab_named number two_tabs)
after_clear kind number =
    kept.get_mapped nat_cmp nat_cmp_total nat_cmp-IsAntisymmetric (told_tab kind writer (cleared kind)) (with_area kind 1 key_a [] two_tabs).tabs number
    ∙ ap (λ (tabs : Tabs). option_map (told_tab kind writer (cleared kind) number) (finite.get tabs number)) (with_area_tabs kind 1 key_a [] two_tabs)

-- the other tab hears of a local area
hears : tab_named 2 (clear_area Local writer no_shared_cells two_tabs).held ≡ Some (shows_a_told 2)
hears = after_clear Local 2 ∙ ap (option_map (told_tab Local writer (cleared Local) 2)) tab_two

-- the writer does not
hears_not : tab_named 1 (clear_area Local writer no_shared_cells two_tabs).held ≡ Some (shows_a 1)
hears_not = after_clear Local 1 ∙ ap (option_map (told_tab Local writer (cleared Local) 1)) tab_one

-- and of a session area nobody hears in another tab
session_apart : tab_named 2 (clear_area Session writer no_shared_cells two_tabs).held ≡ Some (shows_a 2)
session_apart = after_clear Session 2 ∙ ap (option_map (told_tab Session writer (cleared Session) 2)) tab_two

-- events are given once
taken : (cells : SharedCells) (held : Holdings) → take_events (at_frame 2 0) (shows_a_told 2) cells held ≡ answers (reply.Events (cleared Local ∷ []) 0) cells (with_tab 2 (shows_a 2) held)
taken cells held = refl

taken_twice : (cells : SharedCells) (held : Holdings) → take_events (at_frame 2 0) (shows_a 2) cells held ≡ answers (reply.Events [] 0) cells (with_tab 2 (shows_a 2) held)
taken_twice cells held = refl
