-- The events that wait for documents, worked out by hand: who is told, what a document that goes
-- takes with it, and what taking gives and leaves.
-- Source: HTML, "The StorageEvent interface" and "Web storage", the broadcast of a storage object (a
-- task is queued for each document of the audience); "Destroying documents" (the tasks of a
-- destroyed document are removed); "Navigation" (a document is replaced by another).
-- Our own choice: events wait in a queue for each document, in place of tasks. A queue holds 1,024.
use Rattle.std.proofs.Common.{◌≡◌, ℕ, true, false, List, [], ◌∷◌, Some, None, refl, ap, ◌∙◌}
use Rattle.std.specs.Prelude.{codes, option_map, replicate}
use Rattle.std.specs.Cmp.{nat_cmp_total}
use Rattle.std.specs.FinMap.{get-insert, get-remove, nat_cmp-IsAntisymmetric}
use Rattle.std.specs.Ordering.{nat_cmp}
use Rattle.frame_tree.specs.Calls.{opened}
use Rattle.frame_tree.specs.Document.{loaded}
use Rattle.frame_tree.specs.Sandbox.{unrestricted}
use Rattle.frame_tree.specs.Tree.{PlainFrame}
use Rattle.live_state.specs.Tabs.{PlainFrameQueue, PlainTab, made_tab}
use Rattle.storage_events.specs.Event.{PlainEvent}
use Rattle.storage_events.specs.declared.event.AreaKind.TheVariants.{Local, Session}
use Rattle.script_actions.specs.Action.{Clear, Click, Drop, Events, Frame, Nav}
use Rattle.script_actions.specs.declared.words.Method.TheVariants as method
use Rattle.reply_lines.specs.Reply as reply
use Rattle.agent_model.specs.Documents.{Keyed, told_tab}
use Rattle.agent_model.specs.Effects.{SharedCells, answers}
use Rattle.agent_model.specs.Partition.{Holdings, tab_named, with_area, with_tab}
use Rattle.agent_model.specs.Queues.{take_events}
use Rattle.agent_model.specs.SiteEvent.{Arrives, Goes, Leaves}
use Rattle.agent_model.specs.SiteStep.{act_in, site_step}
use Rattle.agent_model.specs.TabChanges.{Framed, Gone, goes_by}
use Rattle.agent_model.proofs.KeptLemmas as kept
use Rattle.agent_model.proofs.StandardFacts.{a, address, at_frame, at_seven, b, shown, site, widget}
use Rattle.agent_model.proofs.StorageFacts.{key_a, shows_a}
use Rattle.model_facts.proofs.Names.{at_address, event, none_waits, one_waits, site_with, two_lost}

-- ---- names

-- a page of `https://a.test/` in tab 1: below it another one in frame 1 and in frame 3, and in
-- frame 2, below frame 1, a widget of `https://w.test`
abbrev frames : List PlainFrame
frames = at_address 0 0 (address a) ∷ at_address 1 0 (address a) ∷ at_address 2 1 (address widget) ∷ at_address 3 0 (address a) ∷ []

-- for each an event waits, and frame 1 lost two
abbrev waiting : PlainTab
waiting = record { number = 1; frames = frames; queues = one_waits 0 ∷ two_lost 1 ∷ one_waits 2 ∷ one_waits 3 ∷ [] }

-- no event waits for any
abbrev quiet : PlainTab
quiet = record { number = 1; frames = frames; queues = none_waits 0 ∷ none_waits 1 ∷ none_waits 2 ∷ none_waits 3 ∷ [] }

-- the document of frame 3, which writes
abbrev writer : Keyed
writer = record { at = at_frame 1 3; document = loaded [] unrestricted false (address a); key = key_a }

-- ---- who is told: two queues in one tab

-- of a local area each other document of the writer's key, and not the widget
two_are_told : told_tab Local writer event 1 quiet ≡ record quiet { queues = one_waits 0 ∷ one_waits 1 ∷ none_waits 2 ∷ none_waits 3 ∷ [] }
two_are_told = refl

-- of a session area the same ones, in this tab, and none in another
two_of_the_tab : told_tab Session writer event 1 quiet ≡ record quiet { queues = one_waits 0 ∷ one_waits 1 ∷ none_waits 2 ∷ none_waits 3 ∷ [] }
two_of_the_tab = refl

none_elsewhere : told_tab Session writer event 2 (shows_a 2) ≡ shows_a 2
none_elsewhere = refl

-- an opaque document hears of no change
abbrev boxed : PlainTab
boxed = made_tab 1 (shown a (Some (codes "allow-scripts"))) None None

opaque_hears_none : told_tab Local writer event 1 boxed ≡ record boxed { queues = one_waits 0 ∷ none_waits 1 ∷ [] }
opaque_hears_none = refl

-- an event waits behind those that wait already, and leaves the count of lost ones
behind_others : told_tab Local writer event 1 waiting
    ≡ record waiting { queues = record (one_waits 0) { events = event ∷ event ∷ [] } ∷ record (two_lost 1) { events = event ∷ event ∷ [] } ∷ one_waits 2 ∷ one_waits 3 ∷ [] }
behind_others = refl

-- the same by a line that clears the area
abbrev cleared : PlainEvent
cleared = record { area = Local; key = None; before = None; after = None; url = codes "https://a.test/" }

abbrev hears_clear : ℕ → PlainFrameQueue
hears_clear number = record { frame = number; events = cleared ∷ []; lost = 0 }

told_by_a_line : (cells : SharedCells) (held : Holdings) → tab_named 1 (act_in [] 7 (site a) (at_frame 1 3) (Clear Local) quiet cells (with_tab 1 quiet held)).held
    ≡ Some (record quiet { queues = hears_clear 0 ∷ hears_clear 1 ∷ none_waits 2 ∷ none_waits 3 ∷ [] })
told_by_a_line cells held =
    kept.get_mapped nat_cmp nat_cmp_total nat_cmp-IsAntisymmetric (told_tab Local writer cleared) (with_area Local 1 key_a [] (with_tab 1 quiet held)).tabs 1
    ∙ ap (option_map (told_tab Local writer cleared 1)) (get-insert nat_cmp_total held.tabs 1 quiet 1)

-- ---- what goes with a document

-- a frame that goes to another address: what waited for its document is gone, and for the document
-- below, which goes too; the others keep theirs
after_nav : (cells : SharedCells) (held : Holdings) → tab_named 1 (act_in [] 7 (site a) (at_frame 1 1) (Nav (address b) false method.Get []) waiting cells held).held
    ≡ Some (record {
      number = 1;
      frames = at_address 0 0 (address a) ∷ at_address 1 0 (address b) ∷ at_address 3 0 (address a) ∷ [];
      queues = one_waits 0 ∷ none_waits 1 ∷ one_waits 3 ∷ [];
    })
after_nav cells held = get-insert nat_cmp_total held.tabs 1 _ 1

-- so also where it goes to the address that it had
after_reload : (cells : SharedCells) (held : Holdings) → tab_named 1 (act_in [] 7 (site a) (at_frame 1 3) (Nav (address a) true method.Get []) waiting cells held).held
    ≡ Some (record waiting { queues = one_waits 0 ∷ two_lost 1 ∷ one_waits 2 ∷ none_waits 3 ∷ [] })
after_reload cells held = get-insert nat_cmp_total held.tabs 1 _ 1

-- a frame that is removed takes what waited for it and for the frame below
abbrev dropped : PlainTab
dropped = record { number = 1; frames = at_address 0 0 (address a) ∷ at_address 3 0 (address a) ∷ []; queues = one_waits 0 ∷ one_waits 3 ∷ [] }

after_drop : (cells : SharedCells) (held : Holdings) → tab_named 1 (act_in [] 7 (site a) (at_frame 1 1) Drop waiting cells held).held ≡ Some dropped
after_drop cells held = get-insert nat_cmp_total held.tabs 1 _ 1

-- and where its number comes back, nothing waits for it
after_return : (cells : SharedCells) (held : Holdings) → tab_named 1 (act_in [] 7 (site a) (at_frame 1 1) (Frame 0 (address a) None false []) dropped cells held).held
    ≡ Some (record {
      number = 1;
      frames = at_address 0 0 (address a) ∷ at_address 3 0 (address a) ∷ at_address 1 0 (address a) ∷ [];
      queues = one_waits 0 ∷ one_waits 3 ∷ none_waits 1 ∷ [];
    })
after_return cells held = get-insert nat_cmp_total held.tabs 1 _ 1

-- a click leaves every queue
after_click : (cells : SharedCells) (held : Holdings) → option_map (λ tab. tab.queues) (tab_named 1 (act_in [] 7 (site a) (at_frame 1 3) Click waiting cells held).held) ≡ Some waiting.queues
after_click cells held = ap (option_map (λ tab. tab.queues)) (get-insert nat_cmp_total held.tabs 1 _ 1)

-- what these lines leave of another tab is all of it
other_tab_keeps : (cells : SharedCells) (held : Holdings) → tab_named 2 (act_in [] 7 (site a) (at_frame 1 1) (Nav (address b) false method.Get []) waiting cells held).held ≡ tab_named 2 held
other_tab_keeps cells held = get-insert nat_cmp_total held.tabs 1 _ 2

-- a tab that goes to an address, be it of its own site, has a fresh top document and no other: what
-- waited for any document is gone. Another tab keeps its queues.
after_go : (cells : SharedCells) (held : Holdings) → tab_named 1 (site_step [] (site_with (with_tab 1 waiting held)) cells (at_seven (Arrives Goes 1 (address a) method.Get true []))).partition.held
    ≡ Some (record { number = 1; frames = opened [] (address a); queues = none_waits 0 ∷ [] })
unfolding site_step
after_go cells held = get-insert nat_cmp_total (with_tab 1 waiting held).tabs 1 _ 1

go_of_another : (cells : SharedCells) (held : Holdings) → tab_named 1 (site_step [] (site_with (with_tab 1 waiting held)) cells (at_seven (Arrives Goes 2 (address a) method.Get true []))).partition.held ≡ Some waiting
unfolding site_step
go_of_another cells held = get-insert nat_cmp_total (with_tab 1 waiting held).tabs 2 _ 1 ∙ get-insert nat_cmp_total held.tabs 1 waiting 1

-- of a tab that leaves for another site nothing is left there
after_leaving : (cells : SharedCells) (held : Holdings) → tab_named 1 (site_step [] (site_with (with_tab 1 waiting held)) cells (at_seven (Leaves 1))).partition.held ≡ None
unfolding site_step
after_leaving cells held = get-remove nat_cmp_total (with_tab 1 waiting held).tabs 1 1

-- every document of a tab that is gone goes, and no other; of one that has these frames those that are
-- not among them, and the one that is fresh
all_go : (goes_by 1 Gone (at_frame 1 3) ≡ true) × (goes_by 1 Gone (at_frame 2 1) ≡ false)
all_go = (refl, refl)

some_go : (goes_by 1 (Framed frames (Some 1) None) (at_frame 1 1) ≡ true) × (goes_by 1 (Framed frames (Some 1) None) (at_frame 1 3) ≡ false) × (goes_by 1 (Framed frames (Some 1) None) (at_frame 1 7) ≡ true)
some_go = (refl, refl, refl)

-- ---- what taking gives and leaves

-- the events of one document, with the count of lost ones; the other queues of its tab stay
one_is_taken : (cells : SharedCells) (held : Holdings) → act_in [] 7 (site a) (at_frame 1 1) Events waiting cells held
    ≡ answers (reply.Events (event ∷ []) 2) cells (with_tab 1 (record waiting { queues = one_waits 0 ∷ none_waits 1 ∷ one_waits 2 ∷ one_waits 3 ∷ [] }) held)
one_is_taken cells held = refl

-- then nothing waits for it, and nothing counts as lost
taken_again : (cells : SharedCells) (held : Holdings) → (act_in [] 7 (site a) (at_frame 1 1) Events (record waiting { queues = one_waits 0 ∷ none_waits 1 ∷ one_waits 2 ∷ one_waits 3 ∷ [] }) cells held).body ≡ reply.Events [] 0
taken_again cells held = refl

-- an opaque document may ask, and has none; a frame that is not there may not
opaque_takes : (cells : SharedCells) (held : Holdings) → (act_in [] 7 (site a) (at_frame 1 1) Events boxed cells held).body ≡ reply.Events [] 0
opaque_takes cells held = refl

absent_takes : (cells : SharedCells) (held : Holdings) → act_in [] 7 (site a) (at_frame 1 7) Events boxed cells held ≡ answers (reply.Plain (codes "no-frame")) cells held
absent_takes cells held = refl

-- ---- what is lost

-- 1,023 and 1,024 events wait for the top document of tab 2
abbrev with_events : ℕ → ℕ → PlainTab
with_events number lost = record (shows_a 2) { queues = record { frame = 0; events = replicate number event; lost = lost } ∷ [] }

-- the 1,024th waits, and the 1,025th is lost and counted
last_waits : told_tab Local writer event 2 (with_events 1023 0) ≡ with_events 1024 0
last_waits = refl

next_is_lost : told_tab Local writer event 2 (with_events 1024 0) ≡ with_events 1024 1
next_is_lost = refl

-- taking tells it, and then one waits again
loss_is_told : (cells : SharedCells) (held : Holdings) → take_events (at_frame 2 0) (with_events 1024 1) cells held ≡ answers (reply.Events (replicate 1024 event) 1) cells (with_tab 2 (shows_a 2) held)
loss_is_told cells held = refl

waits_again : told_tab Local writer event 2 (shows_a 2) ≡ with_events 1 0
waits_again = refl
