-- Values worked out by hand from the standard's steps and from this repository's own choices.
use Rattle.std.proofs.Common.{◌≡◌, ℕ, refl, List, [], ◌∷◌, ◌++◌, Some, None, true, false}
use Rattle.std.specs.Prelude.{codes, replicate}
use Rattle.storage_events.specs.Event.{PlainEvent}
use Rattle.storage_events.specs.declared.event.AreaKind.TheVariants.{Local, Session}
use Rattle.origin_site.specs.Address.{PlainAddress}
use Rattle.agent_base.specs.declared.refusals.Label.{Label}
use Rattle.storage_key.specs.Key.{PlainKey}
use Rattle.frame_tree.specs.Sandbox.{unrestricted}
use Rattle.frame_tree.specs.Document.{loaded}
use Rattle.frame_tree.specs.Tree.{PlainFrame}
use Rattle.live_state.specs.Tabs.{PlainLive, PlainFrameQueue, PlainTab, is_open, is_reserved, is_rising, next_tab, room_dropped, room_put, tabs_put, without_tab}
use Rattle.live_state.specs.Documents.{documents, frame_numbers}
use Rattle.live_state.specs.Hearers.{hearers}
use Rattle.live_state.specs.Queues.{are_distinct, goes, has_document, is_ready, is_told, queue_at, sent, taken}

-- a value that changed
abbrev change : PlainEvent
change = record {
  area = Local;
  key = Some (codes "k");
  before = None;
  after = Some (codes "v");
  url = codes "https://a.test/";
}

abbrev address : PlainAddress
address = record {
  text = codes "https://a.test/";
  https = true;
  ip = false;
  host = codes "a.test";
  port = 443;
  path = codes "/";
}

-- a frame below the top, or the top
abbrev frame : ℕ → PlainFrame
frame number = record { frame = number; parent = 0; document = loaded [] unrestricted false address }

-- a queue in which one event waits, and one that lost some
abbrev waiting : ℕ → PlainFrameQueue
waiting number = record { frame = number; events = change ∷ []; lost = 0 }

abbrev lost : ℕ → PlainFrameQueue
lost number = record { frame = number; events = []; lost = 3 }

abbrev empty : ℕ → PlainFrameQueue
empty number = record { frame = number; events = []; lost = 0 }

-- tab 2 has a top and two frames below, tab 7 a top alone
abbrev two : PlainTab
two = record { number = 2; frames = frame 0 ∷ frame 5 ∷ frame 1 ∷ []; queues = waiting 0 ∷ lost 5 ∷ waiting 1 ∷ [] }

abbrev seven : PlainTab
seven = record { number = 7; frames = frame 0 ∷ []; queues = waiting 0 ∷ [] }

abbrev tabs : List PlainTab
tabs = two ∷ seven ∷ []

numbers_rise : is_rising tabs ≡ true
numbers_rise = refl

equal_numbers_do_not_rise : is_rising (two ∷ two ∷ []) ≡ false
equal_numbers_do_not_rise = refl

first_tab : next_tab None tabs ≡ Some 2
first_tab = refl

tab_after_another : next_tab (Some 2) tabs ≡ Some 7
tab_after_another = refl

no_tab_after_the_last : next_tab (Some 7) tabs ≡ None
no_tab_after_the_last = refl

-- a navigation of frame 5 empties its queue alone
navigation : tabs_put 2 (frame 0 ∷ frame 5 ∷ frame 1 ∷ []) (Some 5) tabs
    ≡ record two { queues = waiting 0 ∷ empty 5 ∷ waiting 1 ∷ [] } ∷ seven ∷ []
navigation = refl

-- a frame that goes takes its queue with it, and comes back with an empty one
removal : tabs_put 2 (frame 0 ∷ frame 1 ∷ []) None tabs
    ≡ record two { frames = frame 0 ∷ frame 1 ∷ []; queues = waiting 0 ∷ waiting 1 ∷ [] } ∷ seven ∷ []
removal = refl

number_that_comes_back : tabs_put 2 (frame 0 ∷ frame 1 ∷ frame 5 ∷ []) None (tabs_put 2 (frame 0 ∷ frame 1 ∷ []) None tabs)
    ≡ record two { frames = frame 0 ∷ frame 1 ∷ frame 5 ∷ []; queues = waiting 0 ∷ waiting 1 ∷ empty 5 ∷ [] } ∷ seven ∷ []
number_that_comes_back = refl

-- a new top document, with no frame below
top_goes : tabs_put 2 (frame 0 ∷ []) (Some 0) tabs
    ≡ record two { frames = frame 0 ∷ []; queues = empty 0 ∷ [] } ∷ seven ∷ []
top_goes = refl

tab_between : tabs_put 5 (frame 0 ∷ []) None tabs
    ≡ two ∷ record { number = 5; frames = frame 0 ∷ []; queues = empty 0 ∷ [] } ∷ seven ∷ []
tab_between = refl

closed_tab : without_tab 2 tabs ≡ seven ∷ []
closed_tab = refl

open_and_closed : (is_open 7 tabs ≡ true) × (is_open 3 tabs ≡ false)
open_and_closed = (refl, refl)

-- there is room for one tab more, and for one more at one of two sites
abbrev roomy : PlainLive
roomy = record {
  tabs = tabs;
  ready = [];
  room = 1;
  sites = (record { https = true; host = codes "a.test" }, true) ∷ (record { https = true; host = codes "b.test" }, false) ∷ [];
}

reserved : (is_reserved 2 two.frames roomy ≡ true) × (is_reserved 3 two.frames roomy ≡ true)
    × (is_reserved 3 two.frames (record roomy { room = 0 }) ≡ false) × (is_reserved 2 two.frames (record roomy { room = 0 }) ≡ true)
reserved = (refl, refl, refl, refl)

-- a top at a site for which there is no room
reserved_at_another_site : is_reserved 2 (record (frame 0) {
  document = loaded [] unrestricted false (record address { text = codes "https://b.test/"; host = codes "b.test" });
} ∷ []) roomy ≡ false
reserved_at_another_site = refl

room_after_put : (room_put 2 roomy ≡ 1) × (room_put 3 roomy ≡ 0)
room_after_put = (refl, refl)

room_after_drop : (room_dropped 2 roomy ≡ 2) × (room_dropped 3 roomy ≡ 1)
room_after_drop = (refl, refl)

-- ---- documents and their keys

-- a frame below the top whose document is opaque
abbrev opaque : ℕ → PlainFrame
opaque number = record { frame = number; parent = 0; document = loaded [] (record { same_origin = false; storage_access = true }) false address }

abbrev label : ℕ → ℕ → Label
label tab frame = record { tab = tab; frame = frame }

-- all documents are of one origin and one site, so all have this key
abbrev key : PlainKey
key = record {
  origin = record { https = true; ip = false; host = codes "a.test"; port = 443 };
  top = record { https = true; host = codes "a.test" };
  bit = false;
}

documents_by_number : documents tabs ≡ (label 2 0, key) ∷ (label 2 1, key) ∷ (label 2 5, key) ∷ (label 7 0, key) ∷ []
unfolding frame_numbers
documents_by_number = refl

opaque_document_has_no_key : documents (record { number = 2; frames = frame 0 ∷ opaque 1 ∷ []; queues = [] } ∷ []) ≡ (label 2 0, key) ∷ []
unfolding frame_numbers
opaque_document_has_no_key = refl

-- a tab whose top is at another site, with a document of the first site below, which is not first party
abbrev at_another_site : PlainFrame
at_another_site = record (frame 0) {
  document = loaded [] unrestricted false (record address { text = codes "https://b.test/"; host = codes "b.test" });
}

abbrev nine : PlainTab
nine = record { number = 9; frames = at_another_site ∷ frame 1 ∷ []; queues = empty 0 ∷ empty 1 ∷ [] }

-- the frames of tab 9 hear of no change at the other site, and those of two tabs of one site hear
local_change : hearers Local (label 7 0) key (tabs ++ nine ∷ []) ≡ label 2 0 ∷ label 2 1 ∷ label 2 5 ∷ []
unfolding frame_numbers
local_change = refl

session_change : hearers Session (label 2 0) key (tabs ++ nine ∷ []) ≡ label 2 1 ∷ label 2 5 ∷ []
unfolding frame_numbers
session_change = refl

-- ---- events

event_for_two : sent ((label 7 0, change) ∷ (label 2 5, change) ∷ []) tabs
    ≡ record two { queues = waiting 0 ∷ record (lost 5) { events = change ∷ [] } ∷ waiting 1 ∷ [] }
    ∷ record seven { queues = record (waiting 0) { events = change ∷ change ∷ [] } ∷ [] } ∷ []
event_for_two = refl

event_for_no_document : sent ((label 3 0, change) ∷ (label 7 5, change) ∷ []) tabs ≡ tabs
event_for_no_document = refl

-- a queue of 1,024 events, and one more
full : PlainFrameQueue
full = record { frame = 0; events = replicate 1024 change; lost = 0 }

event_is_lost : queue_at (sent ((label 1 0, change) ∷ []) (record { number = 1; frames = frame 0 ∷ []; queues = full ∷ [] } ∷ [])) (label 1 0)
    ≡ record full { lost = 1 }
unfolding full
event_is_lost = refl

taken_from_one : taken (label 2 1) tabs ≡ record two { queues = waiting 0 ∷ lost 5 ∷ empty 1 ∷ [] } ∷ seven ∷ []
taken_from_one = refl

document_that_is_there : (has_document tabs (label 2 5) ≡ true) × (has_document tabs (label 7 5) ≡ false) × (has_document tabs (label 3 0) ≡ false)
document_that_is_there = (refl, refl, refl)

ready_document : (is_ready (record { tabs = tabs; ready = record { number = 2; frames = 5 ∷ [] } ∷ []; room = 0; sites = [] }) (label 2 5) ≡ true)
    × (is_ready (record { tabs = tabs; ready = record { number = 2; frames = 5 ∷ [] } ∷ []; room = 0; sites = [] }) (label 2 0) ≡ false)
ready_document = (refl, refl)

-- frame 5 has a fresh document, and frame 1 is not there
documents_that_go : (goes 2 (frame 0 ∷ frame 5 ∷ []) (Some 5) (label 2 5) ≡ true) × (goes 2 (frame 0 ∷ frame 5 ∷ []) (Some 5) (label 2 1) ≡ true)
documents_that_go = (refl, refl)

documents_that_stay : (goes 2 (frame 0 ∷ frame 5 ∷ []) (Some 5) (label 2 0) ≡ false)
    × (goes 2 (frame 0 ∷ frame 5 ∷ []) None (label 2 5) ≡ false)
    × (goes 2 (frame 0 ∷ frame 5 ∷ []) (Some 0) (label 7 0) ≡ false)
documents_that_stay = (refl, refl, refl)

told_document : (is_told ((label 7 0, change) ∷ (label 2 5, change) ∷ []) (label 2 5) ≡ true)
    × (is_told ((label 7 0, change) ∷ (label 2 5, change) ∷ []) (label 2 0) ≡ false)
told_document = (refl, refl)

document_twice : (are_distinct (label 2 5 ∷ label 2 0 ∷ label 7 5 ∷ []) ≡ true) × (are_distinct (label 2 5 ∷ label 7 0 ∷ label 2 5 ∷ []) ≡ false)
document_twice = (refl, refl)
