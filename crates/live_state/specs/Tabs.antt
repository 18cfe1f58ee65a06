-- The open tabs, with their documents and the queue of each document.
-- Source: HTML, "Navigables" (top-level traversables, and the documents of the navigables below
-- them) and "Web storage", the broadcast of a storage object, which tells each document for itself.
-- Our own choice: a tab has a number, and the list stands in the order of the numbers. The events
-- of a document wait in a queue of its own, which goes with the document.
use Rattle.std.specs.Prelude.{◌≡◌, ℕ, Bool, true, false, not, ◌==◌, ◌&&◌, ◌||◌, nat_lt, List, [], ◌∷◌, ◌++◌, ◌+◌, ◌-◌, map, filter, find, Option, Some, None, is_some, option_map, unwrap_or, if◌then◌else◌}
use Rattle.std.specs.List.{list_all}
use Rattle.std.specs.Map.{lookup}
use Rattle.origin_site.specs.Site.{PlainSite, same_plain_site}
use Rattle.storage_events.specs.Event.{PlainEvent}
use Rattle.frame_tree.specs.Tree.{PlainFrame, has_frame, top_site}

-- the queue of a frame's document: the events that wait, and the number of lost ones
pub record PlainFrameQueue : Type 0 where
  pub frame : ℕ
  pub events : List PlainEvent
  pub lost : ℕ

-- an open tab: its number, its frames, the top first, and the queue of each frame, in their order
pub record PlainTab : Type 0 where
  pub number : ℕ
  pub frames : List PlainFrame
  pub queues : List PlainFrameQueue

-- the frames of a tab whose queue takes one event more without taking memory
pub record ReadyTab : Type 0 where
  pub number : ℕ
  pub frames : List ℕ

-- what contracts see: the open tabs, the ready queues of each, the number of tabs more for which
-- there is room, and top-level sites, each with whether one tab more at it takes no memory. The
-- last three say what takes memory, and nothing of what is open.
pub record PlainLive : Type 0 where
  pub tabs : List PlainTab
  pub ready : List ReadyTab
  pub room : ℕ
  pub sites : List (PlainSite × Bool)

-- the numbers of the tabs rise, so that no two are equal
abbrev pub is_rising : List PlainTab → Bool
is_rising [] = true
is_rising (tab ∷ later) = list_all (λ t. nat_lt tab.number t.number) later && is_rising later

-- a tab has a queue for each frame, in their order
abbrev pub HasQueues : PlainTab → Type 0
HasQueues tab = map (λ q. q.frame) tab.queues ≡ map (λ f. f.frame) tab.frames

-- the open tab of a number
abbrev pub tab_at : ℕ → List PlainTab → Option PlainTab
tab_at number tabs = find (λ tab. tab.number == number) tabs

-- a tab of this number is open
abbrev pub is_open : ℕ → List PlainTab → Bool
is_open number tabs = is_some (tab_at number tabs)

-- a number is greater than this one, or any number at all without one
abbrev pub is_after : Option ℕ → ℕ → Bool
is_after None number = true
is_after (Some after) number = nat_lt after number

-- the first number that is greater. The numbers rise, so it is the least.
abbrev pub next_tab : Option ℕ → List PlainTab → Option ℕ
next_tab after tabs = option_map (λ tab. tab.number) (find (λ tab. is_after after tab.number) tabs)

-- the tabs with this one: those of lower numbers, this one, and those of higher numbers
abbrev pub with_tab : PlainTab → List PlainTab → List PlainTab
with_tab made tabs =
    filter (λ tab. nat_lt tab.number made.number) tabs
    ++ made ∷ filter (λ tab. nat_lt made.number tab.number) tabs

-- the tabs without that of a number
abbrev pub without_tab : ℕ → List PlainTab → List PlainTab
without_tab number tabs = filter (λ tab. not (tab.number == number)) tabs

-- a queue without events, that lost none
abbrev pub empty_queue : ℕ → PlainFrameQueue
empty_queue frame = record { frame = frame; events = []; lost = 0 }

-- the queue of a frame among these, and an empty one where there is none
abbrev pub queue_of : ℕ → List PlainFrameQueue → PlainFrameQueue
queue_of frame queues = unwrap_or (find (λ q. q.frame == frame) queues) (empty_queue frame)

-- the queues that a tab had, and none where it was not open
abbrev pub queues_before : Option PlainTab → List PlainFrameQueue
queues_before None = []
queues_before (Some tab) = tab.queues

-- a frame is the one that has a fresh document
abbrev pub is_fresh : Option ℕ → ℕ → Bool
is_fresh None frame = false
is_fresh (Some fresh) frame = frame == fresh

-- a queue stays: its document is not fresh, and its frame is there still
abbrev pub stays : Option ℕ → List PlainFrame → ℕ → Bool
stays fresh made frame = not (is_fresh fresh frame) && has_frame frame made

-- the queue of a frame afterwards: empty where its document is fresh or it had none, else as before
abbrev pub queue_after : Option ℕ → List PlainFrameQueue → ℕ → PlainFrameQueue
queue_after fresh before frame =
    if is_fresh fresh frame then empty_queue frame else queue_of frame before

-- a tab with these frames, after what it was before. The queue of a frame that is gone goes too.
abbrev pub made_tab : ℕ → List PlainFrame → Option ℕ → Option PlainTab → PlainTab
made_tab number frames fresh before = record {
  number = number;
  frames = frames;
  queues = map (λ f. queue_after fresh (queues_before before) f.frame) frames;
}

-- the tabs with these frames in the tab of this number, which is open or new
abbrev pub tabs_put : ℕ → List PlainFrame → Option ℕ → List PlainTab → List PlainTab
tabs_put number frames fresh tabs =
    with_tab (made_tab number frames fresh (tab_at number tabs)) tabs

-- one tab more at a top-level site takes no memory
abbrev pub has_site_room : PlainSite → PlainLive → Bool
has_site_room site live = unwrap_or (lookup (same_plain_site site) live.sites) false

-- one tab more under this top takes no memory
abbrev pub has_top_room : Option PlainSite → PlainLive → Bool
has_top_room None live = true
has_top_room (Some site) live = has_site_room site live

-- one put of these frames into the tab takes no memory: there is room at the top-level site, and
-- the tab is open, or there is room for one more
abbrev pub is_reserved : ℕ → List PlainFrame → PlainLive → Bool
is_reserved number made live =
    (is_open number live.tabs || nat_lt 0 live.room) && has_top_room (top_site made) live

-- the room after a put of a tab, which takes one where the tab is new
abbrev pub room_put : ℕ → PlainLive → ℕ
room_put number live = if is_open number live.tabs then live.room else live.room - 1

-- the room after a drop of a tab, which gives one back where the tab was open
abbrev pub room_dropped : ℕ → PlainLive → ℕ
room_dropped number live = if is_open number live.tabs then live.room + 1 else live.room
