-- The events that wait for documents: what is sent, and what is taken.
-- Source: HTML, "Web storage", the broadcast of a storage object, which tells each document.
-- Our own choice: an event waits in the queue of its document until the events are taken.
use Rattle.std.specs.Prelude.{◌≡◌, ℕ, Bool, true, false, not, ◌==◌, ◌&&◌, List, [], ◌∷◌, map, find, Option, Some, None, is_some, option_map, if◌then◌else◌}
use Rattle.std.specs.List.{list_any}
use Rattle.agent_base.specs.declared.refusals.Label.{Label}
use Rattle.storage_events.specs.Audience.{same_label}
use Rattle.storage_events.specs.Event.{PlainEvent, plain_event}
use Rattle.storage_events.specs.Queue.{events_after, lost_after}
use Rattle.storage_events.specs.declared.event.Event.{Event}
use Rattle.frame_tree.specs.Tree.{PlainFrame, has_frame}
use Rattle.live_state.specs.Tabs.{PlainLive, PlainFrameQueue, PlainTab, ReadyTab, empty_queue, queue_of, queues_before, stays, tab_at}

-- the frames of a tab, and none where it is not open
abbrev pub frames_by : Option PlainTab → List PlainFrame
frames_by None = []
frames_by (Some tab) = tab.frames

-- a document is there
abbrev pub has_document : List PlainTab → Label → Bool
has_document tabs at = has_frame at.frame (frames_by (tab_at at.tab tabs))

-- the queue of a document, and an empty one where the document is not there
abbrev pub queue_at : List PlainTab → Label → PlainFrameQueue
queue_at tabs at = queue_of at.frame (queues_before (tab_at at.tab tabs))

-- the frames of a tab whose queue is ready, and none where the tab is not open
abbrev pub ready_frames : Option ReadyTab → List ℕ
ready_frames None = []
ready_frames (Some tab) = tab.frames

-- a frame is one of these
abbrev pub is_among : ℕ → List ℕ → Bool
is_among frame frames = list_any (λ f. f == frame) frames

-- the queue of a document takes one event more without taking memory
abbrev pub is_ready : PlainLive → Label → Bool
is_ready live at = is_among at.frame (ready_frames (find (λ tab. tab.number == at.tab) live.ready))

-- each ready document stays ready, but for these. So a later call takes no memory for the others.
abbrev pub StayReadyBut : (Label → Bool) → PlainLive → PlainLive → Type 0
StayReadyBut but old new =
    (at : Label) → but at ≡ false → is_ready old at ≡ true → is_ready new at ≡ true

-- a document goes where these frames are put into a tab: it is fresh, or its frame is not there
abbrev pub goes : ℕ → List PlainFrame → Option ℕ → Label → Bool
goes number made fresh at = at.tab == number && not (stays fresh made at.frame)

-- no document stands twice
abbrev pub are_distinct : List Label → Bool
are_distinct [] = true
are_distinct (at ∷ more) = not (list_any (same_label at) more) && are_distinct more

-- an event of the program for a document, as contracts see it
abbrev pub plain_sent : Label × Event → Label × PlainEvent
plain_sent entry = (entry.0, plain_event entry.1)

-- the event among these that is for a document
abbrev pub event_for : Label → List (Label × PlainEvent) → Option PlainEvent
event_for at events = option_map (λ entry. entry.1) (find (λ entry. same_label entry.0 at) events)

-- one of these events is for a document
abbrev pub is_told : List (Label × PlainEvent) → Label → Bool
is_told events at = is_some (event_for at events)

-- a queue after its event: it waits, or is counted as lost
abbrev pub queue_told : Option PlainEvent → PlainFrameQueue → PlainFrameQueue
queue_told None queue = queue
queue_told (Some event) queue = record {
  frame = queue.frame;
  events = events_after queue.events event;
  lost = lost_after queue.events queue.lost;
}

-- the document of a queue
abbrev pub label_of : PlainTab → PlainFrameQueue → Label
label_of tab queue = record { tab = tab.number; frame = queue.frame }

-- a tab with each queue changed by its document
abbrev pub with_queues : (Label → PlainFrameQueue → PlainFrameQueue) → PlainTab → PlainTab
with_queues change tab = record {
  number = tab.number;
  frames = tab.frames;
  queues = map (λ queue. change (label_of tab queue) queue) tab.queues;
}

-- each document that an event is for has been told of it, and all other queues stay
abbrev pub sent : List (Label × PlainEvent) → List PlainTab → List PlainTab
sent events tabs = map (with_queues (λ at queue. queue_told (event_for at events) queue)) tabs

-- the queue of a document is empty, and all other queues stay
abbrev pub taken : Label → List PlainTab → List PlainTab
taken at tabs =
    map (with_queues (λ l queue. if same_label l at then empty_queue queue.frame else queue)) tabs
