-- An open tab, as the list of open tabs sees it, and the queues that exist: a frame whose
-- document has heard of no event may have none.
use Rattle.std.specs.Prelude.{◌≡◌, ◌≤◌, ℕ, Bool, true, false, ◌==◌, not, nat_lt, List, length, take, drop, map, filter, find, Option, Some, None}
use Rattle.std.specs.Prelude.{Result, OnErr, OnOk, if◌then◌else◌}
use Rattle.std.specs.List.{list_all}
use Rattle.frame_tree.specs.Tree.{IsTree, PlainFrame, has_frame, top_site}
use Rattle.live_state.specs.FramesInPlace.{IsRemade}
use Rattle.live_state.specs.Queues.{is_among}
use Rattle.live_state.specs.SiteTabs.{are_rising}
use Rattle.live_state.specs.Tabs.{PlainFrameQueue, PlainTab, ReadyTab, empty_queue, stays}
use Rattle.live_state.specs.declared.frame_queue.FrameQueue.{FrameQueue}

-- an open tab, and the frames whose queue takes one event more without taking memory
pub record PlainOpenTab : Type 0 where
  pub plain : PlainTab
  pub ready : List ℕ

-- the ready frames of a tab, with its number
abbrev pub ready_tab : PlainOpenTab → ReadyTab
ready_tab tab = record { number = tab.plain.number; frames = tab.ready }

-- the queue of a frame, if it exists
abbrev pub existing_at : ℕ → List FrameQueue → Option FrameQueue
existing_at frame existing = find (λ q. q.frame == frame) existing

-- a queue as contracts see it: an empty one where none exists
abbrev pub plain_by : ℕ → Option FrameQueue → PlainFrameQueue
plain_by frame None = empty_queue frame
plain_by frame (Some q) = record { frame = frame; events = q.queue.events; lost = q.queue.lost }

-- a queue exists and has room for one event more
abbrev pub ready_by : Option FrameQueue → Bool
ready_by None = false
ready_by (Some q) = q.queue.reserved

-- each ready frame of a tab stays ready, but for these
abbrev pub FramesStayReadyBut : (ℕ → Bool) → PlainOpenTab → PlainOpenTab → Type 0
FramesStayReadyBut but old new =
    (n : ℕ) → but n ≡ false → is_among n old.ready ≡ true → is_among n new.ready ≡ true

-- a call changes the frames of a tab. The tab keeps its number, its site and each queue that stays,
-- and a refusal leaves all of it.
pub record ChangesFrames {T E : Type 0} (result : Result T E) (fresh : Option ℕ)
    (old new : PlainOpenTab) : Type 0 where
  pub put : OnOk result (IsRemade fresh old.plain new.plain)
  pub unchanged : OnErr result (new ≡ old)
  pub number : new.plain.number ≡ old.plain.number
  pub site : top_site new.plain.frames ≡ top_site old.plain.frames
  pub tree : IsTree new.plain.frames
  pub kept : FramesStayReadyBut (λ n. not (stays fresh new.plain.frames n)) old new

-- the queue of each frame
abbrev pub queues_of : List PlainFrame → List FrameQueue → List PlainFrameQueue
queues_of frames existing = map (λ f. plain_by f.frame (existing_at f.frame existing)) frames

-- the frames whose queue is ready
abbrev pub ready_of : List PlainFrame → List FrameQueue → List ℕ
ready_of frames existing =
    filter (λ frame. ready_by (existing_at frame existing)) (map (λ f. f.frame) frames)

-- each existing queue is that of a frame
abbrev pub are_of_frames : List PlainFrame → List FrameQueue → Bool
are_of_frames frames existing = list_all (λ q. has_frame q.frame frames) existing

-- the existing queues stand in the order of their frames' numbers, and no two are of one frame
abbrev pub are_sorted : List FrameQueue → Bool
are_sorted existing = are_rising (map (λ q. q.frame) existing)

-- no queue is that of a frame, and it would stand at this place
pub record IsBetween (frame : ℕ) (existing : List FrameQueue) (place : ℕ) : Type 0 where
  pub within : place ≤ length existing
  pub lower : list_all (λ q. nat_lt q.frame frame) (take place existing) ≡ true
  pub higher : list_all (λ q. nat_lt frame q.frame) (drop place existing) ≡ true

-- contracts see the queue that they saw of each frame
abbrev pub SeenAlike : List FrameQueue → List FrameQueue → Type 0
SeenAlike old new = (n : ℕ) → plain_by n (existing_at n new) ≡ plain_by n (existing_at n old)

-- the queue of a frame is ready if it was
abbrev pub StaysReady : ℕ → List FrameQueue → List FrameQueue → Type 0
StaysReady n old new = ready_by (existing_at n old) ≡ true → ready_by (existing_at n new) ≡ true

-- each existing queue is that of one of these frames if it was so before
abbrev pub StayOfFrames : List PlainFrame → List FrameQueue → List FrameQueue → Type 0
StayOfFrames frames old new = are_of_frames frames old ≡ true → are_of_frames frames new ≡ true

-- the queue of this frame is changed so, and those of others stay; of these the ready stay ready
pub record IsChangedAt (frame : ℕ) (change : PlainFrameQueue → PlainFrameQueue)
    (old new : List FrameQueue) : Type 0 where
  pub plain : (n : ℕ) → plain_by n (existing_at n new)
      ≡ (if n == frame then change (plain_by n (existing_at n old))
      else plain_by n (existing_at n old))
  pub others : (n : ℕ) → (n == frame) ≡ false → StaysReady n old new

-- a tab with the queue of one frame changed
abbrev pub changed_at : ℕ → (PlainFrameQueue → PlainFrameQueue) → PlainTab → PlainTab
changed_at frame change tab = record {
  number = tab.number;
  frames = tab.frames;
  queues = map (λ queue. if queue.frame == frame then change queue else queue) tab.queues;
}
