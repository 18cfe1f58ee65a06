-- The queue at the place is the one of the frame.
use Rattle.std.proofs.Common.{◌≡◌, List, Some, true, false, ap, refl, sym, ◌∙◌}
use Rattle.storage_events.specs.Event.{plain_event}
use Rattle.storage_events.specs.Queue.{events_after}
use Rattle.live_state.specs.declared.frame_queue.FrameQueue.{FrameQueue}
use Rattle.live_state.specs.ExistingQueues.{IsBetween, ready_by}
use Rattle.live_state.specs.Queues.{queue_told}
use Rattle.live_state.proofs.QueueLemmas.{changed-at, existing-here, are_of_frames-written, none-between, place_in, sorted-written}
use Rattle.live_state.proofs.frame_queue.push_event.Goals as goal

pub push-requires : goal.push-requires
push-requires c =
    let existing : List FrameQueue = c.args.queues.now.items in
    let is : place_in c.args.frame existing ≡ Some c.in-Ok.place = ap (place_in c.args.frame) (sym c.as_slice.ensures.value) ∙ c.in-Ok.ensures.place in
    record {
      reserved =
          sym (ap ready_by (existing-here c.args.frame existing c.in-Ok.place is c.index_mut.result.now c.index_mut.ensures.value))
          ∙ c.requires.ready;
    }

pub returns-in-Ok-clause-pushed : goal.returns-in-Ok-clause-pushed
returns-in-Ok-clause-pushed c =
    let existing : List FrameQueue = c.args.queues.now.items in
    let is : place_in c.args.frame existing ≡ Some c.in-Ok.place = ap (place_in c.args.frame) (sym c.as_slice.ensures.value) ∙ c.in-Ok.ensures.place in
    changed-at c.args.frame existing c.in-Ok.place is c.index_mut.result.now c.index_mut.ensures.value _ refl
    (queue_told (Some (plain_event c.args.event)))
    (ap (λ events. record { frame = c.args.frame; events = events; lost = c.push.new.self.lost }) c.push.ensures.events
    ∙ ap (λ lost. record { frame = c.args.frame; events = events_after c.index_mut.result.now.queue.events (plain_event c.args.event); lost = lost }) c.push.ensures.lost)

pub returns-in-Ok-clause-of_frames : goal.returns-in-Ok-clause-of_frames
returns-in-Ok-clause-of_frames c =
    let existing : List FrameQueue = c.args.queues.now.items in
    let is : place_in c.args.frame existing ≡ Some c.in-Ok.place = ap (place_in c.args.frame) (sym c.as_slice.ensures.value) ∙ c.in-Ok.ensures.place in
    λ frames all. are_of_frames-written c.args.frame existing c.in-Ok.place is c.index_mut.result.now c.index_mut.ensures.value _ refl frames all

pub returns-in-Ok-clause-sorted : goal.returns-in-Ok-clause-sorted
returns-in-Ok-clause-sorted c =
    let existing : List FrameQueue = c.args.queues.now.items in
    let is : place_in c.args.frame existing ≡ Some c.in-Ok.place = ap (place_in c.args.frame) (sym c.as_slice.ensures.value) ∙ c.in-Ok.ensures.place in
    sorted-written c.args.frame existing c.in-Ok.place is c.index_mut.result.now c.index_mut.ensures.value _ refl c.requires.sorted

pub returns-in_default-clause-pushed : goal.returns-in_default-clause-pushed
returns-in_default-clause-pushed c =
    let existing : List FrameQueue = c.args.queues.now.items in
    let between : IsBetween c.args.frame existing c.in_default.field-0 = rw c.as_slice.ensures.value at c.in_default.ensures.place in
    let no : false ≡ true = sym (ap ready_by (none-between c.args.frame existing _ between)) ∙ c.requires.ready in absurd (cc no)
