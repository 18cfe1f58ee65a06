-- The queue at the place is the one of the frame, and without one no event waits.
use Rattle.std.proofs.Common.{◌≡◌, List, [], Some, map, ap, refl, sym, ◌∙◌}
use Rattle.storage_events.specs.Event.{plain_event}
use Rattle.live_state.specs.declared.frame_queue.FrameQueue.{FrameQueue}
use Rattle.live_state.specs.ExistingQueues.{IsBetween, plain_by}
use Rattle.live_state.specs.Tabs.{empty_queue}
use Rattle.live_state.proofs.QueueLemmas.{changed-at, changed-none, existing-here, are_of_frames-written, none-between, place_in, sorted-written}
use Rattle.live_state.proofs.frame_queue.take_events.Goals as goal

pub returns-in-Ok : goal.returns-in-Ok
returns-in-Ok c =
    let existing : List FrameQueue = c.args.queues.now.items in
    let is : place_in c.args.frame existing ≡ Some c.in-Ok.place = ap (place_in c.args.frame) (sym c.as_slice.ensures.value) ∙ c.in-Ok.ensures.place in
    let here = existing-here c.args.frame existing c.in-Ok.place is c.index_mut.result.now c.index_mut.ensures.value in record {
      given = (
        c.take.ensures.given.0 ∙ sym (ap (λ o. (plain_by c.args.frame o).events) here),
        c.take.ensures.given.1 ∙ sym (ap (λ o. (plain_by c.args.frame o).lost) here),
      );
      emptied =
          changed-at c.args.frame existing c.in-Ok.place is c.index_mut.result.now c.index_mut.ensures.value _ refl
          (λ queue. empty_queue queue.frame)
          (ap (λ events. record { frame = c.args.frame; events = events; lost = c.take.new.self.lost }) c.take.ensures.emptied.0
          ∙ ap (λ lost. record { frame = c.args.frame; events = []; lost = lost }) c.take.ensures.emptied.1);
      of_frames = λ frames all.
          are_of_frames-written c.args.frame existing c.in-Ok.place is c.index_mut.result.now c.index_mut.ensures.value _ refl frames all;
      sorted = sorted-written c.args.frame existing c.in-Ok.place is c.index_mut.result.now c.index_mut.ensures.value _ refl c.requires.sorted;
    }

pub returns-in-Err-clause-given : goal.returns-in-Err-clause-given
returns-in-Err-clause-given c =
    let existing : List FrameQueue = c.args.queues.now.items in
    let between : IsBetween c.args.frame existing c.in-Err.field-0 = rw c.as_slice.ensures.value at c.in-Err.ensures.place in
    let none = none-between c.args.frame existing _ between in (
      ap (map plain_event) c.new.ensures.items ∙ sym (ap (λ o. (plain_by c.args.frame o).events) none),
      sym (ap (λ o. (plain_by c.args.frame o).lost) none),
    )

pub returns-in-Err-clause-emptied : goal.returns-in-Err-clause-emptied
returns-in-Err-clause-emptied c =
    let existing : List FrameQueue = c.args.queues.now.items in
    let between : IsBetween c.args.frame existing c.in-Err.field-0 = rw c.as_slice.ensures.value at c.in-Err.ensures.place in
    changed-none c.args.frame existing (none-between c.args.frame existing _ between)
