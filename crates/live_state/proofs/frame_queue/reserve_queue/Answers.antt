-- The queue at the place is the one of the frame.
use Rattle.std.proofs.Common.{◌≡◌, List, Some, ap, refl, sym, ◌∙◌}
use Rattle.std.proofs.lemmas.Result.{on_err_weaker, on_ok_weaker}
use Rattle.live_state.specs.declared.frame_queue.FrameQueue.{FrameQueue}
use Rattle.live_state.specs.ExistingQueues.{existing_at, ready_by}
use Rattle.live_state.proofs.ListLemmas.{fails_too}
use Rattle.live_state.proofs.QueueLemmas.{existing-here, are_of_frames-written, place_in, ready-here, ready-written, refused_by, same-written, sorted-written, stays_by}
use Rattle.live_state.proofs.frame_queue.reserve_queue.Goals as goal

pub returns-clause-reserved : goal.returns-clause-reserved
returns-clause-reserved c =
    let existing : List FrameQueue = c.make_queue.new.queues.items in
    let place = c.in_ok-place.place in
    let is : place_in c.args.frame existing ≡ Some place = c.in_ok-place.ensures.place in
    let old : FrameQueue = c.index_mut.result.now in
    let read = c.index_mut.ensures.value in
    on_ok_weaker c.reserve.result (λ ready. ready-here c.args.frame existing place is old read _ refl ready) c.reserve.ensures.reserved

pub returns-clause-memory : goal.returns-clause-memory
returns-clause-memory c =
    let existing : List FrameQueue = c.make_queue.new.queues.items in
    let place = c.in_ok-place.place in
    let is : place_in c.args.frame existing ≡ Some place = c.in_ok-place.ensures.place in
    let old : FrameQueue = c.index_mut.result.now in
    let read = c.index_mut.ensures.value in
    on_err_weaker c.reserve.result
    (λ isnt. fails_too (ready_by (existing_at c.args.frame c.args.queues.now.items)) (ready_by (existing_at c.args.frame existing)) (c.in_ok-place.ensures.ready c.args.frame) isnt)
    (refused_by c.reserve.result
    (λ ready. c.reserve.ensures.ready (sym (ap ready_by (existing-here c.args.frame existing place is old read)) ∙ ready)))

pub returns-clause-same : goal.returns-clause-same
returns-clause-same c =
    let existing : List FrameQueue = c.make_queue.new.queues.items in
    let place = c.in_ok-place.place in
    let is : place_in c.args.frame existing ≡ Some place = c.in_ok-place.ensures.place in
    let old : FrameQueue = c.index_mut.result.now in
    let read = c.index_mut.ensures.value in
    λ n. same-written c.args.frame existing place is old read _ refl
    (ap (λ events. record { frame = c.args.frame; events = events; lost = c.reserve.new.self.lost }) c.reserve.ensures.same.0
    ∙ ap (λ lost. record { frame = c.args.frame; events = old.queue.events; lost = lost }) c.reserve.ensures.same.1) n
    ∙ c.in_ok-place.ensures.same n

pub returns-clause-ready : goal.returns-clause-ready
returns-clause-ready c =
    let existing : List FrameQueue = c.make_queue.new.queues.items in
    let place = c.in_ok-place.place in
    let is : place_in c.args.frame existing ≡ Some place = c.in_ok-place.ensures.place in
    let old : FrameQueue = c.index_mut.result.now in
    let read = c.index_mut.ensures.value in
    λ n ready. ready-written c.args.frame existing place is old read _ refl
    (stays_by c.reserve.result c.reserve.ensures.ready c.reserve.ensures.reserved) n (c.in_ok-place.ensures.ready n ready)

pub returns-clause-of_frames : goal.returns-clause-of_frames
returns-clause-of_frames c =
    let existing : List FrameQueue = c.make_queue.new.queues.items in
    let place = c.in_ok-place.place in
    let is : place_in c.args.frame existing ≡ Some place = c.in_ok-place.ensures.place in
    let old : FrameQueue = c.index_mut.result.now in
    let read = c.index_mut.ensures.value in
    λ frames there all. are_of_frames-written c.args.frame existing place is old read _ refl frames (c.in_ok-place.ensures.of_frames frames there all)

pub returns-clause-sorted : goal.returns-clause-sorted
returns-clause-sorted c =
    let existing : List FrameQueue = c.make_queue.new.queues.items in
    let place = c.in_ok-place.place in
    let is : place_in c.args.frame existing ≡ Some place = c.in_ok-place.ensures.place in
    let old : FrameQueue = c.index_mut.result.now in
    let read = c.index_mut.ensures.value in
    sorted-written c.args.frame existing place is old read _ refl c.in_ok-place.ensures.sorted
