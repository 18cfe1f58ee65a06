-- The queue of a frame that had none stands between two others.
use Rattle.std.proofs.Common.{List, ap, refl, ◌∙◌}
use Rattle.agent_base.proofs.Logic.{on_err}
use Rattle.std.specs.Prelude.{is_some}
use Rattle.live_state.specs.declared.frame_queue.FrameQueue.{FrameQueue}
use Rattle.live_state.specs.ExistingQueues.{IsBetween, are_of_frames, are_sorted, existing_at, plain_by, ready_by}
use Rattle.live_state.proofs.QueueLemmas.{none-between, of_frames-more, place-more, place_in, ready-more, same-more, sorted-more}
use Rattle.live_state.proofs.frame_queue.make_queue.Goals as goal

pub returns-in_err-insert_at-in-Err-clause-memory : goal.returns-in_err-insert_at-in-Err-clause-memory
returns-in_err-insert_at-in-Err-clause-memory c =
    let existing : List FrameQueue = c.args.queues.now.items in
    let between : IsBetween c.args.frame existing c.in-Err.place = rw c.as_slice.ensures.value at c.in-Err.ensures.place in
    on_err c.from_residual.result (ap is_some (none-between c.args.frame existing c.in-Err.place between))

pub returns-in_ok-insert_at-in-Err-clause-place : goal.returns-in_ok-insert_at-in-Err-clause-place
returns-in_ok-insert_at-in-Err-clause-place c =
    let existing : List FrameQueue = c.args.queues.now.items in
    let between : IsBetween c.args.frame existing c.in-Err.place = rw c.as_slice.ensures.value at c.in-Err.ensures.place in
    ap (place_in c.args.frame) c.in_ok-insert_at-in-Err.ensures.inserted ∙ place-more c.args.frame existing c.in-Err.place between _ refl c.requires.sorted

pub returns-in_ok-insert_at-in-Err-clause-same : goal.returns-in_ok-insert_at-in-Err-clause-same
returns-in_ok-insert_at-in-Err-clause-same c =
    let existing : List FrameQueue = c.args.queues.now.items in
    let between : IsBetween c.args.frame existing c.in-Err.place = rw c.as_slice.ensures.value at c.in-Err.ensures.place in
    λ n. ap (λ after. plain_by n (existing_at n after)) c.in_ok-insert_at-in-Err.ensures.inserted
    ∙ same-more c.args.frame existing c.in-Err.place between _ refl c.new-queue.ensures.empty.0 c.new-queue.ensures.empty.1 n

pub returns-in_ok-insert_at-in-Err-clause-ready : goal.returns-in_ok-insert_at-in-Err-clause-ready
returns-in_ok-insert_at-in-Err-clause-ready c =
    let existing : List FrameQueue = c.args.queues.now.items in
    let between : IsBetween c.args.frame existing c.in-Err.place = rw c.as_slice.ensures.value at c.in-Err.ensures.place in
    λ n ready. ap (λ after. ready_by (existing_at n after)) c.in_ok-insert_at-in-Err.ensures.inserted
    ∙ ready-more c.args.frame existing c.in-Err.place between _ refl n ready

pub returns-in_ok-insert_at-in-Err-clause-of_frames : goal.returns-in_ok-insert_at-in-Err-clause-of_frames
returns-in_ok-insert_at-in-Err-clause-of_frames c =
    let existing : List FrameQueue = c.args.queues.now.items in
    let between : IsBetween c.args.frame existing c.in-Err.place = rw c.as_slice.ensures.value at c.in-Err.ensures.place in
    λ frames there all. ap (are_of_frames frames) c.in_ok-insert_at-in-Err.ensures.inserted
    ∙ of_frames-more c.args.frame existing c.in-Err.place between _ refl frames there all

pub returns-in_ok-insert_at-in-Err-clause-sorted : goal.returns-in_ok-insert_at-in-Err-clause-sorted
returns-in_ok-insert_at-in-Err-clause-sorted c =
    let existing : List FrameQueue = c.args.queues.now.items in
    let between : IsBetween c.args.frame existing c.in-Err.place = rw c.as_slice.ensures.value at c.in-Err.ensures.place in
    ap are_sorted c.in_ok-insert_at-in-Err.ensures.inserted ∙ sorted-more c.args.frame existing c.in-Err.place between _ refl c.requires.sorted
