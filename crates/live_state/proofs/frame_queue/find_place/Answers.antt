-- The search finds the queue of the frame, or the place between two others.
use Rattle.std.proofs.Common.{rules}
use Rattle.std.proofs.lemmas.List.Sorted.{answers_always}
use Rattle.live_state.proofs.QueueLemmas.{searched}
use Rattle.live_state.proofs.frame_queue.find_place.Goals as goal

pub returns-clause-place : goal.returns-clause-place
returns-clause-place c =
    let facts = c.binary_search_by_key.ensures in
    let by_frame = facts.position (λ q. q.frame) (answers_always _ _ _ (λ f a r g called. search rules)) in
    searched c.args.frame c.args.queues.now _ c.requires.sorted facts.bound by_frame
