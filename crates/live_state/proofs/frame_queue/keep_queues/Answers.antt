-- A retain is the filter by what the closure tests.
use Rattle.std.proofs.Common.{rules, ap, ◌∙◌}
use Rattle.std.proofs.lemmas.Fn.{filter_same}
use Rattle.live_state.specs.ExistingQueues.{are_of_frames, are_sorted}
use Rattle.live_state.specs.Tabs.{stays}
use Rattle.live_state.proofs.ExistingQueueLemmas.{existing-put}
use Rattle.live_state.proofs.NumberLemmas.{rising-kept}
use Rattle.live_state.proofs.frame_queue.keep_queues.Goals as goal

pub returns : goal.returns
returns c =
    let kept = filter_same _ (λ q. stays c.args.fresh c.args.made.now q.frame) _ (λ x b f' k. search rules) _ _ c.retain.ensures.filtered in
    record {
      kept = kept;
      of_frames = ap (are_of_frames c.args.made.now) kept ∙ existing-put c.args.fresh c.args.made.now c.args.queues.now.items;
      sorted = ap are_sorted kept ∙ rising-kept (λ q. q.frame) (λ q. stays c.args.fresh c.args.made.now q.frame) c.args.queues.now.items c.requires.sorted;
    }
