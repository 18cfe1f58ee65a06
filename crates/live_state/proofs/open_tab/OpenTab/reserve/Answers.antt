-- The queue of the frame is there, and has room.
use Rattle.std.proofs.Common.{ap, sym, ◌∙◌}
use Rattle.std.proofs.lemmas.Result.{on_err_weaker, on_ok_weaker}
use Rattle.frame_tree.specs.Tree.{has_frame}
use Rattle.live_state.specs.Queues.{is_among}
use Rattle.live_state.proofs.TabLemmas.{ready-stays, ready-there, unready}
use Rattle.live_state.proofs.open_tab.OpenTab.reserve.Goals as goal

pub returns-clause-reserved : goal.returns-clause-reserved
returns-clause-reserved c =
    on_ok_weaker c.reserve_queue.result
    (λ ready. ready-there c.args.frame c.self.inside.tab c.reserve_queue.new.queues.items
    (ap (λ tab. has_frame c.args.frame tab.plain.frames) c.self.view_is ∙ c.requires.there) ready)
    c.reserve_queue.ensures.reserved

pub returns-clause-kept : goal.returns-clause-kept
returns-clause-kept c = λ n but ready.
    ready-stays n c.self.inside.tab c.self.inside.queues.items c.reserve_queue.new.queues.items
    (c.reserve_queue.ensures.ready n)
    (ap (λ tab. is_among n tab.ready) c.self.view_is ∙ ready)

pub returns-clause-memory : goal.returns-clause-memory
returns-clause-memory c =
    on_err_weaker c.reserve_queue.result
    (λ isnt. sym (ap (λ tab. is_among c.args.frame tab.ready) c.self.view_is)
    ∙ unready c.args.frame c.self.inside.tab c.self.inside.queues.items isnt)
    c.reserve_queue.ensures.memory
