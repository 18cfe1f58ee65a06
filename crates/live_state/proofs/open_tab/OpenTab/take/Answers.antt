-- The queue of the frame is given and emptied.
use Rattle.std.proofs.Common.{◌≡◌, ap, sym, ◌∙◌}
use Rattle.live_state.specs.ExistingQueues.{changed_at, existing_at, plain_by}
use Rattle.live_state.specs.Queues.{is_among}
use Rattle.live_state.specs.Tabs.{PlainFrameQueue, empty_queue, queue_of}
use Rattle.live_state.proofs.TabLemmas.{queue-existing, queues-changed, ready-stays}
use Rattle.live_state.proofs.open_tab.OpenTab.take.Goals as goal

pub returns-clause-given : goal.returns-clause-given
returns-clause-given c =
    let before : plain_by c.args.frame (existing_at c.args.frame c.self.inside.queues.items) ≡ queue_of c.args.frame c.args.self.now.plain.queues =
    sym (queue-existing c.args.frame c.self.inside.tab c.self.inside.queues.items c.self.invariant.0)
    ∙ ap (λ tab. queue_of c.args.frame tab.plain.queues) c.self.view_is in (
      c.take_events.ensures.given.0 ∙ ap (λ (q : PlainFrameQueue). q.events) before,
      c.take_events.ensures.given.1 ∙ ap (λ (q : PlainFrameQueue). q.lost) before,
    )

pub returns-clause-emptied : goal.returns-clause-emptied
returns-clause-emptied c =
    ap (λ qs. record { number = c.self.inside.number; frames = c.self.inside.tab; queues = qs })
    (queues-changed c.args.frame (λ queue. empty_queue queue.frame) c.self.inside.tab c.self.inside.queues.items c.take_events.new.queues.items c.take_events.ensures.emptied)
    ∙ ap (λ tab. changed_at c.args.frame (λ queue. empty_queue queue.frame) tab.plain) c.self.view_is

pub returns-clause-kept : goal.returns-clause-kept
returns-clause-kept c = λ n differ ready.
    ready-stays n c.self.inside.tab c.self.inside.queues.items c.take_events.new.queues.items (c.take_events.ensures.emptied.others n differ)
    (ap (λ tab. is_among n tab.ready) c.self.view_is ∙ ready)
