-- One queue of the tab has one event more.
use Rattle.std.proofs.Common.{ap, ◌∙◌, Some}
use Rattle.storage_events.specs.Event.{plain_event}
use Rattle.live_state.specs.ExistingQueues.{changed_at}
use Rattle.live_state.specs.Queues.{is_among, queue_told}
use Rattle.live_state.proofs.TabLemmas.{queues-changed, ready-parts, ready-stays}
use Rattle.live_state.proofs.open_tab.OpenTab.push.Goals as goal

pub push_event-requires : goal.push_event-requires
push_event-requires c = record {
  sorted = c.self.invariant.1;
  ready =
      (ready-parts c.args.frame c.self.inside.tab c.self.inside.queues.items
      (ap (λ tab. is_among c.args.frame tab.ready) c.self.view_is ∙ c.requires.ready)).1;
}

pub returns-clause-pushed : goal.returns-clause-pushed
returns-clause-pushed c =
    let change = queue_told (Some (plain_event c.args.event)) in
    ap (λ qs. record { number = c.self.inside.number; frames = c.self.inside.tab; queues = qs })
    (queues-changed c.args.frame change c.self.inside.tab c.self.inside.queues.items c.push_event.new.queues.items c.push_event.ensures.pushed)
    ∙ ap (λ tab. changed_at c.args.frame change tab.plain) c.self.view_is

pub returns-clause-kept : goal.returns-clause-kept
returns-clause-kept c = λ n differ ready.
    ready-stays n c.self.inside.tab c.self.inside.queues.items c.push_event.new.queues.items (c.push_event.ensures.pushed.others n differ)
    (ap (λ tab. is_among n tab.ready) c.self.view_is ∙ ready)
