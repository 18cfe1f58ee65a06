-- One queue of one tab is given and emptied.
use Rattle.std.proofs.Common.{◌≡◌, List, map, None, ap, sym, ◌∙◌, rules}
use Rattle.storage_events.specs.Event.{plain_event}
use Rattle.live_state.specs.ExistingQueues.{PlainOpenTab}
use Rattle.live_state.specs.TabPlaces.{IsGap}
use Rattle.live_state.specs.Queues.{is_ready, queue_at, taken, with_queues}
use Rattle.live_state.specs.Tabs.{PlainFrameQueue, queue_of, queues_before}
use Rattle.live_state.proofs.FramesInPlaceLemmas.{IsWritten, indexed-told, number-before, ready-written, tab-before, tabs-changed, written}
use Rattle.live_state.proofs.LabelLemmas.{after_take, frame-differs, taken-here, taken-others}
use Rattle.live_state.proofs.LiveLemmas.{changed-none_of}
use Rattle.live_state.proofs.TabPlaceLemmas.{found-gap}
use Rattle.live_state.proofs.SearchLemmas.{plain_of}
use Rattle.live_state.proofs.live.Live.take_events.Goals as goal
use Rattle.live_state.proofs.live.Live.take_events.Goals.{After-self-1}

changed : (c : After-self-1) → IsWritten c.args.at.tab c.args.self.now.tabs c.self.inside.tabs.items c.in-Ok.place c.at_mut.result.now c.take.new.self
changed c = written c.in-Ok.ensures.place (search rules) c.at_mut.ensures.value (ap (λ t. t.number) c.take.ensures.emptied) (ap (λ live. live.tabs) c.self.view_is)

pub invariant_of-self : goal.invariant_of-self
invariant_of-self c =
    indexed-told (changed c) c.self.inside.sites.numbers c.self.invariant (ap (λ t. t.frames) c.take.ensures.emptied)

pub returns-in-Ok : goal.returns-in-Ok
returns-in-Ok c =
    let queue : queue_of c.args.at.frame c.at_mut.result.now.plain.queues ≡ queue_at c.args.self.now.tabs c.args.at =
    sym (ap (λ o. queue_of c.args.at.frame (queues_before o)) (tab-before (changed c))) in record {
      given = (
        c.take.ensures.given.0 ∙ ap (λ (q : PlainFrameQueue). q.events) queue,
        c.take.ensures.given.1 ∙ ap (λ (q : PlainFrameQueue). q.lost) queue,
      );
      taken =
          tabs-changed (changed c) (with_queues (after_take c.args.at)) (taken-others c.args.at)
          (c.take.ensures.emptied ∙ sym (taken-here c.args.at c.at_mut.result.now.plain (number-before (changed c))));
      kept = λ other differ ready.
          ready-written (changed c) other (λ here. c.take.ensures.kept other.frame (frame-differs other c.args.at here differ))
          (ap (λ live. is_ready live other) c.self.view_is ∙ ready);
      room = search rules;
    }

pub returns-in-Err-clause-given : goal.returns-in-Err-clause-given
returns-in-Err-clause-given c =
    let items : List PlainOpenTab = c.self.inside.tabs.items in
    let gap : IsGap c.args.at.tab (plain_of items) c.in-Err.field-0 = c.in-Err.ensures.place in
    let queue : queue_of c.args.at.frame (queues_before None) ≡ queue_at c.args.self.now.tabs c.args.at =
    sym (ap (λ o. queue_of c.args.at.frame (queues_before o)) (found-gap c.args.at.tab (plain_of items) c.in-Err.field-0 gap))
    ∙ ap (λ live. queue_at live.tabs c.args.at) c.self.view_is in (
      ap (map plain_event) c.new.ensures.items ∙ ap (λ (q : PlainFrameQueue). q.events) queue,
      ap (λ (q : PlainFrameQueue). q.lost) queue,
    )

pub returns-in-Err-clause-taken : goal.returns-in-Err-clause-taken
returns-in-Err-clause-taken c =
    let items : List PlainOpenTab = c.self.inside.tabs.items in
    let gap : IsGap c.args.at.tab (plain_of items) c.in-Err.field-0 = c.in-Err.ensures.place in
    sym (ap (λ live. live.tabs) c.self.view_is)
    ∙ changed-none_of c.args.at.tab (with_queues (after_take c.args.at)) (taken-others c.args.at) (plain_of items) c.in-Err.field-0 gap
    ∙ ap (λ live. taken c.args.at live.tabs) c.self.view_is
