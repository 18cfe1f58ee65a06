-- One queue of one tab has one event more.
use Rattle.std.proofs.Common.{List, [], ◌∷◌, ap, refl, sym, ◌∙◌, rules}
use Rattle.storage_events.specs.Event.{plain_event}
use Rattle.live_state.specs.ExistingQueues.{PlainOpenTab}
use Rattle.live_state.specs.TabPlaces.{IsAt, IsGap}
use Rattle.live_state.specs.Queues.{is_ready, sent, with_queues}
use Rattle.live_state.proofs.FramesInPlaceLemmas.{IsWritten, indexed-told, number-before, ready-written, tabs-changed, written}
use Rattle.live_state.proofs.LabelLemmas.{after_one, frame-differs, sent-here, sent-others}
use Rattle.live_state.proofs.LiveLemmas.{changed-none_of, ready-at}
use Rattle.live_state.proofs.SearchLemmas.{plain_of}
use Rattle.live_state.proofs.live.Live.push_event.Goals as goal
use Rattle.live_state.proofs.live.Live.push_event.Goals.{After-self-1}

changed : (c : After-self-1) → IsWritten c.args.at.tab c.args.self.now.tabs c.self.inside.tabs.items c.in-Ok.place c.at_mut.result.now c.push.new.self
changed c = written c.in-Ok.ensures.place (search rules) c.at_mut.ensures.value (ap (λ t. t.number) c.push.ensures.pushed) (ap (λ live. live.tabs) c.self.view_is)

pub push-requires : goal.push-requires
push-requires c = record {
  ready =
      let items : List PlainOpenTab = c.self.inside.tabs.items in
      let at : IsAt c.args.at.tab (plain_of items) c.in-Ok.place = c.in-Ok.ensures.place in
      sym (ready-at c.args.at.tab items c.in-Ok.place at c.at_mut.result.now (search rules) c.at_mut.ensures.value c.args.at refl)
      ∙ ap (λ live. is_ready live c.args.at) c.self.view_is
      ∙ c.requires.ready;
}

pub invariant_of-self : goal.invariant_of-self
invariant_of-self c =
    indexed-told (changed c) c.self.inside.sites.numbers c.self.invariant (ap (λ t. t.frames) c.push.ensures.pushed)

pub returns-in-Ok : goal.returns-in-Ok
returns-in-Ok c =
    let event = plain_event c.args.event in record {
      sent =
          tabs-changed (changed c) (with_queues (after_one c.args.at event)) (sent-others c.args.at event)
          (c.push.ensures.pushed ∙ sym (sent-here c.args.at event c.at_mut.result.now.plain (number-before (changed c))));
      kept = λ other differ ready.
          ready-written (changed c) other (λ here. c.push.ensures.kept other.frame (frame-differs other c.args.at here differ))
          (ap (λ live. is_ready live other) c.self.view_is ∙ ready);
      room = search rules;
    }

pub returns-in_default-clause-sent : goal.returns-in_default-clause-sent
returns-in_default-clause-sent c =
    let items : List PlainOpenTab = c.self.inside.tabs.items in
    let gap : IsGap c.args.at.tab (plain_of items) c.in_default.field-0 = c.in_default.ensures.place in
    let event = plain_event c.args.event in
    sym (ap (λ live. live.tabs) c.self.view_is)
    ∙ changed-none_of c.args.at.tab (with_queues (after_one c.args.at event)) (sent-others c.args.at event) (plain_of items) c.in_default.field-0 gap
    ∙ ap (λ live. sent ((c.args.at, event) ∷ []) live.tabs) c.self.view_is
