-- The area is emptied, and each document that hears is told.
use Rattle.std.proofs.Common.{[], None, ap, ◌∙◌}
use Rattle.storage_key.specs.Plain.{plain_key}
use Rattle.storage_events.specs.Event.{PlainEvent}
use Rattle.live_state.specs.Queues.{are_distinct, is_ready}
use Rattle.agent_model.specs.Documents.{Keyed}
use Rattle.agent_memory.proofs.TreeLemmas.{trees_sent}
use Rattle.agent_memory.proofs.WriteLemmas.{events_ready, is_written, these_sent}
use Rattle.agent_memory.proofs.holdings.Holdings.clear.Goals as goal

pub send-requires : goal.send-requires
send-requires c = record {
  ready = events_ready c.in_ok-events.events.items (c.in_ok-events.ensures.labels ∙ c.as_slice.ensures.value)
      (is_ready c.reserve_queues.new.self) c.as_slice-2.ensures.value c.in_ok-reserve_queues.ensures.ready;
  distinct = ap are_distinct (c.in_ok-events.ensures.labels ∙ c.as_slice.ensures.value) ∙ c.in_ok-to.ensures.once;
}

pub invariant_of-self-2 : goal.invariant_of-self-2
invariant_of-self-2 c = trees_sent _ c.reserve_queues.ensures.same.0 c.send.ensures.sent c.self.invariant

pub returns-clause-acts : goal.returns-clause-acts
returns-clause-acts c = λ document there.
    let writer : Keyed = record { at = c.args.at; document = document; key = plain_key c.args.key.now } in
    let event : PlainEvent = record {
      area = c.args.area;
      key = None;
      before = None;
      after = None;
      url =
          document.address.text;
    } in
    is_written event writer (λ pairs. []) _ _ c.self.view_is c.self.invariant c.in_ok-to.ensures.rising
    c.reserve_queues.new.self c.reserve_queues.ensures.same.0
    (these_sent event c.in_ok-events.ensures.events (c.url-url.ensures.url document there)
    (c.as_slice.ensures.value ∙ c.in_ok-to.ensures.hearers))
    c.send.ensures.sent c.clear.ensures.cleared c.answer.ensures
