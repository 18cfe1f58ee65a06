-- The name is removed, and each document that hears is told.
use Rattle.std.proofs.Common.{◌≡◌, false, None, Some, rules, ap, subst, ◌∙◌}
use Rattle.std.specs.Prelude.{is_none, option_copied}
use Rattle.local_area.specs.Area.{area_remove}
use Rattle.storage_key.specs.Plain.{plain_key}
use Rattle.storage_events.specs.Event.{PlainEvent}
use Rattle.live_state.specs.Queues.{are_distinct, is_ready}
use Rattle.frame_tree.specs.Document.{PlainDocument}
use Rattle.row_changes.specs.Appended.{IsAppended}
use Rattle.agent_model.specs.Documents.{Keyed}
use Rattle.agent_model.specs.Effects.{Done}
use Rattle.agent_memory.specs.HoldingsView.{cells_of, held_of}
use Rattle.agent_memory.proofs.TreeLemmas.{trees_sent}
use Rattle.agent_memory.proofs.WriteLemmas.{events_ready, is_removed, is_written, none_copied, removed_is, these_sent}
use Rattle.agent_memory.proofs.WritesLemmas.{appended_front, front_same, writes_wanting}
use Rattle.agent_memory.proofs.holdings.Holdings.del.Goals as goal

pub send-requires : goal.send-requires
send-requires c = record {
  ready = events_ready c.in_ok-events.events.items (c.in_ok-events.ensures.labels ∙ c.as_slice.ensures.value)
      (is_ready c.reserve_queues.new.self) c.as_slice-2.ensures.value c.in_ok-reserve_queues.ensures.ready;
  distinct = ap are_distinct (c.in_ok-events.ensures.labels ∙ c.as_slice.ensures.value) ∙ c.in_ok-to.ensures.once;
}

pub invariant_of-self-2 : goal.invariant_of-self-2
invariant_of-self-2 c = trees_sent _ c.reserve_queues.ensures.same.0 c.send.ensures.sent c.self.invariant

pub returns : goal.returns
returns c =
    let old = c.args.self.now in
    let writer_of : PlainDocument → Keyed = λ document.
    record { at = c.args.at; document = document; key = plain_key c.args.key.now } in
    let found = option_copied c.value-before.result in
    let missing : is_none c.value-before.result ≡ false = search rules in
    let is_there : is_none found ≡ false = none_copied c.value-before.result ∙ missing in
    record {
      acts = λ document there.
          let event : PlainEvent = record {
            area = c.args.area;
            key = Some c.args.name.now;
            before =
                found;
            after = None;
            url = document.address.text;
          } in
          is_removed c.args.area (writer_of document) c.args.name.now (cells_of old) (held_of old)
          found old _ _ is_there c.value-before.ensures.value
          (is_written event (writer_of document) (area_remove c.args.name.now)
          _ _ c.self.view_is c.self.invariant c.in_ok-to.ensures.rising c.reserve_queues.new.self
          c.reserve_queues.ensures.same.0
          (these_sent event c.in_ok-events.ensures.events (c.url-url.ensures.url document there)
          (c.as_slice.ensures.value ∙ c.in_ok-to.ensures.hearers))
          c.send.ensures.sent c.in_ok-remove.ensures.removed c.answer-2.ensures);
      limit = c.write_in.ensures.limit;
      changes = λ document there.
          subst (λ (d : Done). IsAppended d.changes c.args.body.now.bytes c.write_in.new.body.bytes)
          (removed_is c.args.area (writer_of document) c.args.name.now (cells_of old) (held_of old)
          found is_there c.value-before.ensures.value)
          c.in_ok-write_in.ensures.changes;
    }

pub returns-in_err-events-clause-changes : goal.returns-in_err-events-clause-changes
returns-in_err-events-clause-changes c = λ document there. writes_wanting _ c.args.body.now.bytes
    c.args.body.now.bytes c.from_residual-in_err-events.result c.from_residual-in_err-events.ensures.0
    (front_same c.args.body.now.bytes)

pub returns-in_err-reserve_queues-clause-changes : goal.returns-in_err-reserve_queues-clause-changes
returns-in_err-reserve_queues-clause-changes c = λ document there. writes_wanting _ c.args.body.now.bytes
    c.args.body.now.bytes c.from_residual-in_err-reserve_queues.result
    c.from_residual-in_err-reserve_queues.ensures.0 (front_same c.args.body.now.bytes)

pub returns-in_err-remove-clause-changes : goal.returns-in_err-remove-clause-changes
returns-in_err-remove-clause-changes c = λ document there. writes_wanting _ c.args.body.now.bytes
    c.write_in.new.body.bytes c.from_residual-in_err-remove.result c.from_residual-in_err-remove.ensures.0
    (appended_front _ c.args.body.now.bytes c.write_in.new.body.bytes c.in_ok-write_in.ensures.changes)
