-- The pair is stored within the quota, and each document that hears is told; past it all stays.
use Rattle.std.proofs.Common.{◌≡◌, ◌≤◌, ◌<◌, List, [], Some, ap, sym, string_bytes, subst, take, ◌∙◌}
use Rattle.local_area.specs.Area.{Pair, area_put, area_weight, quota}
use Rattle.web_storage.specs.Stored.{Entries, held_with}
use Rattle.web_cookies.specs.Stored.{shared_in}
use Rattle.agent_model.specs.Partition.{Holdings, area_of, with_area}
use Rattle.agent_model.specs.AreaActions.{pairs_of}
use Rattle.agent_memory.specs.AgentState.{beside_storage, places_in}
use Rattle.storage_key.specs.Plain.{plain_key}
use Rattle.storage_events.specs.Event.{PlainEvent}
use Rattle.live_state.specs.Queues.{are_distinct, is_ready}
use Rattle.frame_tree.specs.Document.{PlainDocument}
use Rattle.row_changes.specs.Appended.{IsAppended}
use Rattle.agent_model.specs.Documents.{Keyed}
use Rattle.agent_model.specs.Effects.{Done}
use Rattle.agent_memory.specs.Documents.{each_sent}
use Rattle.agent_memory.specs.FrameTrees.{AreTrees}
use Rattle.agent_memory.specs.HoldingsView.{HoldingsView, cells_of, held_of}
use Rattle.agent_memory.proofs.ShownLemmas.{shown}
use Rattle.agent_memory.proofs.TreeLemmas.{trees_sent}
use Rattle.agent_memory.proofs.WriteLemmas.{events_ready, is_past, is_refused, is_stored, is_within, is_written, refused_is, stored_is}
use Rattle.agent_memory.proofs.WritesLemmas.{appended_front, cut_back, front_same, none_appended, writes_wanting}
use Rattle.agent_memory.proofs.holdings.Holdings.store.Goals as goal

pub send-requires : goal.send-requires
send-requires c = record {
  ready = events_ready c.args.events.items c.requires.labels (is_ready c.reserve_queues.new.self)
      c.as_slice.ensures.value c.in_ok-reserve_queues.ensures.ready;
  distinct = ap are_distinct c.requires.labels ∙ c.requires.once;
}

pub invariant_of-self : goal.invariant_of-self
invariant_of-self c = subst AreTrees (sym c.reserve_queues.ensures.same.0) c.self.invariant

pub invariant_of-self-in-Ok : goal.invariant_of-self-in-Ok
invariant_of-self-in-Ok c = trees_sent _ c.reserve_queues.ensures.same.0 c.send.ensures.sent c.self.invariant

pub returns-in-Ok : goal.returns-in-Ok
returns-in-Ok c =
    let area = c.args.area in
    let name = c.args.name.now in
    let value = c.args.value.now in
    let old : HoldingsView = c.args.self.now in
    let mid : HoldingsView = record (shown c.self.inside) { live = c.reserve_queues.new.self } in
    let writer_of : PlainDocument → Keyed = λ document.
    record { at = c.args.at; document = document; key = plain_key c.args.key.now } in
    let pairs_with : PlainDocument → Entries → List Pair = λ document entries. pairs_of area
    (writer_of document) (held_with (beside_storage old.live.tabs old.cookies old.grants) entries) in
    let entries : mid.storage ≡ old.storage = ap (λ (h : HoldingsView). h.storage) c.self.view_is in
    let put : area_put (string_bytes c.in_ok-name.name) (string_bytes c.in_ok-value.value) ≡ area_put name value =
    λ i. area_put (c.in_ok-name.ensures.ok i) (c.in_ok-value.ensures.ok i) in
    let within : (document : PlainDocument) → area_weight (area_put name value
    (pairs_of area (writer_of document) (held_of old))) ≤ quota =
    λ document. subst (λ pairs. area_weight pairs ≤ quota) (λ i. put i (pairs_with document (entries i)))
    (is_within c.in-Ok.field-0 (area_weight (area_put (string_bytes c.in_ok-name.name)
    (string_bytes c.in_ok-value.value) (pairs_with document mid.storage)))
    (c.in-Ok.ensures.quota (beside_storage old.live.tabs old.cookies old.grants))) in
    record {
      acts = λ made these document there.
          let event : PlainEvent = record made { area = area } in
          is_stored area (writer_of document) (area_put name value
          (pairs_of area (writer_of document) (held_of old))) event (cells_of old) (held_of old) old _ _ (within document)
          (is_written event (writer_of document) (area_put name value)
          _ _ c.self.view_is c.self.invariant c.requires.rising c.reserve_queues.new.self c.reserve_queues.ensures.same.0
          (these ∙ ap (each_sent event) c.requires.hearers) c.send.ensures.sent
          (subst (λ put. (beside : Holdings) → let before = held_with beside mid.storage in
          held_with beside c.put.new.self ≡ with_area area c.args.at.tab (plain_key c.args.key.now)
          (put (area_of area c.args.at.tab (plain_key c.args.key.now) before)) before)
          put c.in-Ok.ensures.stored)
          c.answer.ensures);
      limit = c.write_in.ensures.limit;
      changes = λ made document there.
          let event : PlainEvent = record made { key = Some name; after = Some value } in
          subst (λ (d : Done). IsAppended d.changes c.args.body.now.bytes c.write_in.new.body.bytes)
          (sym (stored_is area (writer_of document)
          (area_put name value (pairs_of area (writer_of document) (held_of old))) event (cells_of old)
          (held_of old) (within document)))
          c.in_ok-write_in.ensures.changes;
    }

pub returns-in-Err-Quota : goal.returns-in-Err-Quota
returns-in-Err-Quota c =
    let area = c.args.area in
    let name = c.args.name.now in
    let value = c.args.value.now in
    let old : HoldingsView = c.args.self.now in
    let mid : HoldingsView = record (shown c.self.inside) { live = c.reserve_queues.new.self } in
    let writer_of : PlainDocument → Keyed = λ document.
    record { at = c.args.at; document = document; key = plain_key c.args.key.now } in
    let pairs_with : PlainDocument → Entries → List Pair = λ document entries. pairs_of area
    (writer_of document) (held_with (beside_storage old.live.tabs old.cookies old.grants) entries) in
    let entries : mid.storage ≡ old.storage = ap (λ (h : HoldingsView). h.storage) c.self.view_is in
    let own : mid.cookies ≡ old.cookies = ap (λ (h : HoldingsView). h.cookies) c.self.view_is in
    let rows : mid.grants ≡ old.grants = ap (λ (h : HoldingsView). h.grants) c.self.view_is in
    let tabs : mid.live.tabs ≡ old.live.tabs = c.reserve_queues.ensures.same.0
    ∙ ap (λ (h : HoldingsView). h.live.tabs) c.self.view_is in
    let put : area_put (string_bytes c.in_ok-name.name) (string_bytes c.in_ok-value.value) ≡ area_put name value =
    λ i. area_put (c.in_ok-name.ensures.ok i) (c.in_ok-value.ensures.ok i) in
    let past : (document : PlainDocument) → quota < area_weight
    (area_put name value (pairs_of area (writer_of document) (held_of old))) =
    λ document. subst (λ pairs. quota < area_weight pairs) (λ i. put i (pairs_with document (entries i)))
    (is_past c.in-Err-Quota.field-0 c.in-Err-Quota.field-0-0
    (area_weight (area_put (string_bytes c.in_ok-name.name) (string_bytes c.in_ok-value.value)
    (pairs_with document mid.storage)))
    c.in-Err-Quota.field-0-is (c.in-Err-Quota.ensures.causes
    (beside_storage old.live.tabs old.cookies old.grants))
    (c.in-Err-Quota.ensures.quota (beside_storage old.live.tabs old.cookies old.grants))) in
    record {
      acts = λ made these document there.
          let event : PlainEvent = record made { area = area } in
          is_refused area (writer_of document) (area_put name value
          (pairs_of area (writer_of document) (held_of old))) event (cells_of old) (held_of old) old _ _ (past document)
          (record {
            held = (λ i. held_with (beside_storage (tabs i) (own i) (rows i)) c.put.new.self)
                ∙ c.in-Err-Quota.ensures.unchanged (beside_storage old.live.tabs old.cookies old.grants)
                ∙ ap (held_with (beside_storage old.live.tabs old.cookies old.grants)) entries;
            cells = ap shared_in own;
            answer = c.answer-in-Err-Quota.ensures;
            places = ap places_in tabs;
          });
      limit = c.truncate.ensures.limit ∙ c.write_in.ensures.limit;
      changes = λ made document there.
          let event : PlainEvent = record made { key = Some name; after = Some value } in
          let before = c.args.body.now.bytes in
          let cut : c.truncate.new.self.bytes ≡ before =
          c.truncate.ensures.bytes ∙ ap (λ n. take n c.write_in.new.body.bytes) c.len-before.ensures.len
          ∙ cut_back before c.write_in.new.body.bytes
          (appended_front _ before c.write_in.new.body.bytes c.in_ok-write_in.ensures.changes) in
          subst (λ (d : Done). IsAppended d.changes before c.truncate.new.self.bytes)
          (sym (refused_is area (writer_of document)
          (area_put name value (pairs_of area (writer_of document) (held_of old))) event (cells_of old)
          (held_of old) (past document)))
          (subst (λ end. IsAppended [] before end) (sym cut) (none_appended before));
    }

pub returns-in_err-reserve_queues-clause-changes : goal.returns-in_err-reserve_queues-clause-changes
returns-in_err-reserve_queues-clause-changes c = λ made document there. writes_wanting _ c.args.body.now.bytes
    c.args.body.now.bytes c.from_residual.result c.from_residual.ensures.0 (front_same c.args.body.now.bytes)
