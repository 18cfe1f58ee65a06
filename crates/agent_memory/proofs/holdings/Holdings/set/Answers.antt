-- A name that has another value, or none, is given this one.
use Rattle.std.proofs.Common.{◌≡◌, Some, sym, subst}
use Rattle.std.proofs.lemmas.Bool.{true≢false}
use Rattle.std.specs.Prelude.{option_copied}
use Rattle.frame_tree.specs.Document.{PlainDocument}
use Rattle.storage_key.specs.Plain.{plain_key}
use Rattle.storage_events.specs.Event.{PlainEvent}
use Rattle.agent_model.specs.AreaActions.{set_item}
use Rattle.agent_model.specs.Documents.{Keyed}
use Rattle.agent_model.specs.Effects.{Done}
use Rattle.agent_memory.specs.HoldingsView.{cells_of, held_of}
use Rattle.row_changes.specs.Appended.{Appends}
use Rattle.agent_memory.specs.Actions.{Acts, put_sent}
use Rattle.agent_memory.proofs.WriteLemmas.{is_set, these_sent}
use Rattle.agent_memory.proofs.WritesLemmas.{front_same, writes_wanting}
use Rattle.agent_memory.proofs.holdings.Holdings.set.Goals as goal

pub returns : goal.returns
returns c =
    let area = c.args.area in
    let name = c.args.name.now in
    let value = c.args.value.now in
    let old = c.args.self.now in
    let found = option_copied c.value-before.result in
    let event_of : PlainDocument → PlainEvent = λ document.
    record { area = area; key = Some name; before = found; after = Some value; url = document.address.text } in
    let is : (document : PlainDocument) → let writer : Keyed =
    record { at = c.args.at; document = document; key = plain_key c.args.key.now } in
    put_sent area name value (event_of document) writer (cells_of old) (held_of old)
    ≡ set_item area name value writer (cells_of old) (held_of old) =
    λ document. is_set area (record { at = c.args.at; document = document; key = plain_key c.args.key.now })
    name (cells_of old) (held_of old) value found
    (λ equal. true≢false (sym (c.if-is_text.ensures.1 equal))) c.value-before.ensures.value in
    record {
      acts = λ document there.
          subst (λ (d : Done). Acts (λ _ _. d) old c.store.new.self c.store.result) (is document)
          (c.store.ensures.acts (event_of document)
          (these_sent (event_of document) c.in_ok-events.ensures.events
          (c.url-url.ensures.url document there) c.as_slice.ensures.value) document there);
      limit = c.store.ensures.limit;
      changes = λ document there.
          subst (λ (d : Done). Appends d.changes c.args.body.now.bytes c.store.new.body.bytes c.store.result)
          (is document) (c.store.ensures.changes (event_of document) document there);
    }

pub returns-in_err-events-clause-changes : goal.returns-in_err-events-clause-changes
returns-in_err-events-clause-changes c = λ document there. writes_wanting _ c.args.body.now.bytes
    c.args.body.now.bytes c.from_residual-in_err-events.result c.from_residual-in_err-events.ensures.0
    (front_same c.args.body.now.bytes)
