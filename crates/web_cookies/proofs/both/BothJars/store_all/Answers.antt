-- One field more, and all of them.
use Rattle.std.proofs.Common.{◌≡◌, ◌++◌, ◌∷◌, ◌+◌, [], map, take, refl, sym, ap, ◌∙◌, append-nil}
use Rattle.std.proofs.lemmas.List.{map-append, take_all, take_more}
use Rattle.script_actions.specs.Plain.{head_field_of}
use Rattle.row_changes.specs.Plain.{plain_change}
use Rattle.agent_model.specs.CookieStore.{cookie_texts, store_texts}
use Rattle.web_cookies.specs.Uses.{plain_use}
use Rattle.web_cookies.proofs.TextLemmas.{changes_step, texts_step}
use Rattle.web_cookies.proofs.both.BothJars.store_all.Goals as goal

pub loop-field-init : goal.loop-field-init
loop-field-init c = (refl, ap (map (λ word. word.now)) c.new-words.ensures.items, sym (append-nil (map plain_change c.args.rows.now.items)))

pub loop-field-preserved : goal.loop-field-preserved
loop-field-preserved c =
    let head = c.args.head.now in
    let index = c.loop-field.field-index in
    let more : map head_field_of (take (index + 1) head) ≡ map head_field_of (take index head) ++ head_field_of c.field-item.result ∷ [] =
    ap (map head_field_of) (take_more head index c.field-item.result c.loop-field-test.true ∙ ap (λ x. take index head ++ x ∷ []) (sym c.field-item.is))
    ∙ map-append head_field_of (take index head) (c.field-item.result ∷ []) in
    let step = texts_step c.args.input.now.list.now.rules c.args.input.now.clock (plain_use c.args.how.now) (map head_field_of (take index head)) (head_field_of c.field-item.result)
    c.args.self.now c.loop-field.self c.store_field.new.self
    (map (λ word. word.now) c.loop-field.words.items) (map (λ word. word.now) c.store_field.new.words.items)
    c.loop-field.invariant.0 c.loop-field.invariant.1
    c.in_ok-store_field.ensures.stored c.in_ok-store_field.ensures.words in
    let rows = changes_step c.args.input.now.list.now.rules c.args.input.now.clock (plain_use c.args.how.now) (map head_field_of (take index head)) (head_field_of c.field-item.result)
    c.args.self.now c.loop-field.self (map plain_change c.args.rows.now.items)
    (map plain_change c.loop-field.rows.items) (map plain_change c.store_field.new.rows.items)
    c.loop-field.invariant.0 c.loop-field.invariant.2 c.in_ok-store_field.ensures.rows in (
      ap (λ fields. (store_texts c.args.input.now.list.now.rules c.args.input.now.clock (plain_use c.args.how.now) c.args.self.now (cookie_texts fields)).both) more ∙ step.0,
      step.1 ∙ ap (λ fields. (store_texts c.args.input.now.list.now.rules c.args.input.now.clock (plain_use c.args.how.now) c.args.self.now (cookie_texts fields)).words) (sym more),
      rows ∙ ap (λ fields. map plain_change c.args.rows.now.items
          ++ (store_texts c.args.input.now.list.now.rules c.args.input.now.clock (plain_use c.args.how.now) c.args.self.now (cookie_texts fields)).changes) (sym more),
    )

pub returns : goal.returns
returns c =
    let all : take c.loop-field.field-index c.args.head.now ≡ c.args.head.now = take_all c.loop-field.field-index c.args.head.now c.loop-field-test.false in
    let texts : cookie_texts (map head_field_of (take c.loop-field.field-index c.args.head.now)) ≡ cookie_texts (map head_field_of c.args.head.now) = ap (λ fields. cookie_texts (map head_field_of fields)) all in
    let same_rows = ap (λ ts. map plain_change c.args.rows.now.items
    ++ (store_texts c.args.input.now.list.now.rules c.args.input.now.clock (plain_use c.args.how.now) c.args.self.now ts).changes) texts in
    record {
      rows = c.loop-field.invariant.2 ∙ same_rows;
      stored =
          let same = ap (store_texts c.args.input.now.list.now.rules c.args.input.now.clock (plain_use c.args.how.now) c.args.self.now) (sym texts) in
          (ap (λ stored. stored.both) same ∙ c.loop-field.invariant.0, ap (λ stored. stored.words) same ∙ sym c.loop-field.invariant.1);
    }
