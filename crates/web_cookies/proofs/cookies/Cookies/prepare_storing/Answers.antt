-- The cells that are marked, and the texts that are stored in them.
use Rattle.std.proofs.Common.{◌≡◌, ◌++◌, Some, map, ap, subst, ◌∙◌}
use Rattle.std.specs.Prelude.{option_map, string_bytes}
use Rattle.std.specs.Rc.{rc_value}
use Rattle.reply_lines.specs.Plain.{body_of}
use Rattle.cookie_jar.specs.Sending.{joined}
use Rattle.script_actions.specs.Plain.{head_field_of}
use Rattle.row_changes.specs.Plain.{plain_change}
use Rattle.agent_model.specs.CookieStore.{cookie_texts, own_places, partition_places, sent, store_texts}
use Rattle.web_cookies.specs.Uses.{plain_use}
use Rattle.web_cookies.specs.CellsOfUse.{HasKey, found}
use Rattle.web_cookies.specs.Keys.{own_of, partition_of}
use Rattle.web_cookies.proofs.PreparedLemmas.{header_told, marked_is, request_prepared}
use Rattle.web_cookies.proofs.cookies.Cookies.prepare_storing.Goals as goal

pub returns-clause-prepared : goal.returns-clause-prepared
returns-clause-prepared c =
    let rules = c.args.input.now.list.now.rules in
    let now = c.args.input.now.clock in
    let how = plain_use c.args.how.now in
    let at = found rules how c.args.self.now in
    let mid = c.copies.new.self in
    let s = c.in_ok-own_places.field-0 in
    let is = c.both.view_is ∙ c.in_ok-both.ensures.found in
    let sent_at = c.in_ok-own_places.ensures in
    let keys : c.deref.result.now ≡ rc_value c.args.keys = search in
    let marks = marked_is rules now how at c.deref-2.result.now c.deref-3.result.now c.in_ok-both.both c.mark.new.self c.in_ok-both.ensures.found
    c.mark.ensures.own c.mark.ensures.partition
    (c.deref-2.ensures.value ∙ sent_at.own ∙ ap (own_places now how) is)
    (c.deref-3.ensures.value ∙ sent_at.partition ∙ ap (partition_places now how) is) in
    let tells = header_told rules now how at c.deref-5.result.now c.deref-6.result.now (string_bytes s.text) (option_map string_bytes c.header_value.result)
    c.header_value.ensures.value
    (c.deref-5.ensures.value ∙ sent_at.own ∙ ap (own_places now how) is)
    (c.deref-6.ensures.value ∙ sent_at.partition ∙ ap (partition_places now how) is)
    (sent_at.text ∙ ap (λ both. joined (sent now how both)) is) in
    let rows = c.in_ok-words.ensures.rows
    ∙ ap (λ items. map plain_change items
    ++ (store_texts rules now how c.mark.new.self (cookie_texts (map head_field_of c.args.head.now))).changes) c.new-rows.ensures.items in
    request_prepared rules now how c.args.self.now mid (map head_field_of c.args.head.now) c.storing.result
    c.mark.new.self c.store_all.new.self (option_map string_bytes c.header_value.result) (map (λ word. word.now) c.in_ok-words.words.items)
    c.copies.ensures.same marks c.in_ok-words.ensures.stored (ap (λ v. map plain_change v.items) c.storing.ensures.rows ∙ rows) tells (ap body_of c.storing.ensures.body)
    (c.storing.ensures.left rules how mid c.requires.keys)
    (c.storing.ensures.ready mid (subst (λ keys. HasKey (own_of keys) mid) keys c.in_ok-both.ensures.own)
    (subst (λ keys. HasKey (Some (partition_of keys)) mid) keys c.in_ok-both.ensures.partition))
