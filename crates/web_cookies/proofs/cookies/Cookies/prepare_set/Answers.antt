-- The text is stored in place, or in copies of both cells.
use Rattle.std.proofs.Common.{◌≡◌, ◌++◌, Some, map, ap, ◌∙◌, subst}
use Rattle.std.specs.Prelude.{IfSome}
use Rattle.std.specs.Rc.{rc_value}
use Rattle.web_cookies.specs.CellsOfUse.{HasKey, found}
use Rattle.web_cookies.specs.Keys.{own_of, partition_of}
use Rattle.web_cookies.specs.InPlace.{IsInPlace}
use Rattle.reply_lines.specs.Plain.{body_of}
use Rattle.row_changes.specs.Plain.{plain_change}
use Rattle.agent_model.specs.CookieStore.{store_text}
use Rattle.web_cookies.specs.Uses.{plain_use}
use Rattle.web_cookies.specs.Words.{IsStored}
use Rattle.web_cookies.proofs.LeftLemmas.{shared_same, partitioned_same}
use Rattle.web_cookies.proofs.PreparedLemmas.{set_prepared}
use Rattle.web_cookies.proofs.cookies.Cookies.prepare_set.Goals as goal

pub returns-in_err-both-clause-shared : goal.returns-in_err-both-clause-shared
returns-in_err-both-clause-shared c = shared_same c.args.self.now c.copies.new.self c.copies.ensures.same

pub returns-in_err-both-clause-partitioned : goal.returns-in_err-both-clause-partitioned
returns-in_err-both-clause-partitioned c = partitioned_same c.args.self.now c.copies.new.self c.copies.ensures.same

pub returns-in_err-word-clause-shared : goal.returns-in_err-word-clause-shared
returns-in_err-word-clause-shared c = shared_same c.args.self.now c.copies.new.self c.copies.ensures.same

pub returns-in_err-word-clause-partitioned : goal.returns-in_err-word-clause-partitioned
returns-in_err-word-clause-partitioned c = partitioned_same c.args.self.now c.copies.new.self c.copies.ensures.same

pub returns-clause-shared : goal.returns-clause-shared
returns-clause-shared c = shared_same c.args.self.now c.copies.new.self c.copies.ensures.same

pub returns-clause-partitioned : goal.returns-clause-partitioned
returns-clause-partitioned c = partitioned_same c.args.self.now c.copies.new.self c.copies.ensures.same

pub returns-clause-prepared : goal.returns-clause-prepared
returns-clause-prepared c =
    let rules = c.args.input.now.list.now.rules in
    let now = c.args.input.now.clock in
    let how = plain_use c.args.how.now in
    let mid = c.copies.new.self in
    let keys : c.deref-2.result.now ≡ rc_value c.in_ok-keys.keys = search in
    let rows = c.in_ok-word.ensures.rows
    ∙ ap (λ items. map plain_change items ++ (store_text rules now how c.in_ok-both.both c.args.text.now).changes) c.new-rows.ensures.items
    ∙ ap (λ both. (store_text rules now how both c.args.text.now).changes) c.in_ok-both.ensures.found in
    set_prepared rules now how c.args.self.now mid c.args.text.now c.storing.result c.store.new.self c.in_ok-word.word.now c.copies.ensures.same
    (subst (λ both. IsStored (store_text rules now how both c.args.text.now) c.store.new.self c.in_ok-word.word.now) c.in_ok-both.ensures.found c.in_ok-word.ensures.stored)
    (ap (λ v. map plain_change v.items) c.storing.ensures.rows ∙ rows)
    (ap body_of c.storing.ensures.body)
    (c.storing.ensures.left rules how mid c.in_ok-keys.ensures.keys)
    (c.storing.ensures.ready mid (subst (λ keys. HasKey (own_of keys) mid) keys c.in_ok-both.ensures.own)
    (subst (λ keys. HasKey (Some (partition_of keys)) mid) keys c.in_ok-both.ensures.partition))

pub returns-in-Some-clause-prepared : goal.returns-in-Some-clause-prepared
returns-in-Some-clause-prepared c =
    let rules = c.args.input.now.list.now.rules in
    let now = c.args.input.now.clock in
    let how = plain_use c.args.how.now in
    c.setting.ensures.prepared rules now how c.args.text.now c.args.self.now c.in_ok-keys.ensures.keys
    (subst (λ o. IfSome o (λ r. IsInPlace (λ both. store_text rules now how both c.args.text.now) (found rules how c.args.self.now) r.0 r.1.now)) c.in-Some.is c.in_ok-in_place.ensures.stored)
