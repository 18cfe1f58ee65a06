-- What is stored in place is done after the marks, and else both cells are prepared to be stored.
use Rattle.std.proofs.Common.{map, subst}
use Rattle.std.specs.Prelude.{IfSome}
use Rattle.agent_model.specs.CookieStore.{cookie_texts, store_texts}
use Rattle.web_cookies.specs.CellsOfUse.{found}
use Rattle.web_cookies.specs.InPlace.{AreInPlace}
use Rattle.script_actions.specs.Plain.{head_field_of}
use Rattle.web_cookies.specs.Uses.{plain_use}
use Rattle.web_cookies.proofs.LeftLemmas.{shared_same, partitioned_same}
use Rattle.web_cookies.proofs.cookies.Cookies.prepare.Goals as goal

pub returns-in_default-clause-shared : goal.returns-in_default-clause-shared
returns-in_default-clause-shared c = shared_same c.args.self.now c.prepare_storing.new.self c.prepare_storing.ensures.same

pub returns-in_default-clause-partitioned : goal.returns-in_default-clause-partitioned
returns-in_default-clause-partitioned c = partitioned_same c.args.self.now c.prepare_storing.new.self c.prepare_storing.ensures.same

pub returns-clause-prepared : goal.returns-clause-prepared
returns-clause-prepared c =
    let rules = c.args.input.now.list.now.rules in
    let now = c.args.input.now.clock in
    let how = plain_use c.args.how.now in
    let head = map head_field_of c.args.head.now in
    c.marking.ensures.prepared rules how head c.args.self.now c.in_ok-keys.ensures.keys c.in_ok-sending.ensures.sending
    (subst (λ o. IfSome o (λ r. AreInPlace (λ both. store_texts rules now how both (cookie_texts head)) (found rules how c.args.self.now) r.0 (map (λ word. word.now) r.1.items)))
    c.in-Some.is c.in_ok-in_place.ensures.stored)
