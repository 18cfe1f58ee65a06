-- The cookie is put in the cell that it goes to.
use Rattle.std.proofs.Common.{◌≡◌, pos, subst, ◌∙◌}
use Rattle.std.specs.Prelude.{IfSome}
use Rattle.setcookie_parse.specs.Plain.{plain_text}
use Rattle.cookie_jar.specs.Key.{plain_key}
use Rattle.cookie_jar.specs.Plain.{plain_access}
use Rattle.agent_model.specs.CookieUse.{own_cell}
use Rattle.web_cookies.specs.Cells.{cookies_at, kind_of}
use Rattle.web_cookies.specs.InPlace.{IsReplaced}
use Rattle.web_cookies.specs.Uses.{plain_use}
use Rattle.web_cookies.proofs.TextLemmas.{own_key_used, own_used}
use Rattle.web_cookies.proofs.InPlaceLemmas.{own_in_place, partition_in_place}
use Rattle.web_cookies.proofs.cookies.Cookies.cookie_in_place.Goals as goal

pub returns-in-Some : goal.returns-in-Some
returns-in-Some c =
    let rules = c.args.input.now.list.now.rules in
    let how = plain_use c.args.how.now in
    let text = plain_text c.args.cookie.now in
    let access = plain_access c.access_of-access.result in
    let key = plain_key c.own_cell-cell.result.now in
    let cell : plain_key c.own_cell-cell.result.now ≡ own_cell rules how =
    let is = c.own_cell-cell.ensures.cell ∙ c.requires.keys.own ∙ own_key_used rules how (own_used text how access c.access_of-access.ensures.value c.in-Own.ensures.value) in cc in
    let replaces = subst (λ o. IfSome o (IsReplaced rules (pos c.args.input.now.clock) text access (kind_of key) (cookies_at key c.args.self.now) key)) c.in-Some.is c.in_ok-stored-in-Own.ensures.replaced in
    record { stored = own_in_place rules c.args.input.now.clock how text access c.access_of-access.ensures.value c.args.self.now c.in-Some.stored c.in-Own.ensures.value key cell replaces }

pub returns-in-Some-2 : goal.returns-in-Some-2
returns-in-Some-2 c =
    let rules = c.args.input.now.list.now.rules in
    let how = plain_use c.args.how.now in
    let text = plain_text c.args.cookie.now in
    let access = plain_access c.access_of-access.result in
    let key = plain_key c.args.keys.now.partition in
    let replaces = subst (λ o. IfSome o (IsReplaced rules (pos c.args.input.now.clock) text access (kind_of key) (cookies_at key c.args.self.now) key)) c.in-Some-2.is c.in_ok-stored-in-Partition.ensures.replaced in
    record { stored = partition_in_place rules c.args.input.now.clock how text access c.access_of-access.ensures.value c.args.self.now c.in-Some-2.stored c.in-Partition.ensures.value key c.requires.keys.partition replaces }
