-- The text is read as this cookie.
use Rattle.std.proofs.Common.{rules, ◌≡◌, pos, ap, subst, ◌∙◌}
use Rattle.std.specs.Prelude.{IfOk, IfSome}
use mir.Syntax.{w64}
use mir.Val.{of_z, to_z}
use Rattle.setcookie_parse.specs.SetCookie.{set_cookie_text}
use Rattle.agent_model.specs.CookieStore.{store_parsed}
use Rattle.web_cookies.specs.CellsOfUse.{found}
use Rattle.web_cookies.specs.InPlace.{IsInPlace}
use Rattle.web_cookies.specs.Uses.{plain_use}
use Rattle.web_cookies.proofs.cookies.Cookies.text_in_place.Goals as goal

pub returns-in-Kept : goal.returns-in-Kept
returns-in-Kept c =
    let own_rules = c.args.input.now.list.now.rules in
    let how = plain_use c.args.how.now in
    let back : to_z w64 (of_z w64 c.signed.result) ≡ c.signed.result = search rules in
    let moment : to_z w64 (of_z w64 c.signed.result) ≡ pos c.args.input.now.clock = back ∙ c.signed.ensures.number in
    let read = c.in-Kept.ensures.meaning ∙ ap (set_cookie_text c.args.text.now) moment in
    record {
      stored = subst (λ parsed. IfOk c.cookie_in_place.result (λ r. IfSome r (λ r. IsInPlace (λ both. store_parsed own_rules c.args.input.now.clock how both parsed) (found own_rules how c.args.self.now) r.0 r.1.now)))
          read c.cookie_in_place.ensures.stored;
    }
