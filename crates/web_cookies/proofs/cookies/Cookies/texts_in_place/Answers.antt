-- There is no text, or one.
use Rattle.std.proofs.Common.{◌∷◌, [], map, ap, sym, subst, ◌∙◌}
use Rattle.std.specs.Prelude.{IfSome}
use Rattle.script_actions.specs.Plain.{head_field_of}
use Rattle.row_changes.specs.Plain.{plain_change}
use Rattle.agent_model.specs.CookieStore.{store_text, store_texts}
use Rattle.web_cookies.specs.CellsOfUse.{found}
use Rattle.web_cookies.specs.InPlace.{AreInPlace, IsInPlace, both_used}
use Rattle.web_cookies.specs.Uses.{plain_use}
use Rattle.web_cookies.proofs.TextLemmas.{no_texts}
use Rattle.web_cookies.proofs.InPlaceLemmas.{one_in_place}
use Rattle.web_cookies.proofs.cookies.Cookies.texts_in_place.Goals as goal

pub returns-then-not-has_cookies : goal.returns-then-not-has_cookies
returns-then-not-has_cookies c =
    let rules = c.args.input.now.list.now.rules in
    let how = plain_use c.args.how.now in
    let none = no_texts head_field_of c.args.head.now (sym c.has_cookies.ensures.value ∙ c.if-not-has_cookies.true) in
    record {
      stored = λ own partition at.
          let used = both_used own partition at (found rules how c.args.self.now) in (
            (
              ap (λ texts. (store_texts rules c.args.input.now.clock how used texts).both) none,
              ap (λ texts. (store_texts rules c.args.input.now.clock how used texts).words) none ∙ sym (ap (map (λ word. word.now)) c.new-then-not-has_cookies.ensures.items),
            ),
            ap (map plain_change) c.new.ensures.items ∙ sym (ap (λ texts. (store_texts rules c.args.input.now.clock how used texts).changes) none),
          );
    }

pub returns : goal.returns
returns c =
    let rules = c.args.input.now.list.now.rules in
    let now = c.args.input.now.clock in
    let how = plain_use c.args.how.now in
    let at = found rules how c.args.self.now in
    let text = c.in-Some.text.now in
    let stored = c.in-Some-2.stored in
    let word = c.in-Some-2.word.now in
    let one = subst (λ o. IfSome o (λ r. IsInPlace (λ both. store_text rules now how both text) at r.0 r.1.now)) c.in-Some-2.is c.in_ok-stored.ensures.stored in
    record {
      stored = subst (λ texts. AreInPlace (λ both. store_texts rules now how both texts) at stored (map (λ word. word.now) c.in_ok-from_slice.field-0.items)) (sym c.in-Some.ensures.value)
          (subst (λ words. AreInPlace (λ both. store_texts rules now how both (text ∷ [])) at stored (map (λ word. word.now) words)) (sym c.in_ok-from_slice.ensures.items)
          (one_in_place rules now how at stored text word one));
    }
