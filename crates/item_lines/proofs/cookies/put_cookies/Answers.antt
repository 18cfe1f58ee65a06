use Rattle.std.proofs.Common.{◌≡◌, ◌∷◌, ◌++◌, ◌<◌, ◌≤◌, [], ap, arith, length, subst, sym, ◌∙◌, append_assoc, map}
use Rattle.std.specs.Prelude.{codes}
use Rattle.std.proofs.lemmas.List.{drop_all, take_all}
use Rattle.std.proofs.lemmas.Option.{get_or_from_slice_get}
use Rattle.json.specs.Token.{begin_array, key}
use Rattle.serde_json.specs.View.{items_of}
use Rattle.cookie_jar.specs.Plain.{plain_cookie}
use Rattle.item_lines.specs.Numbers.{ItemsHaveShortNumbers}
use Rattle.item_lines.specs.Parts.{cookie_data}
use Rattle.item_lines.proofs.ListLemmas.{left, one_more, short_more}
use Rattle.item_lines.proofs.cookies.put_cookies.Goals as goal

pub loop-place-init : goal.loop-place-init
loop-place-init c =
    let old = c.args.writer.now.tokens in
    let values = left cookie_data c.args.jar.now.cookies in
    let begun : c.begin_array.new.self.tokens ≡ old ++ key (codes "cookies") ∷ begin_array ∷ [] =
    c.in_ok-begin_array.ensures.ok ∙ ap (λ ts. ts ++ begin_array ∷ []) c.in_ok-key.ensures.ok ∙ append_assoc old (key (codes "cookies") ∷ []) (begin_array ∷ []) in (
      c.in_ok-begin_array.ensures.room.0 ∙ c.in_ok-key.ensures.room.0,
      sym (append_assoc old (key (codes "cookies") ∷ begin_array ∷ []) values) ∙ ap (λ ts. ts ++ values) (sym begun),
      tt,
    )

pub loop-place-preserved : goal.loop-place-preserved
loop-place-preserved c =
    let cookies = c.args.jar.now.cookies in
    let k = c.loop-place.place in
    let cookie = plain_cookie c.in-Some.cookie.now in
    let inside : k < length cookies = omega (arith, c.loop-place-test.true, c.len-place-end.ensures.value) in
    let here = sym (get_or_from_slice_get cookies k cookie cookie (sym c.in-Some.ensures.value)) in
    let more = c.in_ok-put_cookie.ensures in (
      more.before ∙ c.loop-place.invariant.0,
      one_more cookie_data cookies k cookie cookie _ c.loop-place.writer.tokens c.put_cookie.new.writer.tokens inside here c.loop-place.invariant.1 more.tokens,
      short_more cookie_data cookies k cookie cookie inside here c.loop-place.invariant.2 more.holds,
    )

pub returns : goal.returns
returns c =
    let cookies = c.args.jar.now.cookies in
    let k = c.loop-place.place in
    let all : length cookies ≤ k = omega (arith, c.loop-place-test.false, c.len-place-end.ensures.value) in
    record {
      tokens = c.in_ok-end_array.ensures.ok ∙ sym (c.loop-place.invariant.1 ∙ ap (λ cs. c.loop-place.writer.tokens ++ left cookie_data cs) (drop_all k cookies all));
      before = c.in_ok-end_array.ensures.room.0 ∙ c.loop-place.invariant.0;
      holds = subst (λ cs. ItemsHaveShortNumbers (items_of (map cookie_data cs))) (take_all k cookies all) c.loop-place.invariant.2;
    }
