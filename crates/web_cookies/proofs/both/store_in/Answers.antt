-- The plan is done, or the cookie is dropped.
use Rattle.std.proofs.Common.{rules, ◌≡◌, ◌⊎◌, ◌++◌, map, pos, refl, ap, sym, ◌∙◌, subst}
use Rattle.std.specs.Prelude.{Ok, Err}
use Rattle.std.proofs.lemmas.Result.{IfOk-weaker, on_ok_weaker}
use mir.Syntax.{w64}
use mir.Val.{of_z, to_z}
use Rattle.setcookie_parse.specs.Plain.{plain_text}
use Rattle.cookie_jar.specs.declared.cause.CookieDrop.TheVariants as why
use Rattle.cookie_jar.specs.Key.{plain_key}
use Rattle.cookie_jar.specs.Planned.{planned}
use Rattle.cookie_jar.specs.Plain.{plain_access}
use Rattle.row_changes.specs.Plain.{plain_change}
use Rattle.web_cookies.specs.Words.{rows_by}
use Rattle.web_cookies.proofs.TextLemmas.{both_hold, drop_left, drop_rows, left_by}
use Rattle.web_cookies.proofs.both.store_in.Goals as goal

pub returns-in-Ok : goal.returns-in-Ok
returns-in-Ok c =
    let own_rules = c.args.input.now.list.now.rules in
    let text = plain_text c.args.cookie.now in
    let access = plain_access c.args.access.now in
    let kind = c.args.jar.now.kind in
    let cookies = c.args.jar.now.cookies in
    let back : to_z w64 (of_z w64 c.signed.result) ≡ c.signed.result = search rules in
    let moment : to_z w64 (of_z w64 c.signed.result) ≡ pos c.args.input.now.clock = back ∙ c.signed.ensures.number in
    let is : planned own_rules text access kind (pos c.args.input.now.clock) cookies ≡ Ok c.in-Ok.plan =
    subst (λ n. planned own_rules text access kind n cookies ≡ Ok c.in-Ok.plan) moment c.in-Ok.ensures.answer in
    record {
      stored = both_hold c.perform.result _ _
          (λ left word told. left_by (planned own_rules text access kind (pos c.args.input.now.clock) cookies) c.in-Ok.plan cookies c.perform.new.jar.cookies word.now is left told)
          c.perform.ensures.cookies c.perform.ensures.word;
      rows = on_ok_weaker c.perform.result
          (λ rows. rows ∙ ap (λ plan. map plain_change c.args.rows.now.items ++ rows_by (plain_key c.args.cell.now) plan) (sym is))
          c.perform.ensures.rows;
      kind = c.perform.ensures.kind;
    }

pub returns-in-Err : goal.returns-in-Err
returns-in-Err c =
    let own_rules = c.args.input.now.list.now.rules in
    let text = plain_text c.args.cookie.now in
    let access = plain_access c.args.access.now in
    let kind = c.args.jar.now.kind in
    let cookies = c.args.jar.now.cookies in
    let expected = planned own_rules text access kind (pos c.args.input.now.clock) cookies in
    let back : to_z w64 (of_z w64 c.signed.result) ≡ c.signed.result = search rules in
    let moment : to_z w64 (of_z w64 c.signed.result) ≡ pos c.args.input.now.clock = back ∙ c.signed.ensures.number in
    let answer : (c.in-Err.why ≡ why.NoMemory) ⊎ (expected ≡ Err c.in-Err.why) =
    subst (λ n. (c.in-Err.why ≡ why.NoMemory) ⊎ (planned own_rules text access kind n cookies ≡ Err c.in-Err.why)) moment c.in-Err.ensures.answer in
    record {
      stored = IfOk-weaker c.word_of_drop.result _ _ (λ word told. drop_left expected c.in-Err.why cookies word.now answer told) c.word_of_drop.ensures;
      rows = drop_rows c.word_of_drop.result (λ word. word.now) expected c.in-Err.why (plain_key c.args.cell.now) (map plain_change c.args.rows.now.items) answer c.word_of_drop.ensures;
      kind = refl;
    }
