-- The plan stands where cookies were marked before.
use Rattle.std.proofs.Common.{rules, ◌≡◌, ◌++◌, ℕ, ℤ, List, map, pos, true, ap, sym, subst, ◌∙◌}
use Rattle.std.specs.Prelude.{IfSome, Ok}
use mir.Syntax.{w64}
use mir.Val.{of_z, to_z}
use Rattle.setcookie_parse.specs.Plain.{plain_text}
use Rattle.cookie_jar.specs.Key.{plain_key}
use Rattle.cookie_jar.specs.Persistent.{RowReplace, row_fits, rows_of_steps}
use Rattle.cookie_jar.specs.Plain.{plain_access, plain_cookie}
use Rattle.cookie_jar.specs.Planned.{planned, replacement_of}
use Rattle.cookie_jar.specs.Sending.{marked}
use Rattle.row_changes.specs.Plain.{plain_change}
use Rattle.agent_model.specs.CookieStore.{in_cell}
use Rattle.agent_model.specs.CookieWords.{stored_word}
use Rattle.web_cookies.proofs.InPlaceLemmas.{plan_replaces}
use Rattle.web_cookies.proofs.in_place.replaced_in.Goals as goal

pub returns : goal.returns
returns c = record {
  replaced = λ places at.
      let own_rules = c.args.input.now.list.now.rules in
      let text = plain_text c.args.cookie.now in
      let access = plain_access c.args.access.now in
      let kind = c.args.jar.now.kind in
      let old = c.args.jar.now.cookies in
      let cell = plain_key c.args.cell.now in
      let plan = c.in-Ok.plan in
      let back : to_z w64 (of_z w64 c.signed.result) ≡ c.signed.result = search rules in
      let moment : to_z w64 (of_z w64 c.signed.result) ≡ pos c.args.input.now.clock = back ∙ c.signed.ensures.number in
      let stays = subst (λ n. IfSome (replacement_of plan) (λ r. (places : List ℕ) (used : ℤ)
      → (planned own_rules text access kind n (marked places used old) ≡ Ok plan) × (row_fits kind (marked places used old) (RowReplace r.0 r.1) ≡ true))) moment c.in-Ok.ensures.replaced in
      let told = plan_replaces own_rules (pos c.args.input.now.clock) text access kind old cell plan c.in-Some.place (plain_cookie c.in-Some.cookie) (sym c.in-Some.ensures.value) stays places at in (
        told.0,
        c.stored_word-word.ensures.value ∙ ap stored_word c.kind-2.ensures.value ∙ told.1,
        c.in_ok-push_rows.ensures.rows ∙ ap (λ items. map plain_change items ++ map (in_cell cell) (rows_of_steps plan.fresh plan.steps)) c.new-rows.ensures.items ∙ told.2,
      );
}
