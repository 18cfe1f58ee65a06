-- The cookie is stored in the cell that it goes to.
use Rattle.std.proofs.Common.{rules, ◌≡◌, ◌++◌, map, pos, refl, sym, ap, ◌∙◌, subst, append-nil}
use Rattle.std.specs.Prelude.{IsSome}
use mir.Syntax.{w64}
use mir.Val.{of_z, to_z}
use Rattle.std.proofs.lemmas.Result.{IfOk-weaker, on_ok_weaker}
use Rattle.agent_base.specs.Answers.{Answers}
use Rattle.agent_base.proofs.Logic.{on_ok}
use Rattle.setcookie_parse.specs.Plain.{plain_text}
use Rattle.cookie_jar.specs.declared.cause.CookieDrop.TheVariants as why
use Rattle.cookie_jar.specs.Key.{plain_key}
use Rattle.cookie_jar.specs.Planned.{planned}
use Rattle.cookie_jar.specs.Plain.{plain_access}
use Rattle.row_changes.specs.Plain.{plain_change}
use Rattle.agent_model.specs.CookieStore.{BothCells}
use Rattle.agent_model.specs.CookieUse.{own_cell}
use Rattle.web_cookies.specs.Uses.{plain_use}
use Rattle.web_cookies.proofs.TextLemmas.{kept_own, kept_partition, kept_nowhere, own_key_used, own_used, rows_own, rows_partition, rows_nowhere, word_told}
use Rattle.web_cookies.proofs.both.BothJars.store_kept.Goals as goal

pub own_cell-cell-requires : goal.own_cell-cell-requires
own_cell-cell-requires c = record {
  own = subst IsSome (sym (c.requires.keys.own ∙ own_key_used c.args.input.now.list.now.rules (plain_use c.args.how.now)
      (own_used (plain_text c.args.cookie.now) (plain_use c.args.how.now) (plain_access c.access_of-access.result) c.access_of-access.ensures.value c.in-Own.ensures.value))) refl;
}

pub returns-in-Own : goal.returns-in-Own
returns-in-Own c =
    let both : BothCells = record { own = c.self.inside.own.cookies; partition = c.self.inside.partition.cookies } in
    let own_rules = c.args.input.now.list.now.rules in
    let how = plain_use c.args.how.now in
    let text = plain_text c.args.cookie.now in
    let access = plain_access c.access_of-access.result in
    let cell : plain_key c.own_cell-cell.result.now ≡ own_cell own_rules how =
    let is = c.own_cell-cell.ensures.cell ∙ c.requires.keys.own ∙ own_key_used own_rules how (own_used text how access c.access_of-access.ensures.value c.in-Own.ensures.value) in cc in
    rw (← c.self.view_is) (record {
      stored = IfOk-weaker c.store_in.result _ _
          (λ word left. kept_own own_rules c.args.input.now.clock how text both access c.access_of-access.ensures.value c.in-Own.ensures.value
          c.self.inside.own.kind c.self.invariant.0 c.store_in.new.jar.cookies word.now left)
          c.store_in.ensures.stored;
      rows = on_ok_weaker c.store_in.result
          (λ rows. rows ∙ ap (λ r. map plain_change c.args.rows.now.items ++ r)
          (rows_own own_rules c.args.input.now.clock how text both access c.access_of-access.ensures.value c.in-Own.ensures.value
          c.self.inside.own.kind c.self.invariant.0 (plain_key c.own_cell-cell.result.now) cell))
          c.store_in.ensures.rows;
    })

pub returns-in-Partition : goal.returns-in-Partition
returns-in-Partition c =
    let both : BothCells = record { own = c.self.inside.own.cookies; partition = c.self.inside.partition.cookies } in
    let own_rules = c.args.input.now.list.now.rules in
    let how = plain_use c.args.how.now in
    let text = plain_text c.args.cookie.now in
    let access = plain_access c.access_of-access.result in
    rw (← c.self.view_is) (record {
      stored = IfOk-weaker c.store_in-in-Partition.result _ _
          (λ word left. kept_partition own_rules c.args.input.now.clock how text both access c.access_of-access.ensures.value c.in-Partition.ensures.value
          c.self.inside.partition.kind c.self.invariant.1 c.store_in-in-Partition.new.jar.cookies word.now left)
          c.store_in-in-Partition.ensures.stored;
      rows = on_ok_weaker c.store_in-in-Partition.result
          (λ rows. rows ∙ ap (λ r. map plain_change c.args.rows.now.items ++ r)
          (rows_partition own_rules c.args.input.now.clock how text both access c.access_of-access.ensures.value c.in-Partition.ensures.value
          c.self.inside.partition.kind c.self.invariant.1 (plain_key c.args.keys.now.partition) c.requires.keys.partition))
          c.store_in-in-Partition.ensures.rows;
    })

pub returns-in-Nowhere : goal.returns-in-Nowhere
returns-in-Nowhere c =
    let own_rules = c.args.input.now.list.now.rules in
    let how = plain_use c.args.how.now in
    let text = plain_text c.args.cookie.now in
    let access = plain_access c.access_of-access.result in
    let jar = c.new-none.result in
    let back : to_z w64 (of_z w64 c.signed.result) ≡ c.signed.result = search rules in
    let moment : to_z w64 (of_z w64 c.signed.result) ≡ pos c.args.input.now.clock = back ∙ c.signed.ensures.number in
    let answer = subst (λ n. Answers (λ p. p) why.NoMemory (planned own_rules text access jar.kind n jar.cookies) c.plan.result) moment c.plan.ensures.answer in
    record {
      stored = IfOk-weaker c.word_of.result _ _
          (λ word told. kept_nowhere own_rules c.args.input.now.clock how text c.args.self.now access c.access_of-access.ensures.value c.in-Nowhere.ensures.value
          jar.kind c.new-none.ensures.kind jar.cookies c.new-none.ensures.cookies word.now
          (word_told (planned own_rules text access jar.kind (pos c.args.input.now.clock) jar.cookies) c.plan.result word.now answer told))
          c.word_of.ensures;
      rows = on_ok c.word_of.result
          (sym (append-nil (map plain_change c.args.rows.now.items))
          ∙ ap (λ r. map plain_change c.args.rows.now.items ++ r)
          (sym (rows_nowhere own_rules c.args.input.now.clock how text c.args.self.now access c.access_of-access.ensures.value c.in-Nowhere.ensures.value)));
    }
