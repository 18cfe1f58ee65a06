-- No cookie is marked, and what is stored in place is done.
use Rattle.std.proofs.Common.{ap, refl, subst, pos, ◌∙◌}
use Rattle.cookie_jar.proofs.MarkLemmas.{none_marked}
use Rattle.agent_model.specs.CookieStore.{store_text}
use Rattle.web_cookies.specs.CellsOfUse.{found}
use Rattle.std.specs.Rc.{rc_value}
use Rattle.web_cookies.specs.Keys.{own_of}
use Rattle.web_cookies.specs.InPlace.{both_replaced, both_used}
use Rattle.web_cookies.specs.Words.{IsStored}
use Rattle.web_cookies.proofs.PreparedLemmas.{made_left, marks_place, set_prepared}
use Rattle.web_cookies.proofs.prepared.setting.Goals as goal

pub returns : goal.returns
returns c = record {
  prepared = λ rules now how text entries keys stored.
      let own_at = c.new.result.items in
      let partition_at = c.new-2.result.items in
      let both = found rules how entries in
      let used = both_used own_at partition_at (pos 0) both in
      let done = stored own_at partition_at (pos 0) in
      let none = (λ i. both_used (c.new.ensures.items i) (c.new-2.ensures.items i) (pos 0) both)
      ∙ (λ i. record { own = none_marked 0 (pos 0) both.own i; partition = none_marked 0 (pos 0) both.partition i }) in
      set_prepared rules now how entries entries text _ (both_replaced c.args.stored used) c.args.word.now
      (λ key. refl)
      (subst (λ b. IsStored (store_text rules now how b text) (both_replaced c.args.stored used) c.args.word.now) none done.0)
      (done.1 ∙ ap (λ b. (store_text rules now how b text).changes) none)
      refl
      (made_left rules how entries _ keys)
      (record { own = marks_place (own_of (rc_value c.args.keys)) entries _ (λ k. tt); partition = tt });
}
