use Rattle.std.proofs.Common.{arith, ◌∙◌, sym, refl, ap, map, [], ◌∷◌, ◌++◌}
use Rattle.std.proofs.lemmas.List.{take_all}
use Rattle.cookie_jar.specs.Lifetime.{is_persistent}
use Rattle.cookie_jar.specs.Flags.{flag_removal}
use Rattle.cookie_jar.specs.Plain.{plain_cookie}
use Rattle.cookie_jar.proofs.RemovalLemmas.{plan_step, map_both, left_after, left_is}
use Rattle.cookie_jar.proofs.removals.removals.Goals as goal

pub loop-done-init : goal.loop-done-init
loop-done-init c = record {
  steps = rw c.new-steps.ensures.items refl;
  flags = c.in_ok-flags.ensures ∙ sym (map_both plain_cookie is_persistent c.args.cookies.now);
}

pub loop-done-preserved : goal.loop-done-preserved
loop-done-preserved c =
    let step = plan_step (map plain_cookie c.args.cookies.now) c.args.gone.now c.loop-done.done _ c.loop-done.steps.items c.push.new.self.items c.loop-done.flags.items c.drop_flag.new.flags.items c.place_after-place.result
    c.loop-done-test.true c.place_after-place.ensures
    (c.in_ok-push.ensures.items ∙ ap (λ s. c.loop-done.steps.items ++ s ∷ []) (c.remove_step.ensures ∙ ap (flag_removal c.place_after-place.result) c.deref.ensures.value))
    c.drop_flag.ensures c.loop-done.invariant.steps c.loop-done.invariant.flags in
    record { steps = step.0; flags = step.1 }

pub returns-clause-flags : goal.returns-clause-flags
returns-clause-flags c =
    let cs = map plain_cookie c.args.cookies.now in
    c.loop-done.invariant.flags ∙ ap (λ ps. map is_persistent (left_after cs [] ps)) (take_all c.loop-done.done c.args.gone.now (omega (arith, c.loop-done-test.false)))
    ∙ ap (map is_persistent) (sym (left_is cs [] c.args.gone.now))
