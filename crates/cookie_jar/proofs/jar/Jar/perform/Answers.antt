use Rattle.std.proofs.Common.{◌≡◌, ◌∙◌, ap, sym, subst}
use Rattle.cookie_jar.specs.Persistent.{persistent_part}
use Rattle.cookie_jar.specs.Planned.{PlainPlan}
use Rattle.cookie_jar.specs.Steps.{after_steps}
use Rattle.cookie_jar.specs.Plain.{plain_cookie}
use Rattle.cookie_jar.proofs.PerformLemmas.{IsDone, performs, performs_rows, put_may, put_leaves}
use Rattle.cookie_jar.proofs.jar.Jar.perform.Goals as goal
use Rattle.cookie_jar.proofs.jar.Jar.perform.Goals.{After-put_last}

pub put_last-requires-clause-put : goal.put_last-requires-clause-put
put_last-requires-clause-put c =
    put_may c.args.self.now.kind c.remove_all.new.self.kind (plain_cookie c.plan.inside.fresh) c.args.self.now.cookies c.remove_all.new.self.cookies c.plan.inside.steps.items c.deref.result.now c.deref-2.result.now
    c.remove_all.ensures.kind c.remove_all.ensures.cookies c.deref.ensures.value c.deref-2.ensures.value
    (subst (λ (p : PlainPlan). IsDone c.args.self.now.kind p.fresh c.args.self.now.cookies p.steps) (sym c.plan.view_is) (performs c.args.self.now c.args.plan c.requires.fit))

-- the cookies after the last step
performed : (c : After-put_last) → c.put_last.new.self.cookies ≡ after_steps c.args.plan.fresh c.args.self.now.cookies c.args.plan.steps
performed c =
    put_leaves c.args.self.now.kind (plain_cookie c.plan.inside.fresh) c.args.self.now.cookies c.remove_all.new.self.cookies c.put_last.new.self.cookies c.plan.inside.steps.items c.deref.result.now c.deref-2.result.now
    c.remove_all.ensures.cookies c.deref.ensures.value c.deref-2.ensures.value
    (subst (λ (p : PlainPlan). IsDone c.args.self.now.kind p.fresh c.args.self.now.cookies p.steps) (sym c.plan.view_is) (performs c.args.self.now c.args.plan c.requires.fit)) c.put_last.ensures.cookies
    ∙ ap (λ (p : PlainPlan). after_steps p.fresh c.args.self.now.cookies p.steps) c.plan.view_is

pub returns-clause-steps : goal.returns-clause-steps
returns-clause-steps c = performed c

pub returns-clause-persistent : goal.returns-clause-persistent
returns-clause-persistent c = ap persistent_part (performed c) ∙ performs_rows c.args.self.now c.args.plan c.requires.fit
