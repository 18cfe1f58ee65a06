use Rattle.std.proofs.Common.{◌+◌, drop, arith, subst, rules}
use Rattle.disk_model.specs.Schedule.{Plan, AreFrom}
use Rattle.disk_model.proofs.Plans.{from_earlier, told_after}
use Rattle.disk_model.proofs.schedule.Schedule.call.Goals as goal

pub cut-pick-requires : goal.cut-pick-requires
cut-pick-requires c =
    let i = c.self.inside in
    let P : Plan → Type 0 = λ plan. AreFrom c.saturating_add-call.result plan.cuts in
    subst P c.self.view_is (from_earlier (i.calls + 1) c.saturating_add-call.result (drop i.next i.cuts.items) (omega arith) c.self.invariant)

pub returns-clause-told : goal.returns-clause-told
returns-clause-told c =
    let i = c.self.inside in
    let ahead = subst (λ (plan : Plan). AreFrom (plan.calls + 1) plan.cuts) c.self.view_is c.self.invariant in
    let j = c.self-2.inside in
    let new : Plan = record { calls = j.calls; cuts = drop j.next j.cuts.items; fails = j.fails.items; off = c.cut-pick.result } in
    told_after c.args.self.now new c.if-is_some.result ahead (search rules) (search rules)
