use Rattle.std.proofs.Common.{◌≡◌, ◌+◌, drop, arith, subst, rules}
use Rattle.std.specs.Prelude.{nat_lt, filter, Some, None}
use Rattle.std.proofs.lemmas.Fn.{filter_same}
use Rattle.disk_model.specs.MemDisk.{numbers_of, told_cuts}
use Rattle.disk_model.specs.Schedule.{Plan}
use Rattle.disk_model.proofs.Plans.{from_earlier, all_told}
use Rattle.disk_model.proofs.schedule.Schedule.begin_again.Goals as goal

pub invariant_of-self : goal.invariant_of-self
invariant_of-self c =
    let i = c.self.inside in from_earlier (i.calls + 1) 1 (drop i.next i.cuts.items) (omega arith) c.self.invariant

pub returns-clause-plan : goal.returns-clause-plan
returns-clause-plan c =
    let i = c.self.inside in
    let kept : c.retain.new.self.items ≡ filter (λ number. nat_lt i.calls number) i.fails.items =
    filter_same _ _ _ (λ x b f t. search rules) _ _ c.retain.ensures.filtered in
    let P : Plan → Type 0 = λ plan. record { calls = 0; cuts = drop i.next i.cuts.items; fails = c.retain.new.self.items; off = None }
    ≡ record { calls = 0; cuts = plan.cuts; fails = filter (λ number. nat_lt plan.calls number) plan.fails; off = None } in
    subst P c.self.view_is (λ j. record { calls = 0; cuts = drop i.next i.cuts.items; fails = kept j; off = None })

pub returns-clause-told : goal.returns-clause-told
returns-clause-told c = λ none.
    let i = c.self.inside in
    let new : Plan = record { calls = 0; cuts = drop i.next i.cuts.items; fails = c.retain.new.self.items; off = None } in
    subst (λ (plan : Plan). told_cuts new ≡ Some (numbers_of plan.cuts)) c.self.view_is
    (all_told new (from_earlier (i.calls + 1) 1 (drop i.next i.cuts.items) (omega arith) c.self.invariant) none)
