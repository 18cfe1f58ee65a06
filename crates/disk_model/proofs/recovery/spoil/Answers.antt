use Rattle.std.proofs.Common.{ℕ, ◌+◌, ◌≡◌, List, ◌++◌, ◌∷◌, [], take, get_or, arith, add-one, subst, sym, ◌∙◌, ap}
use Rattle.std.proofs.Math.Seq.{take-suc}
use Rattle.disk_model.specs.Recovery.{IsSpoiled}
use Rattle.disk_model.proofs.Recoveries.{range_end, spoiled_push}
use Rattle.disk_model.proofs.recovery.spoil.Goals as goal

pub spoil_range-requires : goal.spoil_range-requires
spoil_range-requires c =
    let end = range_end c.loop-range.range-index c.args.ranges.now (omega arith) in
    omega (arith, end, c.requires, c.loop-range.invariant.len)

pub loop-range-preserved : goal.loop-range-preserved
loop-range-preserved c =
    let k = c.loop-range.range-index in
    let r = get_or c.args.ranges.now k (0, 0) in
    let more = spoiled_push c.args.contents.now c.loop-range.contents c.spoil_range.new.contents (take k c.args.ranges.now) r.0 r.1 c.loop-range.invariant (omega arith) c.spoil_range.ensures.inside c.spoil_range.ensures.outside in
    let taken : take k c.args.ranges.now ++ r ∷ [] ≡ take (k + 1) c.args.ranges.now =
    sym (ap (λ (n : ℕ). take n c.args.ranges.now) (add-one k) ∙ take-suc c.args.ranges.now k (0, 0) (omega arith)) in
    subst (λ (l : List (ℕ × ℕ)). IsSpoiled c.args.contents.now l c.spoil_range.new.contents) taken more
