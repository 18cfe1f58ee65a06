use Rattle.std.proofs.Common.{ℕ, ◌+◌, ◌≡◌, List, ◌++◌, ◌∷◌, [], take, get_or, arith, add-one, subst, sym, ◌∙◌, ap}
use Rattle.std.proofs.Math.Seq.{take-suc}
use Rattle.disk_model.specs.MediumBuffers.{IsPlaced}
use Rattle.disk_model.proofs.Recoveries.{range_end}
use Rattle.disk_model.proofs.Placed.{placed_push}
use Rattle.disk_model.proofs.recovery.keep_each.Goals as goal

pub keep-requires : goal.keep-requires
keep-requires c =
    let end = range_end c.loop-range.range-index c.args.ranges.now (omega arith) in
    omega (arith, end, c.requires)

pub loop-range-preserved : goal.loop-range-preserved
loop-range-preserved c =
    let k = c.loop-range.range-index in
    let r = get_or c.args.ranges.now k (0, 0) in
    let kept = c.in_ok-keep.ensures in
    let more = placed_push c.args.synced.now.items c.args.contents.now c.loop-range.synced.items c.keep.new.synced.items (take k c.args.ranges.now) r.0 r.1 c.loop-range.invariant.placed kept.len kept.inside kept.outside in
    let taken : take k c.args.ranges.now ++ r ∷ [] ≡ take (k + 1) c.args.ranges.now =
    sym (ap (λ (n : ℕ). take n c.args.ranges.now) (add-one k) ∙ take-suc c.args.ranges.now k (0, 0) (omega arith)) in
    record {
      placed = subst (λ (l : List (ℕ × ℕ)). IsPlaced c.args.synced.now.items c.args.contents.now l c.keep.new.synced.items) taken more;
      capacity = omega (arith, kept.capacity, c.loop-range.invariant.capacity);
    }
