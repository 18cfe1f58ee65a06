-- One frame more has its place.
use Rattle.std.proofs.Common.{◌<◌, ◌+◌, ◌∙◌, length, set, subst, sym, arith, rules}
use Rattle.std.proofs.Math.ListN.{length-set}
use Rattle.frame_tree.specs.declared.frames.Frame.{Frame}
use Rattle.frame_tree.proofs.PlaceLemmas.{ArePlacesUpto, low-more, low-place, places-more}
use Rattle.frame_tree.proofs.frames.places_of.Goals as goal

pub loop-place-preserved : goal.loop-place-preserved
loop-place-preserved c =
    let f : Frame = c.index-frames-place.result in
    let own : f.frame < 256 = omega arith in
    let fits : f.frame < length c.loop-place.places = omega arith in record {
      long = length-set c.loop-place.places c.from-number.result c.loop-place.place ∙ c.loop-place.invariant.long;
      places =
          subst (λ n. ArePlacesUpto (c.loop-place.place + 1) (set c.loop-place.places n c.loop-place.place) c.args.frames.now) (sym c.from-number.ensures)
          (places-more c.args.frames.now c.loop-place.place f c.loop-place-test.true c.index-frames-place.is c.loop-place.places fits c.loop-place.invariant.places);
      low = low-more c.args.frames.now c.loop-place.place f c.loop-place-test.true c.index-frames-place.is own c.loop-place.invariant.low;
    }

pub overflow_cast-places : goal.overflow_cast-places
overflow_cast-places c =
    let f : Frame = c.index-frames-place.result in
    let own : f.frame < 256 = omega arith in
    let low : c.loop-place.place < 256 = low-place c.args.frames.now c.loop-place.place f c.loop-place-test.true c.index-frames-place.is own c.loop-place.invariant.low c.requires.tree in
    search rules
