-- A frame has the highest number, and none a higher one.
use Rattle.std.proofs.Common.{◌≡◌, true, List, ap, sym, ◌∙◌}
use Rattle.std.proofs.lemmas.List.{take_all}
use Rattle.frame_tree.specs.declared.frames.Frame.{Frame}
use Rattle.frame_tree.proofs.LastLemmas.{above-more, none_above, not-above, there-more}
use Rattle.frame_tree.proofs.frames.last_frame.Goals as goal

pub loop-f-preserved : goal.loop-f-preserved
loop-f-preserved c =
    let frames : List Frame = c.args.frames.now in record {
      there = there-more c.loop-f.last frames c.loop-f.f-index c.loop-f-test.true c.f-item.result c.f-item.is c.max-last.result c.max-last.ensures c.loop-f.invariant.there;
      highest = above-more c.loop-f.last frames c.loop-f.f-index c.loop-f-test.true c.f-item.result c.f-item.is c.max-last.result c.max-last.ensures c.loop-f.invariant.highest;
    }

pub returns : goal.returns
returns c = record {
  last =
      let frames : List Frame = c.args.frames.now in
      let none : none_above c.loop-f.last frames ≡ true =
      sym (ap (none_above c.loop-f.last) (take_all c.loop-f.f-index frames c.loop-f-test.false)) ∙ c.loop-f.invariant.highest in record {
        there = c.loop-f.invariant.there;
        highest = not-above c.loop-f.last frames none;
      };
}
