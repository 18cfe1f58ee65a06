-- A block more is counted.
use Rattle.std.proofs.Common.{arith, rules}
use Rattle.local_area.proofs.ChangesLemmas.{places-push}
use Rattle.local_area.proofs.places.Places.count.Goals as goal

pub count_pairs-more-requires-clause-within : goal.count_pairs-more-requires-clause-within
count_pairs-more-requires-clause-within c = omega (arith, c.loop-block.invariant.within, c.loop-block-test.true)

pub loop-block-preserved : goal.loop-block-preserved
loop-block-preserved c =
    let i = c.loop-block.invariant in
    record {
      places = rw c.in-Ok.ensures.items (places-push _ _ _ _ _ _ _ _ i.places i.block (omega (arith, i.within, c.loop-block-test.true)) c.as_slice.ensures.value c.last_count-before.ensures.last c.count_pairs-more.ensures.count (search rules));
      same = i.same;
      block = search (rules, arith);
      within = i.within;
    }
