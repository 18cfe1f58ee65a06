-- An entry is a mark, or a pair more.
use Rattle.std.proofs.Common.{◌∙◌, sym, arith, take, length-take}
use Rattle.local_area.proofs.PlacesLemmas.{count_of-le, count_more_mark, count_more_pair}
use Rattle.local_area.proofs.places.count_pairs.Goals as goal

pub overflow_add-count : goal.overflow_add-count
overflow_add-count c =
    omega (arith, c.loop-place.invariant, count_of-le (take c.loop-place.place c.args.entries.now.entries), length-take c.loop-place.place c.args.entries.now.entries)

pub loop-place-preserved-then-not-is_pair : goal.loop-place-preserved-then-not-is_pair
loop-place-preserved-then-not-is_pair c =
    c.loop-place.invariant
    ∙ sym (count_more_mark c.args.entries.now.entries c.loop-place.place (c.in-Some.key.now, c.in-Some.value.now) (sym c.in-Some.ensures.entry) (sym c.is_pair.ensures.pair ∙ c.if-not-is_pair.true))

pub loop-place-preserved : goal.loop-place-preserved
loop-place-preserved c =
    omega (arith, c.loop-place.invariant, count_more_pair c.args.entries.now.entries c.loop-place.place (c.in-Some.key.now, c.in-Some.value.now) (sym c.in-Some.ensures.entry) (sym c.is_pair.ensures.pair ∙ c.if-not-is_pair.false))
