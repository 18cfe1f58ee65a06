-- An entry is a mark, the pair that was meant, or one before it.
use Rattle.std.proofs.Common.{◌≡◌, ◌∙◌, ◌-◌, ◌+◌, sym, arith}
use Rattle.local_area.proofs.PlacesLemmas.{nth_mark, nth_first, nth_next}
use Rattle.local_area.proofs.places.nth_pair.Goals as goal

pub loop-place-preserved-then-not-is_pair : goal.loop-place-preserved-then-not-is_pair
loop-place-preserved-then-not-is_pair c =
    sym (nth_mark c.args.entries.now.entries c.loop-place.place c.loop-place.left (c.in-Some.key.now, c.in-Some.value.now) (sym c.in-Some.ensures.entry) (sym c.is_pair.ensures.pair ∙ c.if-not-is_pair.true))
    ∙ c.loop-place.invariant

pub returns-then-left-eq0 : goal.returns-then-left-eq0
returns-then-left-eq0 c = record {
  pair =
      sym (nth_first c.args.entries.now.entries c.loop-place.place c.loop-place.left (c.in-Some.key.now, c.in-Some.value.now) (sym c.in-Some.ensures.entry) (sym c.is_pair.ensures.pair ∙ c.if-not-is_pair.false) c.if-left-eq0.true)
      ∙ c.loop-place.invariant;
}

pub loop-place-preserved : goal.loop-place-preserved
loop-place-preserved c =
    let more : c.loop-place.left ≡ c.loop-place.left - 1 + 1 = omega (arith, c.if-left-eq0.false) in
    sym (nth_next c.args.entries.now.entries c.loop-place.place c.loop-place.left (c.loop-place.left - 1) (c.in-Some.key.now, c.in-Some.value.now) (sym c.in-Some.ensures.entry) (sym c.is_pair.ensures.pair ∙ c.if-not-is_pair.false) more)
    ∙ c.loop-place.invariant
