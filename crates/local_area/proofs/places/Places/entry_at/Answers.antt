-- Where there is no mark, the n-th pair is the n-th entry. Else it is the one behind the counted blocks.
use Rattle.std.proofs.Common.{◌∙◌, ap, sym, arith}
use Rattle.std.specs.Prelude.{slice_get}
use Rattle.local_area.proofs.PlacesLemmas.{composed, nth_plain, nth_counted}
use Rattle.local_area.specs.Places.{pair_of}
use Rattle.local_area.proofs.places.Places.entry_at.Goals as goal

pub returns-then-self-eq0-clause-pair : goal.returns-then-self-eq0-clause-pair
returns-then-self-eq0-clause-pair c =
    composed _ pair_of c.get_index.result
    ∙ nth_plain c.self.inside.entries.entries _ c.args.n _ _ c.self.invariant c.if-self-eq0.true (sym c.get_index.ensures.entry)
    ∙ ap (λ l. slice_get l c.args.n) c.self.view_is

pub overflow_mul-block : goal.overflow_mul-block
overflow_mul-block c = omega (arith, c.last_block-block.ensures.within, c.self.invariant.counted.within, c.len-end.ensures.small, c.len-end.ensures.len)

pub returns-clause-pair : goal.returns-clause-pair
returns-clause-pair c =
    composed _ pair_of c.nth_pair.result
    ∙ nth_counted c.self.inside.entries.entries _ c.args.n c.last_block-block.result.0 c.last_block-block.result.1 c.self.inside.counts.items _ c.self.invariant (rw (← c.as_slice.ensures.value) c.last_block-block.ensures.within) (rw (← c.as_slice.ensures.value) c.last_block-block.ensures.before) c.last_block-block.ensures.reached c.nth_pair.ensures.pair
    ∙ ap (λ l. slice_get l c.args.n) c.self.view_is
