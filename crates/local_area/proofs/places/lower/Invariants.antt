-- The blocks that were visited have one pair less.
use Rattle.std.proofs.Common.{◌≡◌, ◌+◌, ◌<◌, ◌≤◌, ℕ, length}
use Rattle.std.specs.Prelude.{slice_index}
use Rattle.local_area.proofs.places.lower.Given as goal

abbrev pub invariant-loop-block : goal.invariant-loop-block
invariant-loop-block l =
    record {
      long : length l.counts.items ≡ length l.initial.counts.items;
      less : (k : ℕ) → l.first ≤ k → k < l.block → k < length l.initial.counts.items → slice_index l.counts.items k + 1 ≡ slice_index l.initial.counts.items k;
      same : (k : ℕ) → k < l.first → k < length l.initial.counts.items → slice_index l.counts.items k ≡ slice_index l.initial.counts.items k;
      rest : (k : ℕ) → l.block ≤ k → k < length l.initial.counts.items → slice_index l.counts.items k ≡ slice_index l.initial.counts.items k;
    }
