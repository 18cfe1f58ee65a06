-- The blocks before this one are counted, and the entries are as they were.
use Rattle.std.proofs.Common.{◌≡◌, ◌*◌, ◌≤◌, length}
use Rattle.local_area.specs.Places.{IsPlaces, pairs_of}
use Rattle.local_area.proofs.places.Places.count.Given as goal

abbrev pub invariant-loop-block : goal.invariant-loop-block
invariant-loop-block l =
    record {
      places : IsPlaces l.self-inside.entries.entries l.self-inside.marks l.self-inside.counts.items;
      same : pairs_of l.self-inside.entries.entries ≡ l.fn.self;
      block : length l.self-inside.counts.items ≡ l.block;
      within : l.block-end * 256 ≤ length l.self-inside.entries.entries;
    }
