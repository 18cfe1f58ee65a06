-- The keys so far are evicted, and what they lost is counted.
use Rattle.std.proofs.Common.{◌≡◌, ◌-◌, ◌^◌, min, take}
use Rattle.buckets.specs.Shed.{evicted, count_evicted}
use Rattle.buckets.proofs.shed.Shed.evict.Given as goal

abbrev pub invariant-loop-key : goal.invariant-loop-key
invariant-loop-key g l = record {
  gone : l.self ≡ evicted g.K.Ord.cmp (take l.key-index l.keys) l.initial.self;
  counted : l.count ≡ min (count_evicted g.K.Ord.cmp (take l.key-index l.keys) l.initial.self) (2 ^ 32 - 1);
}
