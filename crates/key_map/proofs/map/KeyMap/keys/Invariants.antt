-- The keys so far are cloned.
use Rattle.std.proofs.Common.{map}
use Rattle.std.specs.List.{AllZip}
use Rattle.key_map.proofs.map.KeyMap.keys.Given as goal

abbrev pub invariant-loop-key : goal.invariant-loop-key
invariant-loop-key g l = AllZip g.K.Clone.is_clone (map (λ k. k.now) l.yielded) l.keys.items
