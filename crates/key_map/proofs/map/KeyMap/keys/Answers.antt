-- One key more is cloned.
use Rattle.std.proofs.Common.{◌∷◌, []}
use Rattle.std.proofs.lemmas.List.{map-append}
use Rattle.std.proofs.lemmas.List.Elements.{AllZip-push}
use Rattle.key_map.proofs.map.KeyMap.keys.Goals as goal

pub loop-key-preserved : goal.loop-key-preserved
loop-key-preserved g c =
    rw (map-append (λ k. k.now) c.loop-key.yielded (c.in-Some.key ∷ []), c.in-Ok.ensures.items)
    (AllZip-push g.K.Clone.is_clone _ _ _ _ c.loop-key.invariant c.in_ok-clone.ensures.cases)
