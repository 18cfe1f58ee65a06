-- Clones of the keys with equal values are found alike.
use Rattle.key_map.proofs.EntriesLemmas.{map_get-copy}
use Rattle.key_map.proofs.map.KeyMap.copy.Goals as goal

pub returns-in-Ok-clause-same : goal.returns-in-Ok-clause-same
returns-in-Ok-clause-same g c = λ ties same.
    rw (← c.self.view_is)
    (map_get-copy g.K.Ord.cmp g.met.K.Ord.total g.K.Clone.is_clone ties g.V.Clone.is_clone same c.self.inside.by_key.entries c.in-Ok.by_key.entries
    c.in-Ok.ensures.cases)
