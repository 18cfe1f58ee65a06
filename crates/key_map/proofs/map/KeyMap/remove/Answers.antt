-- The first entry of the key is the only one.
use Rattle.std.proofs.Common.{◌∙◌, ap}
use Rattle.key_map.specs.Entries.{map_remove}
use Rattle.key_map.proofs.EntriesLemmas.{map_remove-first}
use Rattle.key_map.proofs.map.KeyMap.remove.Goals as goal

pub returns-clause-removed : goal.returns-clause-removed
returns-clause-removed g c =
    c.remove.ensures.entries
    ∙ map_remove-first g.K.Ord.cmp g.met.K.Ord.total c.args.key.now c.self.inside.by_key.entries c.len.ensures.ordered
    ∙ ap (map_remove g.K.Ord.cmp c.args.key.now) c.self.view_is
