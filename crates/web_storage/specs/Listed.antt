-- The keys that are stored, by their texts.
-- Source: none.
-- Our own choice: an area that is empty is not stored, and neither is a mode that is best-effort.
use Rattle.std.specs.Prelude.{not, List, ◌++◌, filter}
use Rattle.std.specs.FinMap as finite
use Rattle.storage_key.specs.Key.{PlainKey}
use Rattle.agent_model.specs.Changes.{by_text}
use Rattle.agent_model.specs.Partition.{Areas, Keys}

-- the keys that have an area, or a persistent bucket, or both: each stands once, by its texts
abbrev pub stored_in : Areas → Keys → List PlainKey
stored_in areas persistent =
    by_text
    (finite.keys areas
    ++ filter (λ key. not (finite.contains_key areas key)) (finite.keys persistent))
