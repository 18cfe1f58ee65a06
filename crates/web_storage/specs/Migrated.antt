-- What a storage holds of what it held, under a list of rules.
-- Source: Storage Standard, "Storage sheds" and "Storage buckets"; which keys a list has is defined
-- where it is imported from.
-- Our own choice: a local bucket whose key is none under the list goes as one, its area and its
-- mode. Session areas stay.
use Rattle.std.specs.Prelude.{Bool, ◌&&◌, List}
use Rattle.std.specs.List.{list_all}
use Rattle.std.specs.FinMap as finite
use Rattle.suffix_list.specs.Suffix.{Rule}
use Rattle.storage_key.specs.Stays.{key_stays}
use Rattle.agent_model.specs.Partition.{Holdings}

-- what is held, with the local areas and the modes whose keys stay
abbrev pub migrated : List Rule → Holdings → Holdings
migrated rules held =
    record held {
      areas = finite.retain_keys held.areas (key_stays rules);
      persistent = finite.retain_keys held.persistent (key_stays rules);
    }

-- each key that has a local area, or a persistent bucket, stays
abbrev pub all_stay : List Rule → Holdings → Bool
all_stay rules held =
    list_all (key_stays rules) (finite.keys held.areas)
    && list_all (key_stays rules) (finite.keys held.persistent)
