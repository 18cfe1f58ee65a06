-- What the storage of all sites holds, as the machine of a site sees it: finite maps by plain keys.
-- Source: Storage Standard, "Model" (sheds, buckets and their modes).
-- Our own choice: an empty area and an absent one are the same, and so are a best-effort bucket and
-- none.
use Rattle.std.specs.Prelude.{ℕ, ◌==◌, not, List, [], ◌∷◌, if◌then◌else◌}
use Rattle.std.specs.FinMap as finite
use Rattle.unwinding.specs.FiniteCells.{set_cell}
use Rattle.storage_key.specs.Key.{key_order}
use Rattle.storage_key.specs.Plain.{plain_key}
use Rattle.storage_key.specs.declared.key.StorageKey.{StorageKey}
use Rattle.local_area.specs.Area.{Pair}
use Rattle.buckets.specs.Shed.{is_best_effort}
use Rattle.buckets.specs.declared.shed.Bucket.{Bucket}
use Rattle.agent_model.specs.Partition.{Areas, Keys, SessionAreas, Holdings, session_order}

-- the local areas of a shed
abbrev pub areas_in : List (StorageKey × Bucket) → Areas
areas_in [] = finite.empty
areas_in (entry ∷ shed) = set_cell key_order (plain_key entry.0) entry.1.area (areas_in shed)

-- the keys with this one, or without it
abbrev pub key_kept : StorageKey × Bucket → Keys → Keys
key_kept entry keys =
    if is_best_effort entry.1.mode then finite.remove keys (plain_key entry.0)
    else finite.insert keys (plain_key entry.0) tt

-- the persistent keys of a shed
abbrev pub keys_in : List (StorageKey × Bucket) → Keys
keys_in [] = finite.empty
keys_in (entry ∷ shed) = key_kept entry (keys_in shed)

-- session areas beside those of a tab
abbrev pub with_areas : ℕ → List (StorageKey × List Pair) → SessionAreas → SessionAreas
with_areas tab [] sessions = sessions
with_areas tab (entry ∷ areas) sessions =
    set_cell session_order (tab, plain_key entry.0) entry.1 (with_areas tab areas sessions)

-- session areas without those of a tab
abbrev pub without_areas : ℕ → SessionAreas → SessionAreas
without_areas tab sessions = finite.retain_keys sessions (λ key. not (key.0 == tab))

-- the session areas of tabs
abbrev pub sessions_in : List (ℕ × List (StorageKey × List Pair)) → SessionAreas
sessions_in [] = finite.empty
sessions_in (tab ∷ tabs) = with_areas tab.0 tab.1 (without_areas tab.0 (sessions_in tabs))

-- what contracts see: the buckets of a shed, and the session areas of tabs
pub record Entries : Type 0 where
  pub local : List (StorageKey × Bucket)
  pub session : List (ℕ × List (StorageKey × List Pair))

-- what is held beside the storage, and what the storage holds
unfoldable pub held_with : (beside : Holdings) → Entries → Holdings
held_with beside entries =
    record beside {
      areas = areas_in entries.local;
      persistent = keys_in entries.local;
      sessions = sessions_in entries.session;
    }
