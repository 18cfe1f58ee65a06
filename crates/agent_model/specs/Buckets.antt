-- The modes of buckets: what is persistent, and what is evicted.
-- Source: Storage Standard, "Persistence permission" (`persist`, `persisted`), "Usage and quota"
-- (`estimate`), "Storage pressure".
-- Our own choice: `persist` alone asks for a secure context, where the standard has each of the
-- three in one. The answer of a prompt stands in the script. An estimate counts the local area
-- alone. An eviction is asked for, and takes the local areas of all best-effort buckets under a
-- site at once; no document is told. Its count has 32 bits and stays at its last value.
use Rattle.std.specs.Prelude.{ℕ, ◌-◌, ◌^◌, Bool, true, false, not, ◌&&◌, min, [], ◌∷◌}
use Rattle.std.specs.FinMap as finite
use Rattle.origin_site.specs.Site.{PlainSite}
use Rattle.storage_key.specs.Key.{PlainKey}
use Rattle.local_area.specs.Area.{area_weight}
use Rattle.storage_events.specs.declared.event.AreaKind.TheVariants.{Local}
use Rattle.script_actions.specs.declared.words.Prompt.{Prompt}
use Rattle.script_actions.specs.declared.words.Prompt.TheVariants as prompt
use Rattle.reply_lines.specs.Reply.{Truth, Estimate, Cleared}
use Rattle.row_changes.specs.Change.{SetMode}
use Rattle.agent_model.specs.Partition.{Areas, Holdings, is_under}
use Rattle.agent_model.specs.Effects.{Effect, answers, changes_to}
use Rattle.agent_model.specs.Changes.{clears}
use Rattle.agent_model.specs.Documents.{Keyed}
use Rattle.agent_model.specs.AreaActions.{pairs_of}

-- the bucket of a key is persistent
abbrev pub is_persistent : PlainKey → Holdings → Bool
is_persistent key held = finite.contains_key held.persistent key

-- `persisted`
abbrev pub get_mode : Keyed → Effect
get_mode reader cells held = answers (Truth (is_persistent reader.key held)) cells held

-- the bytes of the names and values of a document's local area
abbrev pub get_usage : Keyed → Effect
get_usage reader cells held =
    answers (Estimate (area_weight (pairs_of Local reader held))) cells held

-- ---- persist

-- the answer of the prompt grants what was asked for
abbrev pub is_grant : Prompt → Bool
is_grant prompt.Grant = true
is_grant prompt.Deny = false
is_grant prompt.Dismiss = false

-- the bucket of a key is persistent from now on
abbrev pub made_persistent : PlainKey → Holdings → Holdings
made_persistent key held = record held { persistent = finite.insert held.persistent key tt }

-- a bucket that is persistent stays so, and another becomes so by a grant
abbrev pub persist_by : Bool → Bool → Keyed → Effect
persist_by true granted asker cells held = answers (Truth true) cells held
persist_by false true asker cells held =
    changes_to (SetMode asker.key ∷ []) (Truth true) cells (made_persistent asker.key held)
persist_by false false asker cells held = answers (Truth false) cells held

-- `persist`, which is done in secure contexts alone
abbrev pub persist : Prompt → Keyed → Effect
persist answer asker cells held =
    persist_by (is_persistent asker.key held) (is_grant answer) asker cells held

-- ---- eviction

-- an eviction of a site takes the local area of this key
abbrev pub is_evicted : PlainSite → Holdings → PlainKey → Bool
is_evicted site held key = is_under site key && not (is_persistent key held)

-- the local areas that are left
abbrev pub areas_left : PlainSite → Holdings → Areas
areas_left site held = finite.retain_keys held.areas (λ key. not (is_evicted site held key))

-- the local areas that are taken, each of which has pairs
abbrev pub areas_taken : PlainSite → Holdings → Areas
areas_taken site held = finite.retain_keys held.areas (is_evicted site held)

-- what is held without the local areas of the best-effort buckets under a site
abbrev pub without_evicted : PlainSite → Holdings → Holdings
without_evicted site held = record held { areas = areas_left site held }

-- how many of these areas were not empty
abbrev pub evicted_count : PlainSite → Holdings → ℕ
evicted_count site held = min (finite.len (areas_taken site held)) (2 ^ 32 - 1)

-- the local areas of the best-effort buckets under a site are emptied and counted
abbrev pub evict : PlainSite → Effect
evict site cells held =
    changes_to (clears (finite.keys (areas_taken site held))) (Cleared (evicted_count site held))
    cells (without_evicted site held)
