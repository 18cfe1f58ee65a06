-- What an eviction of a site takes of local areas and leaves, the order of keys of the program, and
-- tabs without session areas.
use Rattle.std.specs.Prelude.{◌≡◌, ℕ, Bool, not, ◌&&◌, List, None, filter}
use Rattle.std.specs.Borrow.{Bor}
use Rattle.std.specs.List.{list_any}
use Rattle.std.specs.Ordering.{eq_by_cmp}
use Rattle.std.specs.FinMap as finite
use Rattle.origin_site.specs.Site.{PlainSite}
use Rattle.storage_key.specs.Plain.{plain_key}
use Rattle.storage_key.specs.Key.{PlainKey, key_order}
use Rattle.storage_key.specs.declared.key.StorageKey.{StorageKey}
use Rattle.std.specs.declared.cmp.Ordering.{Ordering}
use Rattle.agent_model.specs.Partition.{is_under}
use Rattle.agent_model.specs.Partition.{Areas, Keys, SessionAreas}

-- a key is under a site, and its bucket is not persistent
abbrev pub is_taken : PlainSite → Keys → PlainKey → Bool
is_taken site persistent key = is_under site key && not (finite.contains_key persistent key)

-- the local areas that are left
abbrev pub areas_left_by : PlainSite → Keys → Areas → Areas
areas_left_by site persistent areas = finite.retain_keys areas
    (λ key. not (is_taken site persistent key))

-- the local areas that are taken
abbrev pub areas_taken_by : PlainSite → Keys → Areas → Areas
areas_taken_by site persistent areas = finite.retain_keys areas (is_taken site persistent)

-- the order of keys of the program
abbrev pub key_cmp : StorageKey → StorageKey → Ordering
key_cmp a b = key_order (plain_key a) (plain_key b)

-- an entry is under a site
abbrev pub is_entry_under : {V : Type 0} → PlainSite → StorageKey × V → Bool
is_entry_under site entry = is_under site (plain_key entry.0)

-- an entry that is lent
abbrev pub entry_of : {V : Type 0} → Bor StorageKey × Bor V → StorageKey × V
entry_of lent = (lent.0.now, lent.1.now)

-- the keys that an eviction takes, of all
abbrev pub keys_taken_of : PlainSite → Keys → List PlainKey → List PlainKey
keys_taken_of site persistent all = filter (is_taken site persistent) all

-- a tab has no session area
abbrev pub HasNone : ℕ → SessionAreas → Type 0
HasNone tab sessions = (key : PlainKey) → finite.get sessions (tab, key) ≡ None

-- a plain key is one of these
abbrev pub is_one_of : PlainKey → List PlainKey → Bool
is_one_of q keys = list_any (λ k. eq_by_cmp key_order k q) keys

-- some keys are those of all that are under a site
abbrev pub AreUnder : PlainSite → (all some : List PlainKey) → Type 0
AreUnder site all some = (q : PlainKey) → is_one_of q some ≡ (is_one_of q all && is_under site q)
