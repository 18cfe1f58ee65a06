-- A key has a bucket in a storage, which need not hold anything.
-- Source: none.
use Rattle.std.specs.Prelude.{◌≡◌, true, is_some}
use Rattle.key_map.specs.Entries.{map_get}
use Rattle.storage_key.specs.declared.key.StorageKey.{StorageKey}
use Rattle.web_storage.specs.Evicting.{key_cmp}
use Rattle.web_storage.specs.Stored.{Entries}

-- the key has a bucket
abbrev pub HasBucket : StorageKey → Entries → Type 0
HasBucket key entries = is_some (map_get key_cmp key entries.local) ≡ true
