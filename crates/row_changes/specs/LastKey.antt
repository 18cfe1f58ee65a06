-- What is kept of the last key that was read.
-- Source: none.
use Rattle.std.specs.Prelude.{◌≡◌, ℕ, List}
use Rattle.storage_key.specs.Key.{PlainKey}
use Rattle.row_changes.specs.Spelled.{IsKey}
use Rattle.row_changes.specs.Spelling.{key_bytes}

-- a key has a spelling, which these bytes are
abbrev pub IsSpelling : List ℕ → PlainKey → Type 0
IsSpelling bytes key = IsKey key × (bytes ≡ key_bytes key)
