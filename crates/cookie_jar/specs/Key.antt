-- What names a cell of cookies.
-- Source: the draft "Cookies Having Independent Partitioned State" (CHIPS), "Partitioned": the
-- partition key is the top-level site and the ancestor chain bit.
-- Our own choice: a cell is that of a domain, so http and https pages of it share one cell.
use Rattle.std.specs.Prelude.{ℕ, Bool, List, string_bytes}
use Rattle.origin_site.specs.Site.{PlainSite}
use Rattle.origin_site.specs.Plain.{plain_site}
use Rattle.cookie_jar.specs.declared.key.CellKey.{CellKey}
use Rattle.cookie_jar.specs.declared.key.CellKey.TheVariants as key

-- a key, as contracts see it
pub data PlainKey : Type 0 where
  OwnCell : (domain : List ℕ) → PlainKey
  PartitionCell : (top : PlainSite) (bit : Bool) (domain : List ℕ) → PlainKey

-- a key
abbrev pub plain_key : CellKey → PlainKey
plain_key (key.Own domain) = OwnCell (string_bytes domain)
plain_key (key.Partition top bit domain) =
    PartitionCell (plain_site top) bit (string_bytes domain)
