-- Keys and cells whose row changes have a spelling, but for their texts.
-- Source: that of what has a spelling stands in `Spelled` of `row_changes`, and of what is a key
-- under a list in `Stays` of `storage_key`; RFC 6265bis, "Storage Model" (a cookie that is replaced
-- hands its creation time on) and "Limits".
-- Our own choice: a cell has no more cookies than its limit, so that a place has room in one byte.
use Rattle.std.specs.Prelude.{◌≡◌, ◌<◌, ◌≤◌, true, List, length, Some, FitsSigned}
use Rattle.std.specs.Int.{w64}
use Rattle.std.specs.List.{All}
use Rattle.suffix_list.specs.Suffix.{Rule}
use Rattle.origin_site.specs.Origin.{origin_text}
use Rattle.origin_site.specs.Site.{SiteReadsBack}
use Rattle.storage_key.specs.Key.{PlainKey}
use Rattle.storage_key.specs.Stays.{key_stays}
use Rattle.partition_limits.specs.Limits.{cookie_limit}
use Rattle.cookie_jar.specs.Key.{PlainKey as PlainCell}
use Rattle.row_changes.specs.Names.{origin_of_text}
use Rattle.agent_model.specs.CookieCells.{Cookies}
use Rattle.durable_model.specs.Saved.{Saved, cookies_at, pairs_at}

-- what of a key's spelling is not about texts: both texts read back
pub record IsReadKey (key : PlainKey) : Type 0 where
  pub origin : origin_of_text (origin_text key.origin) ≡ Some key.origin
  pub top : SiteReadsBack key.top

-- such a key that is one under a list of rules
pub record IsNamedKey (rules : List Rule) (key : PlainKey) : Type 0 where
  pub read : IsReadKey key
  pub stays : key_stays rules key ≡ true

-- the cookies of a cell: no more than its limit, and each began at a moment of 64 bits
pub record IsReadCell (cookies : Cookies) : Type 0 where
  pub few : length cookies ≤ cookie_limit
  pub times : All (λ c. FitsSigned w64 c.creation) cookies

-- a durable state that was read, under whatever list: the texts of each key that has a local area
-- read back, and each cell is so
pub record IsReadSaved (d : Saved) : Type 0 where
  pub keys : (key : PlainKey) → 0 < length (pairs_at key d) → IsReadKey key
  pub cells : (cell : PlainCell) → IsReadCell (cookies_at cell d)

-- a durable state whose row changes have a spelling, and are of rows under a list of rules: each
-- key that has a local area is a named key, and each cell is so
pub record IsReadSavedUnder (rules : List Rule) (d : Saved) : Type 0 where
  pub keys : (key : PlainKey) → 0 < length (pairs_at key d) → IsNamedKey rules key
  pub cells : (cell : PlainCell) → IsReadCell (cookies_at cell d)
