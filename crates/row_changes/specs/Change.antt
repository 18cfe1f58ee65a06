-- A row change: a change of one row of the durable state, which is local areas, modes of buckets,
-- persistent cookies and permissions of storage access.
-- Source: none for the rows themselves. What they speak of is defined where it is imported from.
-- Our own choice: a cookie has a place among the persistent cookies of its cell. Its last use does
-- not outlive a restart, so it is 0, and it has an expiry. Neither is asked for here, but by
-- `IsSpelled`, which says what has a spelling.
use Rattle.std.specs.Prelude.{ℕ, List}
use Rattle.storage_key.specs.Key.{PlainKey}
use Rattle.cookie_jar.specs.Key.{PlainKey as PlainCell}
use Rattle.stored_cookie.specs.StoredCookie.{PlainCookie}
use Rattle.access_grants.specs.Grant.{PlainGrant}

-- a row change, as contracts see it: texts are their bytes
pub data PlainChange : Type 0 where
  -- a pair of the local area of a key has this value
  AreaPut : (key : PlainKey) (name value : List ℕ) → PlainChange
  -- the area has no pair of this name
  AreaRemove : (key : PlainKey) (name : List ℕ) → PlainChange
  -- the area has no pair
  AreaClear : (key : PlainKey) → PlainChange
  -- the bucket of a key is persistent
  SetMode : (key : PlainKey) → PlainChange
  -- a cookie stands at this place of a cell, and those from there on stand behind it
  CookieInsert : (cell : PlainCell) (place : ℕ) (cookie : PlainCookie) → PlainChange
  -- a cookie stands in the place of the one there
  CookieReplace : (cell : PlainCell) (place : ℕ) (cookie : PlainCookie) → PlainChange
  -- the cookie at this place is gone
  CookieRemove : (cell : PlainCell) (place : ℕ) → PlainChange
  -- a permission is kept, in the place of its pair's or as the last
  Grant : (row : PlainGrant) → PlainChange
