-- A change of the persistent cookies of one cell, done to the cookies of all sites.
-- Source: none. Where a change is valid is defined where it is imported from.
use Rattle.std.specs.Prelude.{◌≡◌, ◌<◌, Bool, MatchOption}
use Rattle.cookie_jar.specs.Key.{PlainKey}
use Rattle.cookie_jar.specs.Persistent.{CookieRow, apply_row, row_fits}
use Rattle.agent_model.specs.CookieCells.{Cookies}
use Rattle.web_cookies.specs.Stored.{Entries, shared_in, partitioned_in, with_shared}
use Rattle.web_cookies.specs.Stored.{with_partitioned}
use Rattle.web_cookies.specs.Cells.{cookies_at, jar_at, kind_of}

-- the cookies of a cell after a change, which leaves them where it is not valid
abbrev pub cookies_after_row : PlainKey → CookieRow → Entries → Cookies
cookies_after_row cell row entries = apply_row (kind_of cell) (cookies_at cell entries) row

-- a change of a cell is done where it is valid, every other cell is as before, and whether it was
-- valid is told
pub record IsRowDone (cell : PlainKey) (row : CookieRow) (old new : Entries) (done : Bool)
    : Type 0 where
  pub valid : done ≡ row_fits (kind_of cell) (cookies_at cell old) row
  pub shared : shared_in new ≡ with_shared cell (cookies_after_row cell row old) (shared_in old)
  pub partitioned : partitioned_in new
      ≡ with_partitioned cell (cookies_after_row cell row old) (partitioned_in old)

-- a cell has a jar with room for one cookie more
abbrev pub HasPlace : PlainKey → Entries → Type 0
HasPlace cell entries = MatchOption (jar_at cell entries) ⊥ (λ jar. 0 < jar.spare)
