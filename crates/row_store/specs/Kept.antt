-- What of a durable state outlives a restart.
-- Source: RFC 6265bis, "Storage Model": a cookie that is not persistent ends with the session.
-- Our own choice: areas, modes of buckets and permissions outlive a restart as they are. The last
-- use of a cookie does not, and is 0 afterwards.
use Rattle.std.specs.Prelude.{List, [], ◌∷◌}
use Rattle.std.specs.FinMap as finite
use Rattle.unwinding.specs.FiniteCells.{Full, set_cell}
use Rattle.cookie_jar.specs.Cookie.{PlainCookie}
use Rattle.cookie_jar.specs.Persistent.{persistent_part, kept_cookie}
use Rattle.row_changes.specs.Change.{PlainChange, CookieInsert}
use Rattle.agent_model.specs.CookieCells.{CookieCells, Domain, domain_order, no_cookies}
use Rattle.durable_model.specs.Keeping.{kept_cells}
use Rattle.durable_model.specs.Saved.{Saved}

-- unpartitioned cells of these entries, with what outlives a restart of their cookies
abbrev pub kept_own_entries : List (Domain × Full PlainCookie) → CookieCells
kept_own_entries [] = no_cookies
kept_own_entries (e ∷ es) =
    set_cell domain_order e.0 (persistent_part (e.1.first ∷ e.1.rest)) (kept_own_entries es)

-- the same of all entries of cells
abbrev pub kept_own_cells : CookieCells → CookieCells
kept_own_cells cells = kept_own_entries (finite.entries cells)

-- what outlives a restart of a state
abbrev pub kept_of : Saved → Saved
kept_of d =
    record {
      under = record (d.under) { cookies = kept_cells d.under.cookies };
      cells = kept_own_cells d.cells;
    }

-- the row change of a snapshot without the last use of its cookie
abbrev pub kept_change : PlainChange → PlainChange
kept_change (CookieInsert cell place c) = CookieInsert cell place (kept_cookie c)
kept_change change = change
