-- Moments of a clock, in whole seconds since 1970-01-01 00:00:00 UTC.
-- Source: RFC 6265bis, "Dates": a year has at most four digits.
-- Our own choice: no clock goes on past the last second of the year 9999.
use Rattle.std.specs.Prelude.{ℕ}
use Rattle.agent_base.specs.declared.seconds.TheConstants.{LAST_MOMENT}

-- the last second of a clock, 9999-12-31 23:59:59 UTC
abbrev pub last_moment : ℕ
last_moment = LAST_MOMENT
