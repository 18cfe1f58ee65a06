use Rattle.std.proofs.Common.{◌≡◌, length}
use Rattle.setcookie_parse.specs.CookieDate.{cookie_date, tokens_of}
use Rattle.setcookie_parse.specs.DateParts.{completed}
use Rattle.setcookie_parse.proofs.parts.parts_of.Given as goal

abbrev pub invariant-tokens : goal.invariant-tokens
invariant-tokens l = completed l.parts (tokens_of l.rest) ≡ cookie_date l.text

abbrev pub decreases-tokens : goal.decreases-tokens
decreases-tokens l = length l.rest
