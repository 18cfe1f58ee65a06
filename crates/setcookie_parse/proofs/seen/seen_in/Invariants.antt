use Rattle.std.proofs.Common.{◌≡◌, length}
use Rattle.std.specs.Str.{IsUtf8}
use Rattle.std.specs.List.{slice_split}
use Rattle.setcookie_parse.specs.SetCookie.{is_semicolon}
use Rattle.setcookie_parse.specs.AttributesSoFar.{plain_seen, seen_in, seen_after}
use Rattle.setcookie_parse.proofs.seen.seen_in.Given as goal

abbrev pub invariant-pieces : goal.invariant-pieces
invariant-pieces l = record {
  text : IsUtf8 l.rest;
  same : seen_after (plain_seen l.seen) (slice_split is_semicolon l.rest) ≡ seen_in (slice_split is_semicolon l.text);
}

abbrev pub decreases-pieces : goal.decreases-pieces
decreases-pieces l = length l.rest
