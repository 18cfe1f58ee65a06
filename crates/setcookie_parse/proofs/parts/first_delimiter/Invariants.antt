use Rattle.std.proofs.Common.{◌≡◌, ◌+◌, ◌-◌, ◌≤◌, length, drop}
use Rattle.std.specs.List.{position_or_len}
use Rattle.setcookie_parse.specs.CookieDate.{is_delimiter}
use Rattle.setcookie_parse.proofs.parts.first_delimiter.Given as goal

abbrev pub invariant-loop-place : goal.invariant-loop-place
invariant-loop-place l =
    (l.place ≤ length l.text) × (l.place + position_or_len is_delimiter (drop l.place l.text) ≡ position_or_len is_delimiter l.text)

abbrev pub decreases-loop-place : goal.decreases-loop-place
decreases-loop-place l = length l.initial.text - l.place
