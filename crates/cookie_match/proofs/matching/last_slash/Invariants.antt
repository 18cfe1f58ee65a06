use Rattle.std.proofs.Common.{◌≡◌, ◌+◌, ◌≤◌, not, length, take}
use Rattle.std.specs.List.{suffix_len}
use Rattle.cookie_match.specs.Matching.{is_slash}
use Rattle.cookie_match.proofs.matching.last_slash.Given as goal

abbrev pub invariant-loop-len : goal.invariant-loop-len
invariant-loop-len l = (l.len ≤ length l.bytes) × (l.len + suffix_len (λ b. not (is_slash b)) l.bytes ≡ length l.bytes + suffix_len (λ b. not (is_slash b)) (take l.len l.bytes))

abbrev pub decreases-loop-len : goal.decreases-loop-len
decreases-loop-len l = l.len
