use Rattle.std.proofs.Common.{◌≡◌, ◌+◌, ◌≤◌, ◌<◌, length, take}
use Rattle.std.specs.List.{suffix_len, slice_index}
use Rattle.setcookie_parse.specs.SetCookie.{is_blank}
use Rattle.setcookie_parse.proofs.trim.len_without_blanks.Given as goal

abbrev pub invariant-loop-len : goal.invariant-loop-len
invariant-loop-len l = (l.len ≤ length l.bytes) × (l.len + suffix_len is_blank l.bytes ≡ length l.bytes + suffix_len is_blank (take l.len l.bytes))
    × (l.len < length l.bytes → slice_index l.bytes l.len < 128)

abbrev pub decreases-loop-len : goal.decreases-loop-len
decreases-loop-len l = l.len
