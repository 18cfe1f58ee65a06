use Rattle.std.proofs.Common.{◌+◌, ◌-◌, ◌≡◌, length, arith, sym}
use Rattle.journal.proofs.Whole.{holds_from_slice}
use Rattle.journal.proofs.head.digest_at.Goals as goal

pub returns-clause-at : goal.returns-clause-at
returns-clause-at c =
    let file = c.args.bytes.now in
    let at = c.args.at in
    let n = at + 32 - at in
    let size : n ≡ 32 = omega arith in
    let long : n ≡ length c.copy_from_slice.new.self = omega (arith, c.copy_from_slice.ensures.len, size) in
    holds_from_slice file at n c.copy_from_slice.new.self (omega (arith, size)) long (sym c.copy_from_slice.ensures.after)
