use Rattle.std.proofs.Common.{◌≤◌, length, arith, inr, ap}
use Rattle.disk_model.proofs.Recoveries.{halves_within, placed_halved, halved_len, err_then}
use Rattle.disk_model.proofs.recovery.restore.Goals as goal

pub keep_each-requires : goal.keep_each-requires
keep_each-requires c =
    rw (c.halve.ensures, c.deref-in_default.ensures.value)
    (omega (arith, halves_within c.args.ranges.now, c.requires.within))

pub returns-in_ok-keep_each-in_default-clause-full : goal.returns-in_ok-keep_each-in_default-clause-full
returns-in_ok-keep_each-in_default-clause-full c =
    let contents = c.args.contents.now.items in
    let placed = rw (c.deref-in_default.ensures.value, c.halve.ensures) at c.in_ok-keep_each-in_default.ensures.placed in
    let short : length c.keep_each.new.synced.items ≤ length contents =
    halved_len c.args.synced.now.items contents c.keep_each.new.synced.items c.args.ranges.now (placed_halved c.args.synced.now.items contents c.keep_each.new.synced.items c.args.ranges.now placed) c.requires.shorter c.requires.within in
    err_then c.copy-in_default.result _ _ (λ less. inr (omega (arith, less, short, ap length c.deref-in_default-2.ensures.value))) c.copy-in_default.ensures.full
