use Rattle.disk_model.proofs.Recoveries.{recovered_len, ok_then}
use Rattle.disk_model.proofs.recovery.recover.Goals as goal

pub returns-clause-len : goal.returns-clause-len
returns-clause-len c =
    ok_then c.restore.result _ _
    (λ is. recovered_len c.args.pick (record { contents = c.args.contents.now.items; synced = c.args.synced.now.items; ranges = c.args.ranges.now }) c.restore.new.contents.items (c.requires.shorter c.if-fresh.false) c.requires.within is)
    c.restore.ensures.recovered
