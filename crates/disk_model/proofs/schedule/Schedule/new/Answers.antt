use Rattle.std.specs.Prelude.{None}
use Rattle.disk_model.proofs.Plans.{all_told}
use Rattle.disk_model.proofs.schedule.Schedule.new.Goals as goal

pub returns-clause-told : goal.returns-clause-told
returns-clause-told c = λ none.
    all_told (record { calls = 0; cuts = c.args.cuts.items; fails = c.args.fails.items; off = None }) c.requires none
