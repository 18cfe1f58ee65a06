use Rattle.std.proofs.Common.{◌≡◌, ℕ, true, Some, refl, subst}
use Rattle.disk_model.specs.MemDisk.{view_of}
use Rattle.store_runs.specs.Disks.{WritesOn}
use Rattle.store_runs.specs.Steps.{steps_of}
use Rattle.selftests.specs.Store.{day_batch, day_checkpoint}
use Rattle.selftests.proofs.RunLemmas.{disk_anew}
use Rattle.selftests.proofs.found.run_anew.Goals as goal

pub returns-clause-ran : goal.returns-clause-ran
returns-clause-ran c =
    disk_anew c.new.result.items c.new-3.result.items c.new-2.result.items c.new-disk.result
    c.run_on.result.disk c.args.list.now c.run_on.result.ending (steps_of c.args.lines.now)
    (Some c.args.printed.now.text.items) (Some c.run_on.new.out.text.items)
    c.new.ensures.items c.new-2.ensures.items c.new-3.ensures.items c.new-disk.ensures.contents
    c.new-disk.ensures.plan c.new-disk.ensures.cuts
    (subst (λ (start : ℕ). (view_of c.new-disk.result).tells ≡ true
    → WritesOn c.run_on.result.ending c.args.list.now start day_batch day_checkpoint
    (view_of c.new-disk.result) (steps_of c.args.lines.now) (Some c.args.printed.now.text.items)
    (Some c.run_on.new.out.text.items) (view_of c.run_on.result.disk))
    c.new-4.ensures.moment c.run_on.ensures.written)

pub returns-clause-tidy : goal.returns-clause-tidy
returns-clause-tidy c = c.run_on.ensures.tidy refl
