use Rattle.std.proofs.Common.{refl, ap, ◌∙◌}
use Rattle.std.specs.Prelude.{is_some}
use Rattle.disk_model.specs.MemDisk.{view_of}
use Rattle.disk_model.proofs.MemView.{settled_anew}
use Rattle.store_runs.specs.Steps.{steps_of}
use Rattle.store_runs.proofs.DiskLemmas.{held_nothing, memory_writes}
use Rattle.store_runs.proofs.disks.run_in_memory.Goals as goal

pub returns-clause-written : goal.returns-clause-written
returns-clause-written g c =
    let disk = view_of c.new-disk.result in
    memory_writes c.args.cuts.items disk (held_nothing c.new-disk.result.past
    (c.new-disk.ensures.contents.0 ∙ c.new.ensures.items) c.new-disk.ensures.contents.1)
    (ap (λ plan. is_some plan.off) c.new-disk.ensures.plan) (c.new-disk.ensures.cuts c.new-2.ensures.items)
    (ap (λ plan. plan.calls) c.new-disk.ensures.plan)
    (λ bytes left. settled_anew c.new-disk.result.past bytes c.new-disk.ensures.contents.1 left)
    c.run_on.result.ending c.args.list.now c.args.options.start c.args.options.batch c.args.options.checkpoint
    (view_of c.run_on.result.disk) (steps_of c.args.lines.now) (g.O.Sink.taken c.args.out.now)
    (g.O.Sink.taken c.run_on.new.out) (c.run_on.ensures.written refl)
