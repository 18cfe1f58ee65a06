use Rattle.std.proofs.Common.{Some, subst}
use Rattle.disk_model.specs.MemDisk.{view_of}
use Rattle.store_runs.specs.Steps.{steps_of}
use Rattle.selftests.specs.Runs.{RanAnew}
use Rattle.selftests.proofs.RunLemmas.{store_anew, text_anew}
use Rattle.selftests.proofs.found.run.Goals as goal

pub returns-in-Done-clause-text : goal.returns-in-Done-clause-text
returns-in-Done-clause-text c =
    let list = c.in_ok-list.list in
    let steps = steps_of c.args.lines.now in
    let before = c.args.printed.now.text.items in
    let after = c.run_anew-finished.new.printed.text.items in
    let images = (view_of c.run_anew-finished.result.disk).may_leave in
    text_anew list c.in_ok-list.ensures steps images c.printed_histories_are_isolated.ensures.unbroken before after c.requires.nothing
    (subst (λ ending. RanAnew ending list steps (Some before) (Some after) images) c.in-Done.is c.run_anew-finished.ensures.ran)

pub returns-in-Done-clause-store : goal.returns-in-Done-clause-store
returns-in-Done-clause-store c =
    let list = c.in_ok-list.list in
    let steps = steps_of c.args.lines.now in
    let before = Some c.args.printed.now.text.items in
    let after = Some c.run_anew-finished.new.printed.text.items in
    let images = (view_of c.run_anew-finished.result.disk).may_leave in
    store_anew list c.in_ok-list.ensures steps images before after
    (subst (λ ending. RanAnew ending list steps before after images) c.in-Done.is c.run_anew-finished.ensures.ran)
    (c.run_anew-finished.ensures.tidy c.in-Done.is) c.length.result c.length.ensures
