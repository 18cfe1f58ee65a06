use Rattle.std.proofs.Common.{arith, ap, ◌∙◌}
use Rattle.disk_model.specs.Schedule.{Plan}
use Rattle.disk_model.proofs.MemView.{settled_anew}
use Rattle.carried_disk.proofs.carried_disk.CarriedDisk.new.Goals as goal

pub invariant_of-result : goal.invariant_of-result
invariant_of-result c =
    let disk = c.new-3.result in
    let plan = c.new-3.ensures.plan in (
      record {
        settled = λ e bytes image. settled_anew disk.past bytes c.new-3.ensures.contents.1 image;
        cuts = ap (λ (p : Plan). p.cuts) plan ∙ c.new.ensures.items;
        fails = ap (λ (p : Plan). p.fails) plan ∙ c.new-2.ensures.items;
        powered = ap (λ (p : Plan). p.off) plan;
      },
      record {
        in_disk = λ some. absurd (omega (arith, some));
        writes_in_disk = omega arith;
        in_bytes = omega arith;
      },
      omega arith,
    )

pub returns-clause-settled : goal.returns-clause-settled
returns-clause-settled c = λ bytes image. settled_anew c.new-3.result.past bytes c.new-3.ensures.contents.1 image
