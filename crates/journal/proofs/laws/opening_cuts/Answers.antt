use Rattle.journal.proofs.Cuts.{answers_by_cuts}
use Rattle.journal.proofs.laws.opening_cuts.Goals as goal

pub returns : goal.returns
returns g c =
    let view = g.D.Disk.view in
    let laws = g.met.D.Disk.lawful in
    record { law = λ old new result calls cuts opens makes on told. answers_by_cuts (view old) (view new) result calls cuts (laws old) (laws new) opens makes on told }
