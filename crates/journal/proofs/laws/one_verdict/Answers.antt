use Rattle.journal.proofs.Refusals.{not_refused}
use Rattle.journal.proofs.Total.{verdict}
use Rattle.journal.proofs.laws.one_verdict.Goals as goal

pub returns : goal.returns
returns g c =
    let R = g.R.Replay in
    let law = g.met.R.Replay in
    record {
      law = λ by. verdict (R.takes by) (R.refuses by) R.empty (law.either by);
      apart = λ by. not_refused (R.takes by) (R.refuses by) R.empty (law.one_state by) (law.one_count by) (law.one_fault by) (law.apart by);
    }
