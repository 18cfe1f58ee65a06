use Rattle.journal.proofs.Refusals.{list_unique, means_unique}
use Rattle.journal.proofs.laws.one_meaning.Goals as goal

pub returns : goal.returns
returns g c =
    let R = g.R.Replay in
    let law = g.met.R.Replay in
    record {
      law = λ by. means_unique (R.takes by) (R.refuses by) R.empty (law.one_state by) (law.one_count by) (law.one_fault by) (law.apart by);
      list = λ by. list_unique (R.takes by) (R.refuses by) R.empty (law.one_state by) (law.one_count by) (law.one_fault by) (law.apart by);
    }
