use Rattle.journal.proofs.Meanings.{since_counts}
use Rattle.journal.proofs.laws.since_meaning.Goals as goal

pub returns : goal.returns
returns g c =
    let law = g.met.R.Replay in
    record { law = λ by. since_counts (g.R.Replay.takes by) g.R.Replay.empty (law.one_state by) (law.one_count by) }
