use Rattle.journal.proofs.Meanings.{commit_stands_for}
use Rattle.journal.proofs.laws.commit_meaning.Goals as goal

pub returns : goal.returns
returns g c = record { law = λ by. commit_stands_for (g.R.Replay.takes by) g.R.Replay.empty }
