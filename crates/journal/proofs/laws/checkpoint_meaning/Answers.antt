use Rattle.journal.proofs.Meanings.{checkpoint_stands_for}
use Rattle.journal.proofs.laws.checkpoint_meaning.Goals as goal

pub returns : goal.returns
returns g c = record { law = λ by. checkpoint_stands_for (g.R.Replay.takes by) g.R.Replay.empty }
