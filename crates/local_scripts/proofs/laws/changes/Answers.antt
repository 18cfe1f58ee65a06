use Rattle.local_scripts.proofs.LawLemmas.{changes as law}
use Rattle.local_scripts.proofs.laws.changes.Goals as goal

pub returns : goal.returns
returns c = record { changes = law }
