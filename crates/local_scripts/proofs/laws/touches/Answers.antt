use Rattle.local_scripts.proofs.LawLemmas.{touches as law}
use Rattle.local_scripts.proofs.laws.touches.Goals as goal

pub returns : goal.returns
returns c = record { touches = law }
