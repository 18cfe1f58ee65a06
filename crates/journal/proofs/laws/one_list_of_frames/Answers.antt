use Rattle.journal.proofs.Unique.{store_unique}
use Rattle.journal.proofs.laws.one_list_of_frames.Goals as goal

pub returns : goal.returns
returns c = record { law = store_unique }
