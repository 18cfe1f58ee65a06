use Rattle.one_store.proofs.RefinementLemmas.{are_replies, are_steps}
use Rattle.one_store.proofs.refinement.Goals as goal

pub returns : goal.returns
returns c = record { steps = are_steps; replies = are_replies }
