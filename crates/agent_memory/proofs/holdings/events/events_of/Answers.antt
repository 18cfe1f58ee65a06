-- Each event is for its document.
use Rattle.std.proofs.lemmas.Result.{IfOk-weaker}
use Rattle.agent_memory.proofs.SendLemmas.{labels_sent}
use Rattle.agent_memory.proofs.holdings.events.events_of.Goals as goal

pub returns-clause-labels : goal.returns-clause-labels
returns-clause-labels c =
    IfOk-weaker c.events_to.result _ _ (λ events is. labels_sent _ c.args.to.now events.items is) c.events_to.ensures
