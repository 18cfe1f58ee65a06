-- Each frame has a queue.
use Rattle.std.proofs.Common.{subst}
use Rattle.live_state.specs.Tabs.{HasQueues}
use Rattle.live_state.proofs.TabLemmas.{queues-each}
use Rattle.live_state.proofs.open_tab.OpenTab.tab.Goals as goal

pub returns-clause-queues : goal.returns-clause-queues
returns-clause-queues c = subst (λ tab. HasQueues tab.plain) c.self.view_is (queues-each c.self.inside.tab c.self.inside.queues.items)
