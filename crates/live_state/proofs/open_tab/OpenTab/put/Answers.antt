-- The queues that are kept are those of the frames afterwards.
use Rattle.live_state.proofs.TabLemmas.{ready-made, tab-made}
use Rattle.live_state.proofs.open_tab.OpenTab.put.Goals as goal

pub returns : goal.returns
returns c = record {
  put = tab-made _ _ _ _ _ c.keep_queues.ensures.kept c.self.inside.number c.args.self.now c.self.view_is c.self.invariant.0;
  kept = ready-made _ _ _ _ _ c.keep_queues.ensures.kept c.self.inside.number c.args.self.now c.self.view_is;
}
