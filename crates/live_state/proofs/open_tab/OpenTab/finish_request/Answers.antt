-- The queues that are kept are those of the frames afterwards.
use Rattle.live_state.proofs.TabLemmas.{frames-changed}
use Rattle.live_state.proofs.open_tab.OpenTab.finish_request.Goals as goal

pub returns-clause-changes : goal.returns-clause-changes
returns-clause-changes c = frames-changed _ _ _ _ _ c.keep_queues.ensures.kept c.self.inside.number c.args.self.now c.self.view_is c.self.invariant.0 c.finish_request.ensures.site c.finish_request.ensures.tree
