-- The row changes are written first, and stay whether the eviction wants memory or not.
use Rattle.agent_memory.specs.AgentState.{beside_storage}
use Rattle.agent_memory.proofs.WritesLemmas.{appended_still, writes_wanting}
use Rattle.agent_memory.proofs.holdings.Holdings.evict.Goals as goal

pub returns-in_err-write_evicted-clause-changes : goal.returns-in_err-write_evicted-clause-changes
returns-in_err-write_evicted-clause-changes c =
    writes_wanting _ c.args.body.now.bytes c.write_evicted.new.body.bytes c.from_residual.result c.from_residual.ensures.0
    (c.in_err-write_evicted.ensures.changes (beside_storage c.self.inside.live.tabs c.self.inside.cookies
    c.self.inside.grants.rows))

pub returns-clause-changes : goal.returns-clause-changes
returns-clause-changes c = rw (← c.self.view_is)
    (appended_still _ c.args.body.now.bytes c.write_evicted.new.body.bytes c.evict.result
    (c.in_ok-write_evicted.ensures.changes (beside_storage c.self.inside.live.tabs c.self.inside.cookies
    c.self.inside.grants.rows)))
