-- A snapshot of what is in memory stands for what the frames stood for, at each site and in each
-- cell.
use Rattle.agent_core.proofs.CheckpointLemmas.{distinct_is, leaves_own, none_is, put_failed, put_gave, put_stands, snapshot_is}
use Rattle.agent_core.proofs.LineLemmas.{power_is}
use Rattle.agent_core.proofs.agent.Agent.put_snapshot.Goals as goal

pub returns-in-Err-clause-finishes : goal.returns-in-Err-clause-finishes
returns-in-Err-clause-finishes g c = rw (← c.self.view_is) (λ ran up clock.
    let none = none_is _ _ c.self.view_is c.requires.none in
    put_failed _ _ c.self.inside.batch _ c.checkpoint.new.self.journal _ _ _ _
    c.checkpoint.new.self.disk _ _ ran none.held none.changes up
    c.bodies_mean_states.ensures.snapshots c.bodies_mean_states.ensures.listed
    c.states_stay_spelled.ensures.stays c.states_stay_spelled.ensures.under c.args.body.now
    (snapshot_is _ _ c.args.body.now c.self.view_is c.requires.snapshot)
    (distinct_is _ _ c.self.view_is c.requires.distinct)
    (leaves_own _ _ _ c.args.body.now _ c.digest.ensures (c.in-Err.ensures.any_moment tt))
    (g.met.D.Disk.lawful c.self.inside.store.disk)
    (g.met.D.Disk.lawful c.checkpoint.new.self.disk)
    c.in-Err.ensures.device.tells c.in-Err.ensures.failed)

pub returns-in-Err-clause-any_moment : goal.returns-in-Err-clause-any_moment
returns-in-Err-clause-any_moment g c = rw (← c.self.view_is) (λ ran up tells.
    put_stands _ _ c.self.inside.batch _ _ _ _ _ _ _ _ ran c.self.view_is c.requires.none
    c.bodies_mean_states.ensures.snapshots c.bodies_mean_states.ensures.listed
    c.states_stay_spelled.ensures.stays c.states_stay_spelled.ensures.under c.args.body.now c.requires.snapshot
    c.requires.distinct up
    (leaves_own _ _ _ c.args.body.now _ c.digest.ensures (c.in-Err.ensures.any_moment tt)) tells)

pub returns-in-Ok-clause-finishes : goal.returns-in-Ok-clause-finishes
returns-in-Ok-clause-finishes g c = rw (← c.self.view_is) (λ ran up clock.
    let none = none_is _ _ c.self.view_is c.requires.none in
    put_gave _ _ c.self.inside.batch _ c.checkpoint.new.self.journal _ _ _ _
    c.checkpoint.new.self.disk _ _ ran none.held none.changes up
    c.bodies_mean_states.ensures.snapshots c.bodies_mean_states.ensures.listed
    c.states_stay_spelled.ensures.stays c.states_stay_spelled.ensures.under c.args.body.now
    (snapshot_is _ _ c.args.body.now c.self.view_is c.requires.snapshot)
    (distinct_is _ _ c.self.view_is c.requires.distinct) c.new.result c.new.ensures.items
    (power_is _ _ c.self.view_is c.requires.up) c.self.invariant.least clock
    (c.in-Ok.ensures.done tt) c.in-Ok.ensures.changes)

pub returns-in-Ok-clause-any_moment : goal.returns-in-Ok-clause-any_moment
returns-in-Ok-clause-any_moment g c = rw (← c.self.view_is) (λ ran up tells.
    put_stands _ _ c.self.inside.batch _ _ _ _ _ _ _ _ ran c.self.view_is c.requires.none
    c.bodies_mean_states.ensures.snapshots c.bodies_mean_states.ensures.listed
    c.states_stay_spelled.ensures.stays c.states_stay_spelled.ensures.under c.args.body.now c.requires.snapshot
    c.requires.distinct up
    (leaves_own _ _ _ c.args.body.now _ c.digest.ensures (c.in-Ok.ensures.any_moment tt)) tells)
