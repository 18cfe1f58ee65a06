-- A commit leads to the state that the open batch leads to, or fails and leaves one or the other.
use Rattle.std.proofs.Common.{ap, arith, refl, ◌∙◌}
use Rattle.std.proofs.lemmas.Bool.{false≢true}
use Rattle.agent_core.specs.AgentView.{is_due}
use Rattle.agent_core.proofs.FinishLemmas.{commits_same, finish_failed, finish_gave, finish_moments, leaves_same}
use Rattle.agent_core.proofs.LineLemmas.{after_commit_standing, after_fault_standing, power_is, room_is}
use Rattle.agent_core.proofs.OutcomeLemmas.{device_failed, device_gave}
use Rattle.agent_core.proofs.agent.Agent.finish.Goals as goal

pub commit-requires-clause-ready : goal.commit-requires-clause-ready
commit-requires-clause-ready g c =
    c.self.invariant.ready (power_is _ _ c.self.view_is c.requires.up)

pub commit-requires-clause-room : goal.commit-requires-clause-room
commit-requires-clause-room g c =
    rw c.bytes.ensures.bytes (room_is g.D.Disk.view _ _ c.self.view_is c.requires.room)

pub invariant_of-self : goal.invariant_of-self
invariant_of-self g c =
    after_fault_standing c.self.inside.list.now c.self.inside.memory
    c.self.inside.batch c.self.inside.power c.self.inside.store.journal
    c.commit.new.self.journal (g.D.Disk.view c.self.inside.store.disk)
    (g.D.Disk.view c.commit.new.self.disk) c.in-Err.ensures.digest c.self.invariant

pub returns-in-Err-clause-finishes : goal.returns-in-Err-clause-finishes
returns-in-Err-clause-finishes g c = rw (← c.self.view_is) (λ ran up.
    finish_failed c.self.inside.memory c.self.inside.now c.self.inside.batch
    c.self.inside.store.journal c.commit.new.self.journal c.self.inside.opened c.self.inside.checkpoint
    c.self.inside.power c.self.inside.store.disk c.commit.new.self.disk
    (g.D.Disk.view c.self.inside.store.disk) (g.D.Disk.view c.commit.new.self.disk) ran
    c.bodies_mean_states.ensures.bodies c.bodies_mean_states.ensures.storable
    c.bodies_mean_states.ensures.spelled_under c.states_stay_spelled.ensures.stays up
    (leaves_same c.self.inside.store.journal (g.D.Disk.view c.self.inside.store.disk)
    (g.D.Disk.view c.commit.new.self.disk) c.self.inside.batch.body c.bytes.result.now
    c.self.inside.batch.changes c.changes-changes.result c.bytes.ensures.bytes
    c.changes-changes.ensures.changes (c.in-Err.ensures.any_moment tt))
    (g.met.D.Disk.lawful c.self.inside.store.disk)
    (g.met.D.Disk.lawful c.commit.new.self.disk)
    c.in-Err.ensures.device.tells c.in-Err.ensures.digest)

pub returns-in-Err-clause-any_moment : goal.returns-in-Err-clause-any_moment
returns-in-Err-clause-any_moment g c = rw (← c.self.view_is) (λ ran held tells.
    finish_moments _ _ _ ran c.bodies_mean_states.ensures.bodies
    c.bodies_mean_states.ensures.storable c.bodies_mean_states.ensures.spelled_under
    c.states_stay_spelled.ensures.stays held
    (leaves_same _ _ _ _ _ _ _ c.bytes.ensures.bytes c.changes-changes.ensures.changes
    (c.in-Err.ensures.any_moment tt)) tells)

pub returns-in-Err-clause-rules : goal.returns-in-Err-clause-rules
returns-in-Err-clause-rules g c = rw (← c.self.view_is) (refl, c.in-Err.ensures.digest, refl, refl)

pub returns-in-Err-clause-device : goal.returns-in-Err-clause-device
returns-in-Err-clause-device g c = rw (← c.self.view_is)
    (device_failed 4 _ _ _ c.in-Err.ensures.device.failed c.in-Err.ensures.device)

pub invariant_of-self-in-Ok : goal.invariant_of-self-in-Ok
invariant_of-self-in-Ok g c =
    after_commit_standing c.self.inside.list.now c.self.inside.memory
    c.self.inside.batch c.give.new.self c.self.inside.power
    c.self.inside.store.journal c.commit.new.self.journal
    (g.D.Disk.view c.self.inside.store.disk) (g.D.Disk.view c.commit.new.self.disk)
    c.in-Ok.ensures.digest c.give.ensures.size c.in-Ok.ensures.ready
    c.self.invariant

pub returns-in-Ok-clause-finishes : goal.returns-in-Ok-clause-finishes
returns-in-Ok-clause-finishes g c = rw (← c.self.view_is, c.new-self-inside.ensures.moment ∙ c.now.ensures.now) (λ ran up.
    finish_gave c.self.inside.memory c.self.inside.now c.self.inside.batch
    c.self.inside.store.journal c.commit.new.self.journal c.self.inside.opened c.self.inside.checkpoint
    c.self.inside.power c.self.inside.store.disk c.commit.new.self.disk
    (g.D.Disk.view c.self.inside.store.disk) (g.D.Disk.view c.commit.new.self.disk) ran
    c.bodies_mean_states.ensures.bodies c.bodies_mean_states.ensures.storable
    c.bodies_mean_states.ensures.spelled_under c.states_stay_spelled.ensures.stays up
    c.give.new.self c.give.result c.lines_keep_durable_states.ensures.valid
    (power_is _ _ c.self.view_is c.requires.up)
    c.give.ensures.body c.give.ensures.changes c.give.ensures.held
    (omega (arith, c.give.ensures.size, c.self.invariant.least))
    (commits_same c.self.inside.store.journal c.commit.new.self.journal
    (g.D.Disk.view c.self.inside.store.disk) (g.D.Disk.view c.commit.new.self.disk)
    c.self.inside.batch.body c.bytes.result.now c.self.inside.batch.changes
    c.changes-changes.result c.bytes.ensures.bytes c.changes-changes.ensures.changes
    (c.in-Ok.ensures.done tt))
    c.give.ensures.replies)

pub returns-in-Ok-clause-any_moment : goal.returns-in-Ok-clause-any_moment
returns-in-Ok-clause-any_moment g c = rw (← c.self.view_is) (λ ran held tells.
    finish_moments _ _ _ ran c.bodies_mean_states.ensures.bodies
    c.bodies_mean_states.ensures.storable c.bodies_mean_states.ensures.spelled_under
    c.states_stay_spelled.ensures.stays held
    (leaves_same _ _ _ _ _ _ _ c.bytes.ensures.bytes c.changes-changes.ensures.changes
    (c.in-Ok.ensures.any_moment tt)) tells)

pub returns-in-Ok-clause-rules : goal.returns-in-Ok-clause-rules
returns-in-Ok-clause-rules g c = rw (← c.self.view_is)
    (refl, c.in-Ok.ensures.digest, c.give.ensures.size, refl)

pub returns-in-Ok-clause-device : goal.returns-in-Ok-clause-device
returns-in-Ok-clause-device g c = rw (← c.self.view_is)
    (device_gave 4 _ _ _ c.give.result c.in-Ok.ensures.device.fine c.in-Ok.ensures.device)

pub returns-in-Err-clause-idle : goal.returns-in-Err-clause-idle
returns-in-Err-clause-idle g c = rw (← c.self.view_is) (λ empty.
    absurd (false≢true (c.in-Err.ensures.idle (c.bytes.ensures.bytes ∙ empty)).0))

pub returns-in-Ok-clause-idle : goal.returns-in-Ok-clause-idle
returns-in-Ok-clause-idle g c = rw (← c.self.view_is) (λ empty.
    let same = (c.in-Ok.ensures.idle (c.bytes.ensures.bytes ∙ empty)).1 in
    record {
      calls = ap (λ store. (g.D.Disk.view store.disk).changing) same;
      due = ap (λ store. is_due c.self.inside.checkpoint store.journal) same;
    })
