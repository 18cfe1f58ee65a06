-- The owner of the disk has carried out a call, and the disk tells the same.
use Rattle.std.proofs.Common.{refl}
use Rattle.agent_core.proofs.LineLemmas.{still_standing}
use Rattle.agent_core.proofs.OutcomeLemmas.{not_run, roomier_may}
use Rattle.agent_core.proofs.RoomLemmas.{roomier_told}
use Rattle.agent_core.proofs.agent.Agent.call_done.Goals as goal

pub invariant_of-self : goal.invariant_of-self
invariant_of-self g c =
    let i = c.self.inside in
    still_standing i.list.now i.memory i.memory i.batch i.batch i.power i.store.journal i.store.journal
    (g.D.Disk.view i.store.disk) (g.D.Disk.view c.done.new.self) refl refl
    (roomier_told i.store.journal _ _ c.done.ensures.same) c.self.invariant

pub returns-clause-means : goal.returns-clause-means
returns-clause-means g c = rw (← c.self.view_is) (λ a seen.
    let i = c.self.inside in
    not_run i.memory i.memory i.batch i.batch i.store.journal i.store.journal i.now i.opened
    i.checkpoint i.power i.store.disk c.done.new.self (g.D.Disk.view i.store.disk)
    (g.D.Disk.view c.done.new.self) a
    (record { world = refl; rules = refl; held = refl; body = refl; changes = refl; size = refl })
    (roomier_told i.store.journal _ _ c.done.ensures.same) seen)

pub returns-clause-found : goal.returns-clause-found
returns-clause-found g c = rw (← c.self.view_is) (λ d n found.
    let i = c.self.inside in
    roomier_may i.store.journal i.store.journal (g.D.Disk.view i.store.disk)
    (g.D.Disk.view c.done.new.self) (roomier_told i.store.journal _ _ c.done.ensures.same)
    i.opened d n found)
