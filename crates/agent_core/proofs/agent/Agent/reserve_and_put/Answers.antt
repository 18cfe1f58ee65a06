-- Room is made for the snapshot, and then it is put in the place of the frames.
use Rattle.std.proofs.Common.{refl}
use Rattle.agent_core.proofs.FlushLemmas.{flush_goes, flush_wants}
use Rattle.agent_core.proofs.LineLemmas.{power_is}
use Rattle.agent_core.proofs.agent.Agent.reserve_and_put.Goals as goal

pub returns-in-Err : goal.returns-in-Err
returns-in-Err g c = rw (← c.self.view_is) (record {
  flushes =
      flush_wants c.self.inside.memory c.self.inside.batch _ _ _ _ _ _ _ _ _
      (g.D.Disk.view c.reserve.new.self.disk) (g.met.D.Disk.lawful c.self.inside.store.disk)
      c.in-Err.ensures.roomier 7;
  power = refl;
})

pub returns-in-Ok : goal.returns-in-Ok
returns-in-Ok g c =
    let put = c.put_snapshot.ensures in
    rw (← c.self.view_is) (record {
      flushes =
          flush_goes c.self.inside.memory c.self.inside.batch _ c.reserve.new.self.journal _ _ _ _ _
          c.reserve.new.self.disk _ (g.D.Disk.view c.reserve.new.self.disk)
          (g.met.D.Disk.lawful c.self.inside.store.disk) c.in-Ok.ensures.roomier 7
          (power_is _ _ c.self.view_is c.requires.up) c.put_snapshot.new.self
          (g.D.Disk.view c.put_snapshot.new.self.disk) c.put_snapshot.result put.finishes
          put.any_moment put.rules put.device put.has_memory (λ _. put.tidy);
      power = put.power;
    })
