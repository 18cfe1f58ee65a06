-- Room is made for the body of the open batch, and then it is committed. With nothing held a
-- checkpoint is made.
use Rattle.std.proofs.Common.{ap, arith, length, refl}
use Rattle.agent_core.proofs.CheckpointLemmas.{held_is}
use Rattle.agent_core.proofs.CommitLemmas.{held_of}
use Rattle.agent_core.proofs.FlushLemmas.{flush_goes, flush_wants}
use Rattle.agent_core.proofs.LineLemmas.{no_body, power_is, some_held, still_standing}
use Rattle.agent_core.proofs.OutcomeLemmas.{calls_held, calls_none, idle_roomier, idle_then}
use Rattle.agent_core.proofs.RoomLemmas.{room_less}
use Rattle.agent_core.proofs.SeenLemmas.{from_parts}
use Rattle.agent_core.proofs.agent.Agent.settle.Goals as goal

pub invariant_of-self : goal.invariant_of-self
invariant_of-self g c =
    still_standing _ _ _ _ _ _ _ _ _ _ refl refl c.in-Err.ensures.roomier c.self.invariant

pub returns-in-Err-clause-flushes : goal.returns-in-Err-clause-flushes
returns-in-Err-clause-flushes g c = rw (← c.self.view_is)
    (flush_wants c.self.inside.memory c.self.inside.batch _ _ _ _ _ _ _ _ _
    (g.D.Disk.view c.reserve.new.self.disk) (g.met.D.Disk.lawful c.self.inside.store.disk)
    c.in-Err.ensures.roomier _)

pub invariant_of-self-in-Ok : goal.invariant_of-self-in-Ok
invariant_of-self-in-Ok g c =
    still_standing _ _ _ _ _ _ _ _ _ _ refl refl c.in-Ok.ensures.roomier c.self.invariant

pub finish-requires-clause-up : goal.finish-requires-clause-up
finish-requires-clause-up g c = power_is _ _ c.self.view_is c.requires.up

pub finish-requires-clause-room : goal.finish-requires-clause-room
finish-requires-clause-room g c =
    room_less c.reserve.new.self.journal (g.D.Disk.view c.reserve.new.self.disk)
    (length c.self.inside.batch.body) (length c.bytes.result.now)
    (omega (arith, ap length c.bytes.ensures.bytes)) (λ _. c.in-Ok.ensures.room)

pub returns-in-Ok-clause-flushes : goal.returns-in-Ok-clause-flushes
returns-in-Ok-clause-flushes g c =
    let done = c.finish.ensures in
    let some = some_held c.is_empty.result _ c.is_empty.ensures.empty c.if-is_empty.false in
    rw (← c.self.view_is)
    (flush_goes c.self.inside.memory c.self.inside.batch _ c.reserve.new.self.journal _ _ _ _ _
    c.reserve.new.self.disk _ (g.D.Disk.view c.reserve.new.self.disk)
    (g.met.D.Disk.lawful c.self.inside.store.disk) c.in-Ok.ensures.roomier _
    (power_is _ _ c.self.view_is c.requires.up) c.finish.new.self
    (g.D.Disk.view c.finish.new.self.disk) c.finish.result (λ a up clock. done.finishes a up)
    (λ a up. done.any_moment a (held_of _ _ a up)) done.rules
    (calls_held c.self.inside.batch.held _ c.finish.result _
    (g.D.Disk.view c.finish.new.self.disk) some done.device)
    done.has_memory (λ none. absurd (some none)))

pub returns-in-Err-clause-idle : goal.returns-in-Err-clause-idle
returns-in-Err-clause-idle g c = rw (← c.self.view_is) (λ a seen none some.
    idle_roomier _ _ _ _ refl c.in-Err.ensures.roomier)

pub returns-in-Ok-clause-idle : goal.returns-in-Ok-clause-idle
returns-in-Ok-clause-idle g c = rw (← c.self.view_is) (λ a seen none some.
    idle_then _ _ _ _ _ _
    (idle_roomier
    (from_parts c.self.inside.memory c.self.inside.now c.self.inside.batch c.self.inside.store.journal
    c.self.inside.opened c.self.inside.checkpoint c.self.inside.power c.self.inside.store.disk)
    (from_parts c.self.inside.memory c.self.inside.now c.self.inside.batch c.reserve.new.self.journal
    c.self.inside.opened c.self.inside.checkpoint c.self.inside.power c.reserve.new.self.disk) _ _
    refl c.in-Ok.ensures.roomier)
    (c.finish.ensures.idle (no_body _ _ a (power_is _ _ c.self.view_is c.requires.up) seen none)))

pub tend-requires-clause-none : goal.tend-requires-clause-none
tend-requires-clause-none g c = rw (← c.self.view_is) (record {
  held = c.is_empty.ensures.empty.0 c.if-is_empty.true;
  changes = c.is_empty.ensures.none c.if-is_empty.true;
})

pub returns-then-is_empty-clause-flushes : goal.returns-then-is_empty-clause-flushes
returns-then-is_empty-clause-flushes g c =
    let tended = c.tend.ensures.flushes in
    record {
      means = tended.means;
      any_moment = tended.any_moment;
      rules = tended.rules;
      device =
          calls_none c.args.self.now.held _ c.tend.result _
          (g.D.Disk.view c.tend.new.self.disk)
          (held_is _ _ c.self.view_is (c.is_empty.ensures.empty.0 c.if-is_empty.true))
          tended.device;
      spares = tended.spares;
      tidy = tended.tidy;
    }

pub returns-then-is_empty-clause-idle : goal.returns-then-is_empty-clause-idle
returns-then-is_empty-clause-idle g c = rw (← c.self.view_is) (λ a seen none some.
    absurd (some (c.is_empty.ensures.empty.0 c.if-is_empty.true)))
