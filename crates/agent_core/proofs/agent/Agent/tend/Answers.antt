-- With nothing held the checkpoint that is due is made, or nothing is done.
use Rattle.std.proofs.Common.{refl, sym, ◌∙◌}
use Rattle.agent_core.proofs.CheckpointLemmas.{none_is, nothing_flushed}
use Rattle.agent_core.proofs.LineLemmas.{power_is, up_moments}
use Rattle.agent_core.proofs.OutcomeLemmas.{calls_due, device_none, not_down, not_wanting}
use Rattle.agent_core.proofs.RoomLemmas.{roomier_same, stays_same}
use Rattle.agent_core.proofs.agent.Agent.tend.Goals as goal

pub returns-then-is_due : goal.returns-then-is_due
returns-then-is_due g c =
    let made = c.make_checkpoint.ensures.flushes in
    record {
      flushes = record {
        means = made.means;
        any_moment = made.any_moment;
        rules = made.rules;
        device =
            calls_due c.args.self.now _ _ (g.D.Disk.view c.make_checkpoint.new.self.disk)
            (sym c.is_due.ensures ∙ c.if-is_due.true) made.device;
        spares = made.spares;
        tidy = made.tidy;
      };
      power = c.make_checkpoint.ensures.power;
    }

pub returns : goal.returns
returns g c = record {
  flushes = record {
    means =
        rw (← c.self.view_is) (λ a seen.
        nothing_flushed c.self.inside.memory c.self.inside.now c.self.inside.batch
        c.self.inside.store.journal c.self.inside.opened c.self.inside.checkpoint
        c.self.inside.power c.self.inside.store.disk (g.D.Disk.view c.self.inside.store.disk) a
        c.new.result (none_is _ _ c.self.view_is c.requires.none).held
        (none_is _ _ c.self.view_is c.requires.none).changes c.self.invariant.least
        (power_is _ _ c.self.view_is c.requires.up) c.new.ensures.items seen);
    any_moment =
        rw (← c.self.view_is) (λ a seen is_up tells.
        up_moments _ _ _ a _ (g.met.D.Disk.lawful c.self.inside.store.disk)
        (stays_same (g.D.Disk.view c.self.inside.store.disk)) (seen.standing is_up));
    rules = (refl, refl, refl, refl);
    device =
        let v = g.D.Disk.view c.args.self.now.disk in
        device_none _ _ v v v (roomier_same c.args.self.now.journal v) _ _
        (not_down c.new.result);
    spares = λ is. absurd (not_wanting c.new.result is);
    tidy = λ _. sym c.is_due.ensures ∙ c.if-is_due.false;
  };
  power = refl;
}
