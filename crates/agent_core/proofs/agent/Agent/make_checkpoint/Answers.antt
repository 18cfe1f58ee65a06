-- A snapshot is made of what is in memory, and put in the place of the frames.
use Rattle.std.proofs.Common.{refl}
use Rattle.agent_core.proofs.LineLemmas.{memory_down, up_moments}
use Rattle.agent_core.proofs.OutcomeLemmas.{device_none}
use Rattle.agent_core.proofs.RoomLemmas.{roomier_same, stays_same}
use Rattle.agent_core.proofs.agent.Agent.make_checkpoint.Goals as goal

pub returns-in-Err : goal.returns-in-Err
returns-in-Err g c =
    let v = g.D.Disk.view c.args.self.now.disk in
    record {
      flushes = record {
        means = λ a seen. (a, seen, (refl, λ d n left. left));
        any_moment = λ a seen is_up tells.
            up_moments _ _ _ a _ (g.met.D.Disk.lawful c.args.self.now.disk) (stays_same v)
            (seen.standing is_up);
        rules = (refl, refl, refl, refl);
        device = device_none _ _ v v v (roomier_same c.args.self.now.journal v) _ _ memory_down;
        spares = λ _. record { calls = refl; due = refl };
        tidy = λ _. tt;
      };
      power = refl;
    }
