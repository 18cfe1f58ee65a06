-- A line runs and waits, or it is the last of its batch, which is committed; or it changes nothing.
use Rattle.std.proofs.Common.{ap, refl, ◌∙◌}
use Rattle.journal.specs.Journal.{JournalView}
use Rattle.script_actions.specs.Plain.{action_of}
use Rattle.agent_core.proofs.LineLemmas.{held_down, line_ends, line_held, line_leaves, last_of_batch, line_stays, memory_down, no_body_ran, not_full, power_is, still_standing, wanting}
use Rattle.agent_core.proofs.OutcomeLemmas.{device_before, idle_roomier, idle_then}
use Rattle.agent_core.proofs.ReadLemmas.{action_read}
use Rattle.agent_core.proofs.SeenLemmas.{from_parts}
use Rattle.agent_core.proofs.agent.Agent.run.Goals as goal

pub invariant_of-self : goal.invariant_of-self
invariant_of-self g c =
    still_standing _ _ _ _ _ _ _ _ _ _ c.in-Err.ensures.unchanged.rules c.in-Err.ensures.unchanged.size
    c.in-Err.ensures.roomier c.self.invariant

pub returns-in-Err : goal.returns-in-Err
returns-in-Err g c =
    let kept = c.in-Err.ensures.unchanged in
    rw (← c.self.view_is) (record {
      runs =
          line_stays _ c.run_line.new.memory c.self.inside.batch c.run_line.new.batch _ _ _ _ _ _ _
          _ _ _ _ _ _ (g.met.D.Disk.lawful c.self.inside.store.disk) c.in-Err.ensures.roomier
          kept.rules kept.size memory_down
          (λ a seen fits.
          wanting _ c.run_line.new.memory c.self.inside.batch c.run_line.new.batch _
          c.run_line.new.store.journal _ _ _ _ _ c.run_line.new.store.disk _
          (g.D.Disk.view c.run_line.new.store.disk) a kept c.in-Err.ensures.roomier seen);
      power = refl;
    })

pub invariant_of-self-then-is_full : goal.invariant_of-self-then-is_full
invariant_of-self-then-is_full g c =
    still_standing _ _ _ _ _ _ _ _ _ _ c.in-Ok.ensures.ran.rules c.in-Ok.ensures.ran.size
    c.in-Ok.ensures.roomier c.self.invariant

pub finish-requires-clause-up : goal.finish-requires-clause-up
finish-requires-clause-up g c = power_is _ _ c.self.view_is c.requires.up

pub finish-requires-clause-room : goal.finish-requires-clause-room
finish-requires-clause-room g c = c.in-Ok.ensures.room

pub returns-then-is_full : goal.returns-then-is_full
returns-then-is_full g c =
    let done = c.finish.ensures in
    rw (← c.self.view_is) (record {
      runs = record {
        means = λ a seen fits.
            line_ends c.self.inside.memory c.run_line.new.memory c.self.inside.batch c.run_line.new.batch
            c.self.inside.store.journal c.run_line.new.store.journal c.self.inside.now
            c.self.inside.opened c.self.inside.checkpoint c.self.inside.power c.self.inside.store.disk c.run_line.new.store.disk
            (g.D.Disk.view c.self.inside.store.disk) (g.D.Disk.view c.run_line.new.store.disk)
            (action_of c.args.action.now) c.in-Ok.ensures.ran c.in-Ok.ensures.roomier a seen
            c.lines_keep_durable_states.ensures.follows c.lines_keep_durable_states.ensures.valid_lines
            c.lines_have_spellings.ensures.spelled (action_read c.args.action.now)
            c.lines_have_spellings.ensures.stays (power_is _ _ c.self.view_is c.requires.up) fits
            (c.is_full.ensures.0 c.if-is_full.true) c.finish.new.self
            (g.D.Disk.view c.finish.new.self.disk) _ c.finish.result done.finishes;
        any_moment = λ a seen.
            line_leaves c.self.inside.memory c.run_line.new.memory c.self.inside.batch c.run_line.new.batch
            c.self.inside.store.journal c.run_line.new.store.journal c.self.inside.now
            c.self.inside.opened c.self.inside.checkpoint c.self.inside.power c.self.inside.store.disk c.run_line.new.store.disk
            (g.D.Disk.view c.self.inside.store.disk) (g.D.Disk.view c.run_line.new.store.disk)
            (action_of c.args.action.now) c.in-Ok.ensures.ran c.in-Ok.ensures.roomier a seen
            c.lines_keep_durable_states.ensures.follows c.lines_keep_durable_states.ensures.valid_lines
            c.lines_have_spellings.ensures.spelled (action_read c.args.action.now)
            (g.D.Disk.view c.finish.new.self.disk) (g.met.D.Disk.lawful c.self.inside.store.disk)
            done.any_moment;
        rules = (
          done.rules.0 ∙ c.in-Ok.ensures.ran.rules,
          done.rules.1 ∙ ap (λ (i : JournalView). i.digest) c.in-Ok.ensures.roomier.journal,
          done.rules.2 ∙ c.in-Ok.ensures.ran.size,
          done.rules.3,
        );
        device =
            device_before _ _ _ (g.D.Disk.view c.run_line.new.store.disk) _ c.in-Ok.ensures.roomier 4
            c.finish.result done.device;
        idle = λ a seen none.
            idle_then _ _ _ _ _ _ (idle_roomier
            (from_parts c.self.inside.memory c.self.inside.now c.self.inside.batch
            c.self.inside.store.journal c.self.inside.opened c.self.inside.checkpoint
            c.self.inside.power c.self.inside.store.disk)
            (from_parts c.run_line.new.memory c.self.inside.now c.run_line.new.batch
            c.run_line.new.store.journal c.self.inside.opened c.self.inside.checkpoint
            c.self.inside.power c.run_line.new.store.disk) _ _ refl c.in-Ok.ensures.roomier)
            (done.idle
            (no_body_ran c.self.inside.memory c.run_line.new.memory c.self.inside.batch
            c.run_line.new.batch c.self.inside.store.journal c.self.inside.now c.self.inside.opened
            c.self.inside.checkpoint c.self.inside.power c.self.inside.store.disk
            (g.D.Disk.view c.self.inside.store.disk) (action_of c.args.action.now) a
            c.in-Ok.ensures.ran (power_is _ _ c.self.view_is c.requires.up) seen none));
        waits = λ is. absurd (done.ends is);
        spares = λ is. absurd (done.has_memory is);
        tried = λ is. last_of_batch (action_of c.args.action.now) _ _ c.self.inside.batch c.run_line.new.batch
            c.in-Ok.ensures.ran (c.is_full.ensures.0 c.if-is_full.true);
      };
      power = done.power;
    })

pub invariant_of-self-in-Ok : goal.invariant_of-self-in-Ok
invariant_of-self-in-Ok g c =
    still_standing _ _ _ _ _ _ _ _ _ _ c.in-Ok.ensures.ran.rules c.in-Ok.ensures.ran.size
    c.in-Ok.ensures.roomier c.self.invariant

pub returns-else-is_full : goal.returns-else-is_full
returns-else-is_full g c =
    let ran = c.in-Ok.ensures.ran in
    rw (← c.self.view_is, c.new-self-inside.ensures.moment ∙ c.now.ensures.now) (record {
      runs =
          line_stays _ c.run_line.new.memory c.self.inside.batch c.run_line.new.batch _ _ _ _ _ _ _
          _ _ _ _ _ _ (g.met.D.Disk.lawful c.self.inside.store.disk) c.in-Ok.ensures.roomier
          ran.rules ran.size held_down
          (λ a seen fits.
          line_held _ c.run_line.new.memory c.self.inside.batch c.run_line.new.batch _
          c.run_line.new.store.journal _ _ _ _ _ c.run_line.new.store.disk _
          (g.D.Disk.view c.run_line.new.store.disk) (action_of c.args.action.now) ran
          c.in-Ok.ensures.roomier a seen c.lines_keep_durable_states.ensures.follows
          c.lines_keep_durable_states.ensures.valid_lines c.lines_have_spellings.ensures.spelled
          (action_read c.args.action.now) c.lines_have_spellings.ensures.stays
          (power_is _ _ c.self.view_is c.requires.up) fits
          (not_full c.is_full.result c.run_line.new.batch.size _ c.is_full.ensures
          c.if-is_full.false));
      power = refl;
    })
