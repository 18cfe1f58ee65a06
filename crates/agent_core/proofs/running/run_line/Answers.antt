-- A line runs at the first try, or once more room was made.
use Rattle.std.proofs.lemmas.Result.{on_err_weaker, on_ok_weaker}
use Rattle.script_actions.specs.Plain.{action_of}
use Rattle.agent_core.proofs.RoomLemmas.{room_less, roomier_then}
use Rattle.agent_core.proofs.RunLemmas.{at_err, not_run_then, run_after, unchanged_run}
use Rattle.agent_core.proofs.running.run_line.Goals as goal

pub returns-in_err-make_room-clause-unchanged : goal.returns-in_err-make_room-clause-unchanged
returns-in_err-make_room-clause-unchanged g c =
    at_err c.from_residual.result _
    (unchanged_run c.args.memory.now c.args.batch.now c.make_room.new.batch
    c.args.batch.now.limit c.make_room.new.batch.spare c.in_err-make_room.ensures.same)

pub returns-in-Ok-clause-ran : goal.returns-in-Ok-clause-ran
returns-in-Ok-clause-ran g c =
    run_after (action_of c.args.action.now) c.args.memory.now c.args.memory.now
    c.run_once.new.memory c.args.batch.now c.make_room.new.batch c.run_once.new.batch
    (unchanged_run c.args.memory.now c.args.batch.now c.make_room.new.batch
    c.args.batch.now.limit c.make_room.new.batch.spare c.in_ok-make_room.ensures.same)
    c.in-Ok.ensures.ran

pub returns-in-Ok-clause-room : goal.returns-in-Ok-clause-room
returns-in-Ok-clause-room g c =
    room_less c.make_room.new.store.journal (g.D.Disk.view c.make_room.new.store.disk) _
    c.make_room.new.batch.limit c.in-Ok.ensures.within c.in_ok-make_room.ensures.room

pub returns-in-Err-clause-ran : goal.returns-in-Err-clause-ran
returns-in-Err-clause-ran g c =
    on_ok_weaker c.run_again.result
    (run_after (action_of c.args.action.now) c.args.memory.now c.run_once.new.memory
    c.run_again.new.memory c.args.batch.now c.run_once.new.batch c.run_again.new.batch
    (not_run_then c.args.memory.now c.args.memory.now c.run_once.new.memory
    c.args.batch.now c.make_room.new.batch c.run_once.new.batch
    (unchanged_run c.args.memory.now c.args.batch.now c.make_room.new.batch
    c.args.batch.now.limit c.make_room.new.batch.spare c.in_ok-make_room.ensures.same)
    c.in-Err.ensures.unchanged))
    c.run_again.ensures.ran

pub returns-in-Err-clause-unchanged : goal.returns-in-Err-clause-unchanged
returns-in-Err-clause-unchanged g c =
    on_err_weaker c.run_again.result
    (not_run_then c.args.memory.now c.run_once.new.memory c.run_again.new.memory
    c.args.batch.now c.run_once.new.batch c.run_again.new.batch
    (not_run_then c.args.memory.now c.args.memory.now c.run_once.new.memory
    c.args.batch.now c.make_room.new.batch c.run_once.new.batch
    (unchanged_run c.args.memory.now c.args.batch.now c.make_room.new.batch
    c.args.batch.now.limit c.make_room.new.batch.spare c.in_ok-make_room.ensures.same)
    c.in-Err.ensures.unchanged))
    c.run_again.ensures.unchanged

pub returns-in-Err-clause-roomier : goal.returns-in-Err-clause-roomier
returns-in-Err-clause-roomier g c =
    roomier_then c.args.store.now.journal c.make_room.new.store.journal
    c.run_again.new.store.journal (g.D.Disk.view c.args.store.now.disk)
    (g.D.Disk.view c.make_room.new.store.disk) (g.D.Disk.view c.run_again.new.store.disk)
    c.in_ok-make_room.ensures.roomier c.run_again.ensures.roomier
