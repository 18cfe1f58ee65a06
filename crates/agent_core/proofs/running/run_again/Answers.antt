-- A line that runs at the second try.
use Rattle.std.proofs.lemmas.Result.{on_err_weaker, on_ok_weaker}
use Rattle.script_actions.specs.Plain.{action_of}
use Rattle.agent_core.proofs.RoomLemmas.{room_less}
use Rattle.agent_core.proofs.RunLemmas.{at_err, not_run_then, run_after, unchanged_run}
use Rattle.agent_core.proofs.running.run_again.Goals as goal

pub returns-in_err-widen-clause-unchanged : goal.returns-in_err-widen-clause-unchanged
returns-in_err-widen-clause-unchanged g c =
    at_err c.from_residual.result _
    (unchanged_run c.args.memory.now c.args.batch.now c.widen.new.batch
    c.widen.new.batch.limit c.args.batch.now.spare c.in_err-widen.ensures.same)

pub returns-clause-ran : goal.returns-clause-ran
returns-clause-ran g c =
    on_ok_weaker c.run_once.result
    (run_after (action_of c.args.action.now) c.args.memory.now c.args.memory.now
    c.run_once.new.memory c.args.batch.now c.widen.new.batch c.run_once.new.batch
    (unchanged_run c.args.memory.now c.args.batch.now c.widen.new.batch
    c.widen.new.batch.limit c.args.batch.now.spare c.in_ok-widen.ensures.same))
    c.run_once.ensures.ran

pub returns-clause-unchanged : goal.returns-clause-unchanged
returns-clause-unchanged g c =
    on_err_weaker c.run_once.result
    (not_run_then c.args.memory.now c.args.memory.now c.run_once.new.memory
    c.args.batch.now c.widen.new.batch c.run_once.new.batch
    (unchanged_run c.args.memory.now c.args.batch.now c.widen.new.batch
    c.widen.new.batch.limit c.args.batch.now.spare c.in_ok-widen.ensures.same))
    c.run_once.ensures.unchanged

pub returns-clause-room : goal.returns-clause-room
returns-clause-room g c =
    on_ok_weaker c.run_once.result
    (λ within. room_less c.widen.new.store.journal (g.D.Disk.view c.widen.new.store.disk) _
    c.widen.new.batch.limit within c.in_ok-widen.ensures.room)
    c.run_once.ensures.within
