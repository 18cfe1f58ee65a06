-- A line runs, and its reply and its durable change wait in the batch.
use Rattle.std.proofs.Common.{ap, arith, length, refl}
use Rattle.script_actions.specs.Plain.{action_of}
use Rattle.agent_core.specs.Batch.{PlainBatch}
use Rattle.agent_core.proofs.RunLemmas.{at_err, ran_not, ran_once}
use Rattle.agent_core.proofs.running.run_once.Goals as goal

pub hold-requires : goal.hold-requires
hold-requires c = record {
  room = rw (ap (λ (b : PlainBatch). b.spare) c.batch.view_is) c.requires.room;
}

pub returns-in_err-reply-clause-unchanged : goal.returns-in_err-reply-clause-unchanged
returns-in_err-reply-clause-unchanged c = rw (← c.batch.view_is)
    (at_err c.from_residual.result _
    (ran_not c.args.memory.now c.line.new.self _ _ c.in_err-reply.ensures.unchanged
    c.in_err-reply.ensures.rules refl c.in_err-reply.ensures.unwritten refl refl))

pub returns-clause-ran : goal.returns-clause-ran
returns-clause-ran c = rw (← c.batch.view_is)
    (ran_once (action_of c.args.action.now) _ _ _ _ _ _ _ _ c.in_ok-reply.ensures.world
    c.in_ok-reply.ensures.rules c.in_ok-reply.ensures.reply c.in_ok-reply.ensures.written
    c.len-before.ensures.len c.len.ensures.len c.hold.ensures.held c.hold.ensures.changes
    c.hold.ensures.body c.hold.ensures.size)

pub returns-clause-within : goal.returns-clause-within
returns-clause-within c = rw (← c.batch.view_is)
    (omega (
      arith,
      c.len.ensures.within,
      c.len.ensures.len,
      c.in_ok-reply.ensures.limit,
      ap length c.hold.ensures.body,
    ))
