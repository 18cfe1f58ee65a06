-- The open batch, as contracts see it, and what a line makes of it.
-- Source: none.
use Rattle.std.specs.Prelude.{◌≡◌, ℕ, ◌+◌, List, [], ◌∷◌, ◌++◌, length}
use Rattle.unwinding.specs.Durable.{line_changes}
use Rattle.unwinding.specs.World.{line_reply, world_step}
use Rattle.script_actions.specs.Action.{PlainAction}
use Rattle.reply_lines.specs.Reply.{PlainReply}
use Rattle.agent_model.specs.Isolation.{printed}
use Rattle.agent_model.specs.TheMachine.{machine}
use Rattle.agent_memory.specs.AgentState.{AgentState, world_of}
use Rattle.agent_memory.specs.Written.{AreWritten}

-- an open batch: how many lines it is to have, its body and the limit of that, the number of its
-- durable changes, the replies of its lines, and for how many replies more there is room
pub record PlainBatch : Type 0 where
  pub size : ℕ
  pub body : List ℕ
  pub limit : ℕ
  pub changes : ℕ
  pub held : List PlainReply
  pub spare : ℕ

-- a line ran in memory, and waits in the open batch
pub record HasRun (line : PlainAction) (was now : AgentState) (old new : PlainBatch) : Type 0 where
  pub world : world_of now ≡ world_step (machine was.rules) (world_of was) line
  pub rules : now.rules ≡ was.rules
  pub held : new.held
      ≡ old.held ++ printed (line_reply (machine was.rules) (world_of was) line) ∷ []
  pub written :
      AreWritten (line_changes (machine was.rules) (world_of was) line) old.body new.body
  pub changes :
      new.changes
      ≡ old.changes + length (line_changes (machine was.rules) (world_of was) line)
  pub size : new.size ≡ old.size

-- a line did not run; the limit of the body may be another
pub record HasNotRun (was now : AgentState) (old new : PlainBatch) : Type 0 where
  pub world : world_of now ≡ world_of was
  pub rules : now.rules ≡ was.rules
  pub held : new.held ≡ old.held
  pub body : new.body ≡ old.body
  pub changes : new.changes ≡ old.changes
  pub size : new.size ≡ old.size
