-- Calls of a session that run no line.
-- Source: none; these are the words of the promise.
use Rattle.std.specs.Prelude.{◌≡◌, ℕ, List, []}
use Rattle.disk_model.specs.Disk.{View}
use Rattle.script_actions.specs.Action.{PlainStep}
use Rattle.line_session.specs.SessionView.{SessionView}
use Rattle.line_session.specs.StandsFor.{GoesBy}

-- a call that runs none: a checkpoint, a reply that is printed, a call of the disk that is done
abbrev pub RunsNone : {D : Type 0} → (tell : D → View) → (old new : SessionView D) → Type 0
RunsNone tell old new = GoesBy tell old new [] [] []

-- one that leaves the agent as it was runs none; and the call behind one that runs none is the same
-- call together with it
pub record HasCallsBetween {D : Type 0} (tell : D → View) : Type 0 where
  pub still : (old new : SessionView D) → new.agent ≡ old.agent → RunsNone tell old new
  pub before : (old between new : SessionView D) (asked ran : List PlainStep) (given : List ℕ)
      → RunsNone tell old between → GoesBy tell between new asked ran given
      → GoesBy tell old new asked ran given
