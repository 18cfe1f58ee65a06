-- What is printed of restarts and of lines that met a device fault, worked out by hand.
-- Source: none; no standard speaks of runs.
use Rattle.std.proofs.Common.{◌≡◌, ℕ, ℤ, pos, true, false, List, [], ◌∷◌, None, inr, refl}
use Rattle.std.specs.Fmt.{digits}
use Rattle.std.specs.Prelude.{codes}
use Rattle.serde_json.proofs.OnLiterals.{serde_json_on_literals}
use Rattle.unwinding.specs.Admissible.{Acts, History, Reopens, Step, Stretch}
use Rattle.unwinding.specs.Epochs.{acknowledged_replies}
use Rattle.unwinding.specs.World.{line_reply, world_step}
use Rattle.storage_events.specs.declared.event.AreaKind.TheVariants.{Local}
use Rattle.script_actions.specs.Action.{Act, PlainAction, Set, Tick}
use Rattle.reply_lines.specs.Reply.{Kept, Now, Plain}
use Rattle.agent_model.specs.Isolation.{text_of}
use Rattle.agent_model.specs.Lines.{main_event}
use Rattle.agent_model.specs.Rest.{refusal, rest_after}
use Rattle.agent_model.specs.TheMachine.{machine}
use Rattle.agent_model.proofs.StandardFacts.{at_frame}
use Rattle.durable_model.specs.Histories.{AgentReply, history_replies}
use Rattle.durable_model.specs.Keeping.{keeping}
use Rattle.printed_model.specs.Histories.{EndsDown, EndsUp, begins_at, down_reply, history_downs, printed_replies, restart_reply}

-- ---- one reply

-- a line that met a device fault is answered `down`, by its own name, and the reply is of no site
sets_is_down : down_reply (Acts (Act (at_frame 1 0) (Set Local (codes "k") (codes "v")))) ≡ record { site = None; reply = record { name = codes "set"; body = Plain (codes "down") } }
sets_is_down = refl

restart_is_down : down_reply Reopens ≡ record { site = None; reply = record { name = codes "restart"; body = Plain (codes "down") } }
restart_is_down = refl

down_line : text_of (down_reply (Acts (Tick 7)) ∷ []) ≡ codes "{\"do\":\"tick\",\"is\":\"down\",\"site\":null}\n"
unfolding text_of serde_json_on_literals
down_line = refl

-- a restart tells how many durable changes it found
restart_tells : restart_reply 3 ≡ record { site = None; reply = record { name = codes "restart"; body = Kept 3 } }
restart_tells = refl

restart_line : text_of (restart_reply 3 ∷ []) ≡ codes "{\"do\":\"restart\",\"is\":\"ok\",\"kept\":3,\"site\":null}\n"
unfolding text_of digits serde_json_on_literals
restart_line = refl

-- ---- a history with two restarts

-- Which counts a history may have is said elsewhere; here the first restart found two changes, and
-- the second one, behind a restart that met a fault itself. A third stretch is open.
abbrev stretch : List PlainAction → ℕ → List (Step PlainAction) → ℕ → Stretch PlainAction
stretch executed acknowledged downs kept =
    record {
      epoch = record { executed = executed; interrupted = None; acknowledged = acknowledged; kept = kept };
      downs = downs;
    }

abbrev history : History PlainAction
history =
    record {
      closed = stretch (Tick 5 ∷ Tick 1 ∷ []) 1 [] 2 ∷ stretch [] 0 (Reopens ∷ Acts (Tick 9) ∷ []) 1 ∷ [];
      open_end = stretch (Tick 2 ∷ Tick 3 ∷ []) 1 [] 0;
      committed = false;
    }

abbrev ticked : ℤ → AgentReply
ticked now = record { site = None; reply = record { name = codes "tick"; body = Now now } }

-- each restart tells its own count, behind the lines of its stretch. The replies that waited for a
-- batch are not printed, though their lines moved the clock.
two_restarts : printed_replies [] (begins_at 0) history
    ≡ ticked (pos 5) ∷ restart_reply 2 ∷ down_reply Reopens ∷ down_reply (Acts (Tick 9)) ∷ restart_reply 1 ∷ ticked (pos 8) ∷ []
unfolding history_replies acknowledged_replies machine keeping main_event refusal rest_after line_reply world_step
two_restarts = refl

-- the lines that were answered `down`, in their order
two_downs : history_downs history ≡ Reopens ∷ Acts (Tick 9) ∷ []
two_downs = refl

-- what waited at the end was not committed: the agent is down, and not up
ends_down : EndsDown history
ends_down = inr refl

ends_not_up : EndsUp history → ⊥
ends_not_up up = let never = up.1 in cc

-- nor is it up where a line of the last stretch was answered `down`
down_at_the_end : EndsUp (record history { open_end = stretch [] 0 (Acts (Tick 9) ∷ []) 0; committed = true }) → ⊥
down_at_the_end up = let never = up.0 in cc
