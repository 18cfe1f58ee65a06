-- What is printed of a history, worked out by hand. A line moves the clock, the next one meets a device
-- fault, and a restart finds no durable change. Then two lines run. The line that met the fault does not
-- move the clock, which goes on over the restart.
use Rattle.std.proofs.Common.{◌≡◌, ℕ, zero, suc, ℤ, pos, true, List, [], ◌∷◌, Some, None, inl, take, length, refl, sym, ap, ◌∙◌}
use Rattle.std.specs.Prelude.{codes}
use Rattle.unwinding.specs.Admissible.{Acts, History}
use Rattle.unwinding.specs.Durable.{apply_all, line_changes}
use Rattle.unwinding.specs.Epochs.{acknowledged_replies, all_changes, next_durable}
use Rattle.unwinding.specs.World.{line_reply, world_step}
use Rattle.script_actions.specs.Action.{PlainAction, Tick}
use Rattle.reply_lines.specs.Reply.{Now}
use Rattle.agent_model.specs.Lines.{main_event}
use Rattle.agent_model.specs.Rest.{refusal, rest_after}
use Rattle.agent_model.specs.TheMachine.{machine}
use Rattle.durable_model.specs.Histories.{AgentReply, history_replies}
use Rattle.durable_model.specs.Keeping.{AgentDurable, keeping}
use Rattle.printed_model.specs.Left.{IsLeft, end_opening, end_world}
use Rattle.printed_model.specs.Histories.{EndsUp, begins_at, down_reply, history_downs, printed_replies, restart_reply}

abbrev history : History PlainAction
history =
    record {
      closed =
          record {
            epoch = record { executed = Tick 5 ∷ []; interrupted = Some (Tick 7); acknowledged = 1; kept = 0 };
            downs = Acts (Tick 7) ∷ [];
          } ∷ [];
      open_end =
          record {
            epoch = record { executed = Tick 1 ∷ Tick 2 ∷ []; interrupted = None; acknowledged = 2; kept = 0 };
            downs = [];
          };
      committed = true;
    }

-- the reply to a line that moved the clock to this moment
abbrev ticked : ℤ → AgentReply
ticked now = record { site = None; reply = record { name = codes "tick"; body = Now now } }

is_printed : printed_replies [] (begins_at 0) history ≡ ticked (pos 5) ∷ down_reply (Acts (Tick 7)) ∷ restart_reply 0 ∷ ticked (pos 6) ∷ ticked (pos 8) ∷ []
unfolding history_replies acknowledged_replies machine keeping main_event refusal rest_after line_reply world_step
is_printed = refl

has_one_down : history_downs history ≡ Acts (Tick 7) ∷ []
has_one_down = refl

ends_up : EndsUp history
ends_up = (refl, refl)

-- lines that change nothing durable leave the state that the last epoch began with, and no other
no_changes : all_changes (machine []) (end_world [] (begins_at 0) history) (Tick 1 ∷ Tick 2 ∷ []) ≡ []
unfolding line_changes machine main_event refusal rest_after world_step
no_changes = refl

take_none : {A : Type 0} (n : ℕ) → ◌≡◌ {A = List A} (take n []) []
take_none zero = refl
take_none (suc n) = refl

leaves_nothing_else : (d : AgentDurable) → IsLeft [] 1 (begins_at 0) history d → d ≡ (end_opening [] (begins_at 0) history).state
unfolding next_durable
leaves_nothing_else d left =
    let at = (end_opening [] (begins_at 0) history).state in
    left.state ∙ ap (λ ms. apply_all keeping (take left.kept ms) at) no_changes ∙ ap (λ ms. apply_all keeping ms at) (take_none left.kept)

-- and it is left
it_is_left : IsLeft [] 1 (begins_at 0) history (end_opening [] (begins_at 0) history).state
unfolding next_durable
it_is_left = record { kept = 0; may = inl (sym (ap length no_changes)); state = refl }
