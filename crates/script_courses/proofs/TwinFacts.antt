-- Local scripts and their comparison, worked out by hand, so that a wrong rule in the specs does not check.
use Rattle.std.proofs.Common.{◌≡◌, true, List, [], ◌∷◌, None, inl, inr, refl}
use Rattle.unwinding.specs.Admissible.{Acts, Reopens}
use Rattle.unwinding.specs.Durable.{line_changes}
use Rattle.unwinding.specs.Epochs.{acknowledged_replies, next_durable}
use Rattle.unwinding.specs.LocalEntries.{line_entries, line_touched}
use Rattle.unwinding.specs.LocalScript.{Happens, Restarts}
use Rattle.unwinding.specs.World.{world_step}
use Rattle.script_actions.specs.Action.{Evict, PlainStep, Tick}
use Rattle.agent_model.specs.Lines.{main_event}
use Rattle.agent_model.specs.Rest.{refusal, rest_after}
use Rattle.agent_model.specs.SideEvents.{side_event}
use Rattle.agent_model.specs.SiteEvent.{Evicts}
use Rattle.agent_model.specs.TheMachine.{machine}
use Rattle.agent_model.proofs.StandardFacts.{a, b, site}
use Rattle.durable_model.specs.Histories.{history_replies, history_script}
use Rattle.durable_model.specs.Keeping.{keeping}
use Rattle.local_scripts.specs.Items.{AgentItem}
use Rattle.script_courses.specs.GoodHistories.{good_history}
use Rattle.script_courses.specs.Twins.{Equal, IsTwin, LocalDiffer, TwinSetting, script_in}

-- in batches of two lines, a restart loses the third one, and the end commits the fourth
lost_and_committed : good_history [] 2 0 (Acts (Tick 5) ∷ Acts (Tick 7) ∷ Acts (Tick 1) ∷ Reopens ∷ Acts (Tick 2) ∷ []) ≡
    record {
      closed =
          record {
            epoch = record { executed = Tick 5 ∷ Tick 7 ∷ Tick 1 ∷ []; interrupted = None; acknowledged = 2; kept = 0 };
            downs = [];
          } ∷ [];
      open_end =
          record {
            epoch = record { executed = Tick 2 ∷ []; interrupted = None; acknowledged = 1; kept = 0 };
            downs = [];
          };
      committed = true;
    }
unfolding good_history line_changes machine keeping main_event refusal rest_after world_step
lost_and_committed = refl

-- the site `https://a.test`, in batches of two lines
abbrev at : TwinSetting
at = record { rules = []; site = site a; start = 7; batch = 2 }

abbrev items : List PlainStep → List AgentItem
items steps = (script_in at steps).script.items

-- no line is the end alone
ends_alone : items [] ≡ Restarts 7 0 0 ∷ []
unfolding history_script good_history acknowledged_replies machine keeping
ends_alone = refl

-- a restart is an entry; it has the moment that the lines before it reached
restarts : items (Acts (Tick 1) ∷ Reopens ∷ []) ≡ Restarts 8 0 0 ∷ Restarts 8 0 0 ∷ []
unfolding history_script good_history acknowledged_replies line_changes line_entries line_touched machine
    keeping main_event side_event refusal rest_after world_step next_durable
restarts = refl

-- the entry of a line that a restart loses stays, and its reply is not acknowledged
stays : items (Acts (Evict (site a)) ∷ Reopens ∷ [])
    ≡ Happens (record { event = record { moment = 7; event = Evicts }; held = [] }) ∷ Restarts 7 0 0 ∷ Restarts 7 0 0 ∷ []
unfolding history_script good_history acknowledged_replies line_entries line_touched machine keeping
    main_event side_event refusal rest_after world_step next_durable
stays = refl

-- that of another site is none
others : items (Acts (Evict (site b)) ∷ Reopens ∷ []) ≡ Restarts 7 0 0 ∷ Restarts 7 0 0 ∷ []
unfolding history_script good_history acknowledged_replies line_entries line_touched machine keeping
    main_event side_event refusal rest_after world_step next_durable
others = refl

-- two scripts without lines are equal
empty_equal : IsTwin at [] [] (Equal 0)
unfolding history_replies acknowledged_replies good_history
empty_equal = (refl, refl, refl)

-- where only the ends differ, they differ at the number of entries
ends_differ : IsTwin at [] (Acts (Tick 1) ∷ []) (LocalDiffer 0)
unfolding history_script good_history acknowledged_replies line_changes line_entries line_touched machine
    keeping main_event side_event refusal rest_after world_step
ends_differ = inr (refl, λ same. cc, refl)

-- a restart that reads as the end does is an entry all the same
restart_differs : IsTwin at [] (Reopens ∷ []) (LocalDiffer 0)
unfolding history_script good_history acknowledged_replies machine keeping next_durable
restart_differs = inl (record { fronts = refl; items = λ same. cc })
