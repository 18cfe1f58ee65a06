-- The promise over a store, in the words of a run.
use Rattle.std.proofs.Common.{◌≡◌, ℕ, ◌*◌, ◌/◌, Bool, true, false, List, [], ◌∷◌, ◌++◌, length, map, take, take_all, refl, sym, ap, subst, ◌∙◌, append-nil, arith}
use Rattle.unwinding.specs.Admissible.{Acts, EndsAcknowledged, Reopens, Stretch, closed_steps, stretch_steps}
use Rattle.unwinding.specs.Epochs.{acknowledged_replies}
use Rattle.unwinding.specs.World.{replies}
use Rattle.unwinding.proofs.Fronts.{length_replies}
use Rattle.suffix_list.specs.Suffix.{Rule}
use Rattle.script_actions.specs.Action.{PlainAction}
use Rattle.agent_model.specs.Isolation.{lines_alone, replies_to, text_of, transcript}
use Rattle.agent_model.specs.TheMachine.{machine}
use Rattle.durable_model.specs.Histories.{HasIsolatedHistories, history_replies, history_run, reopened_world}
use Rattle.durable_model.specs.Saved.{nothing_saved}
use Rattle.durable_model.proofs.NothingLemmas.{nothing_opens}
use Rattle.script_actions.specs.Action.{PlainStep}
use Rattle.printed_model.specs.Histories.{HasOneText, HasSameLines, HasSiteLines, IsHistoryOf, begins_at, down_reply, history_text, restart_reply}

pub site_lines : HasIsolatedHistories → HasSiteLines
site_lines law rules start saved valid history site = law rules restart_reply down_reply (λ kept. refl) (λ step. refl) site start saved valid history

pub same_lines : HasSiteLines → HasSameLines
same_lines law rules other_rules start other_start saved other_saved valid other_valid history other site same =
    law rules start saved valid history site ∙ ap (λ given. lines_alone site (history_run site given)) same ∙ sym (law other_rules other_start other_saved other_valid other site)

-- ---- no line reopens

abbrev AllAct : List PlainStep → Type 0
AllAct [] = Unit {0}
AllAct (Acts l ∷ steps) = AllAct steps
AllAct (Reopens ∷ steps) = ⊥

all_act : (actions : List PlainAction) → AllAct (map Acts actions)
all_act [] = tt
all_act (l ∷ actions) = all_act actions

first_act : (a b : List PlainStep) → AllAct (a ++ b) → AllAct a
first_act [] b all = tt
first_act (Acts l ∷ a) b all = first_act a b all
first_act (Reopens ∷ a) b all = all

later_act : (a b : List PlainStep) → AllAct (a ++ b) → AllAct b
later_act [] b all = all
later_act (Acts l ∷ a) b all = later_act a b all
later_act (Reopens ∷ a) b all = absurd all

-- the actions of lines
abbrev acted : List PlainStep → List PlainAction
acted [] = []
acted (Acts l ∷ steps) = l ∷ acted steps
acted (Reopens ∷ steps) = acted steps

acted_map : (actions : List PlainAction) → acted (map Acts actions) ≡ actions
acted_map [] = refl
acted_map (l ∷ actions) = ap (λ ls. l ∷ ls) (acted_map actions)

-- in batches of one line every line is acknowledged at the end
all_known : (committed : Bool) (end : Stretch PlainAction) → EndsAcknowledged 1 committed end.epoch → end.epoch.acknowledged ≡ length end.epoch.executed
all_known true end known = known
all_known false end known = known ∙ one_by_one (length end.epoch.executed)
  where
    one_by_one : (n : ℕ) → 1 * (n / 1) ≡ n
    one_by_one n = omega arith

module _ (rules : List Rule) (start : ℕ) (actions : List PlainAction) where
  unbroken_text : (committed : Bool) (end : Stretch PlainAction) → end.downs ≡ [] → end.epoch.executed ≡ actions → end.epoch.acknowledged ≡ length end.epoch.executed
      → history_text rules (begins_at start) (record { closed = []; open_end = end; committed = committed }) ≡ transcript rules start actions
  unfolding history_replies acknowledged_replies transcript replies_to
  unbroken_text committed end none same known =
      let m = machine rules in
      let w = reopened_world start nothing_saved in
      let executed = end.epoch.executed in
      ap (λ ds. text_of (take end.epoch.acknowledged (replies m w executed) ++ map down_reply ds)) none
      ∙ ap text_of (append-nil (take end.epoch.acknowledged (replies m w executed)))
      ∙ ap text_of (take_all end.epoch.acknowledged (replies m w executed) (omega (arith, known, length_replies m w executed)))
      ∙ ap (λ ls. text_of (replies m w ls)) same
      ∙ ap (λ v. text_of (replies m v actions)) (nothing_opens start)

  by_parts : (closed : List (Stretch PlainAction)) (committed : Bool) (end : Stretch PlainAction)
      → IsHistoryOf rules 1 (begins_at start) (Unit {0}) (map Acts actions) (record { closed = closed; open_end = end; committed = committed })
      → history_text rules (begins_at start) (record { closed = closed; open_end = end; committed = committed }) ≡ transcript rules start actions
  by_parts [] committed end is =
      let none : end.downs ≡ [] = is.quiet tt in
      let lines : map Acts end.epoch.executed ≡ map Acts actions = sym (append-nil _) ∙ ap (λ ds. map Acts end.epoch.executed ++ ds) (sym none) ∙ is.lines in
      unbroken_text committed end none (sym (acted_map end.epoch.executed) ∙ ap acted lines ∙ acted_map actions) (all_known committed end is.admissible.1.2)
  by_parts (s ∷ ss) committed end is =
      let all : AllAct (((stretch_steps s ++ Reopens ∷ []) ++ closed_steps ss) ++ stretch_steps end) = subst AllAct (sym is.lines) (all_act actions) in
      absurd (later_act (stretch_steps s) (Reopens ∷ []) (first_act (stretch_steps s ++ Reopens ∷ []) (closed_steps ss) (first_act ((stretch_steps s ++ Reopens ∷ []) ++ closed_steps ss) (stretch_steps end) all)))

pub one_text : HasOneText
one_text rules start actions history is = by_parts rules start actions history.closed history.committed history.open_end is
