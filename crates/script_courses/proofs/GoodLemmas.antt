-- The history of given lines over a new store on a disk without cuts: there is one, and no other.
use Rattle.std.proofs.Common.{◌≡◌, ◌⊎◌, inl, inr, ℕ, ◌*◌, ◌/◌, true, List, [], ◌∷◌, ◌++◌, Option, Some, None, length, take, map, refl, sym, ap, subst, ◌∙◌, append_assoc, append-nil}
use Rattle.std.proofs.lemmas.List.{map-append}
use Rattle.unwinding.specs.Admissible.{Acts, AreAdmissible, EndsBatch, History, IsAdmissible, IsAdmissibleEnd, IsAdmissibleStretch, KeepsAcknowledged, KeepsTried, Reopens, Stretch}
use Rattle.unwinding.specs.Admissible.{closed_steps, history_steps, interrupted_line, next_opening, opening_after, stretch_steps}
use Rattle.unwinding.specs.Durable.{restarted}
use Rattle.unwinding.specs.Epochs.{all_changes}
use Rattle.suffix_list.specs.Suffix.{Rule}
use Rattle.script_actions.specs.Action.{PlainAction, PlainStep}
use Rattle.agent_model.specs.Lines.{AgentWorld}
use Rattle.agent_model.specs.TheMachine.{machine}
use Rattle.durable_model.specs.Histories.{AgentOpening}
use Rattle.durable_model.specs.Keeping.{keeping}
use Rattle.printed_model.specs.Histories.{EndsUp, begins_at, closed_downs, history_downs}
use Rattle.script_courses.specs.GoodHistories.{GivesGood, GivesTheOnly, good_history, history_from, quiet_stretch, reopened_stretch}

no_front : {A : Type 0} (xs ys : List A) → xs ++ ys ≡ [] → xs ≡ []
no_front [] ys none = refl
no_front (x ∷ xs) ys none = cc

pub no_rest : {A : Type 0} (xs ys : List A) → xs ++ ys ≡ [] → ys ≡ []
no_rest [] ys none = none
no_rest (x ∷ xs) ys none = cc

module _ (rules : List Rule) (batch : ℕ) where
  abbrev from : AgentOpening → List PlainAction → List PlainStep → History PlainAction
  from o ran steps = history_from rules batch o ran steps

  abbrev after : AgentOpening → Stretch PlainAction → AgentOpening
  after o s = next_opening (machine rules) keeping o s

  -- lines that run
  ran_on : (o : AgentOpening) (ran more : List PlainAction) (steps : List PlainStep)
      → from o ran (map Acts more ++ steps) ≡ from o (ran ++ more) steps
  ran_on o ran [] steps = ap (λ ls. from o ls steps) (sym (append-nil ran))
  ran_on o ran (l ∷ more) steps = ran_on o (ran ++ l ∷ []) more steps
      ∙ ap (λ ls. from o ls steps) (append_assoc ran (l ∷ []) more)

  -- ---- it is one

  from_steps : (o : AgentOpening) (ran : List PlainAction) (steps : List PlainStep)
      → history_steps (from o ran steps) ≡ map Acts ran ++ steps
  from_steps o ran [] = refl
  from_steps o ran (Acts l ∷ steps) = from_steps o (ran ++ l ∷ []) steps
      ∙ ap (λ ts. ts ++ steps) (map-append Acts ran (l ∷ [])) ∙ append_assoc (map Acts ran) (Acts l ∷ []) steps
  from_steps o ran (Reopens ∷ steps) =
      let here = reopened_stretch rules batch o ran in
      let more = from (after o here) [] steps in
      append_assoc (stretch_steps here ++ Reopens ∷ []) (closed_steps more.closed) (stretch_steps more.open_end)
      ∙ ap (λ ts. (stretch_steps here ++ Reopens ∷ []) ++ ts) (from_steps (after o here) [] steps)
      ∙ append_assoc (stretch_steps here) (Reopens ∷ []) steps
      ∙ ap (λ ts. ts ++ Reopens ∷ steps) (append-nil (map Acts ran))

  from_quiet : (o : AgentOpening) (ran : List PlainAction) (steps : List PlainStep) → history_downs (from o ran steps) ≡ []
  from_quiet o ran [] = refl
  from_quiet o ran (Acts l ∷ steps) = from_quiet o (ran ++ l ∷ []) steps
  from_quiet o ran (Reopens ∷ steps) = from_quiet (after o (reopened_stretch rules batch o ran)) [] steps

  from_ends : (o : AgentOpening) (ran : List PlainAction) (steps : List PlainStep) → EndsUp (from o ran steps)
  from_ends o ran [] = (refl, refl)
  from_ends o ran (Acts l ∷ steps) = from_ends o (ran ++ l ∷ []) steps
  from_ends o ran (Reopens ∷ steps) = from_ends (after o (reopened_stretch rules batch o ran)) [] steps

  from_admissible : (o : AgentOpening) (ran : List PlainAction) (steps : List PlainStep)
      → IsAdmissible (machine rules) keeping batch o (from o ran steps)
  from_admissible o ran [] = (tt, (refl, (λ e. refl), refl, refl))
  from_admissible o ran (Acts l ∷ steps) = from_admissible o (ran ++ l ∷ []) steps
  from_admissible o ran (Reopens ∷ steps) =
      let more = from_admissible (after o (reopened_stretch rules batch o ran)) [] steps in
      (((refl, refl, inl refl), more.0), more.1)

  -- ---- there is no other

  -- a history whose end was committed
  abbrev ended : List (Stretch PlainAction) → Stretch PlainAction → History PlainAction
  ended closed end = record { closed = closed; open_end = end; committed = true }

  none_ends : (s : Stretch PlainAction) (o : Option PlainAction) → o ≡ None → EndsBatch batch s.epoch o → ⊥
  none_ends s None none ends = ends
  none_ends s (Some l) none ends = cc

  -- a stretch without device faults is what its lines and the number of acknowledged ones say
  quiet_is : (o : AgentOpening) (s : Stretch PlainAction) (acknowledged : ℕ) → s.downs ≡ []
      → s.epoch.interrupted ≡ interrupted_line s.downs → s.epoch.acknowledged ≡ acknowledged
      → KeepsAcknowledged (machine rules) (restarted keeping o.rest o.state) s.epoch
      → s ≡ quiet_stretch rules o s.epoch.executed acknowledged
  quiet_is o s acknowledged none interrupted told keeps =
      let lines = s.epoch.executed in
      let world : AgentWorld = restarted keeping o.rest o.state in
      let no_line : s.epoch.interrupted ≡ None = interrupted ∙ ap interrupted_line none in
      let kept = keeps ∙ ap (λ n. length (all_changes (machine rules) world (take n lines))) told in
      λ i. record {
        epoch = record {
          executed = lines;
          interrupted = no_line i;
          acknowledged = told i;
          kept =
              kept i;
        };
        downs = none i;
      }

  reopened_is : (o : AgentOpening) (s : Stretch PlainAction) → s.downs ≡ []
      → IsAdmissibleStretch (machine rules) keeping batch o s → s ≡ reopened_stretch rules batch o s.epoch.executed
  reopened_is o s none good = quiet_is o s (batch * (length s.epoch.executed / batch)) none good.0 good.1 (acknowledged good.2)
    where
      acknowledged : KeepsAcknowledged (machine rules) (restarted keeping o.rest o.state) s.epoch
          ⊎ KeepsTried (machine rules) batch (restarted keeping o.rest o.state) s.epoch
          → KeepsAcknowledged (machine rules) (restarted keeping o.rest o.state) s.epoch
      acknowledged (inl keeps) = keeps
      acknowledged (inr tried) = absurd (none_ends s s.epoch.interrupted (good.0 ∙ ap interrupted_line none) tried.0)

  only_from : (closed : List (Stretch PlainAction)) (end : Stretch PlainAction) (o : AgentOpening)
      → AreAdmissible (machine rules) keeping batch o closed
      → IsAdmissibleEnd (machine rules) keeping batch (opening_after (machine rules) keeping o closed) true end
      → closed_downs closed ++ end.downs ≡ [] → ended closed end ≡ from o [] (closed_steps closed ++ stretch_steps end)
  only_from [] end o good ends quiet =
      let lines = end.epoch.executed in
      let same = quiet_is o end (length lines) quiet ends.0 ends.2 ends.3 in
      let run : from o [] (map Acts lines ++ end.downs) ≡ from o lines [] =
      ap (λ ds. from o [] (map Acts lines ++ ds)) quiet ∙ ran_on o [] lines [] in
      (λ i. record { closed = []; open_end = same i; committed = true }) ∙ sym run
  only_from (s ∷ ss) end o good ends quiet =
      let lines = s.epoch.executed in
      let rest = closed_steps ss ++ stretch_steps end in
      let all : s.downs ++ (closed_downs ss ++ end.downs) ≡ [] = sym (append_assoc s.downs (closed_downs ss) end.downs) ∙ quiet in
      let downs : s.downs ≡ [] = no_front s.downs _ all in
      let same = reopened_is o s downs good.0 in
      let steps : closed_steps (s ∷ ss) ++ stretch_steps end ≡ map Acts lines ++ Reopens ∷ rest =
      append_assoc (stretch_steps s ++ Reopens ∷ []) (closed_steps ss) (stretch_steps end)
      ∙ append_assoc (stretch_steps s) (Reopens ∷ []) rest
      ∙ ap (λ ds. (map Acts lines ++ ds) ++ Reopens ∷ rest) downs
      ∙ ap (λ ts. ts ++ Reopens ∷ rest) (append-nil (map Acts lines)) in
      let run : from o [] (closed_steps (s ∷ ss) ++ stretch_steps end) ≡ from o lines (Reopens ∷ rest) =
      ap (from o []) steps ∙ ran_on o [] lines (Reopens ∷ rest) in
      let next = only_from ss end (after o s) good.1 ends (no_rest s.downs _ all) ∙ ap (λ q. from (after o q) [] rest) same in
      (λ i. record { closed = same i ∷ (next i).closed; open_end = (next i).open_end; committed = (next i).committed }) ∙ sym run

pub gives_good : GivesGood
unfolding good_history
gives_good rules batch start steps =
    let o = begins_at start in
    record {
      runs = record {
        admissible = from_admissible rules batch o [] steps;
        lines =
            from_steps rules batch o [] steps;
        quiet = λ none. from_quiet rules batch o [] steps;
      };
      ends = from_ends rules batch o [] steps;
    }

pub gives_the_only : GivesTheOnly
unfolding good_history
gives_the_only rules batch start steps history good =
    let o = begins_at start in
    let committed = good.ends.1 in
    let admissible = good.runs.admissible in
    let ends = subst (λ b. IsAdmissibleEnd (machine rules) keeping batch
    (opening_after (machine rules) keeping o history.closed) b history.open_end) committed admissible.1 in
    (λ i. record { closed = history.closed; open_end = history.open_end; committed = committed i })
    ∙ only_from rules batch history.closed history.open_end o admissible.0 ends (good.runs.quiet tt)
    ∙ ap (history_from rules batch o []) good.runs.lines
