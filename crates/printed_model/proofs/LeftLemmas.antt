-- What a restart may find of a course, its history leaves.
use Rattle.std.proofs.Common.{◌≡◌, inl, inr, ⊎_elim, ℕ, ◌*◌, ◌<◌, true, false, List, [], ◌++◌, take, length, sym, ap, subst, ◌∙◌, append-nil, arith}
use Rattle.std.proofs.Math.Seq.{take-append_seam, take-length}
use Rattle.unwinding.specs.Admissible.{interrupted_line}
use Rattle.unwinding.specs.Course.{Course, IsAt, answer_all, executed_lines}
use Rattle.unwinding.specs.CourseSteps.{MayKeep, base_of, begins, history_of, last_opening}
use Rattle.unwinding.specs.Durable.{apply_all}
use Rattle.unwinding.specs.Epochs.{all_changes, next_durable, with_interrupted}
use Rattle.unwinding.proofs.CourseRestarts.{admissible_stretch}
use Rattle.suffix_list.specs.Suffix.{Rule}
use Rattle.script_actions.specs.Action.{PlainAction, PlainStep}
use Rattle.agent_model.specs.TheMachine.{machine}
use Rattle.durable_model.specs.Histories.{AgentOpening}
use Rattle.durable_model.specs.Keeping.{AgentDurable, keeping}
use Rattle.printed_model.specs.Left.{IsLeft}

-- the state after the durable changes of all executed lines, where none was answered `down`
executed_state : (rules : List Rule) (o : AgentOpening) (ls : List PlainAction) (downs : List PlainStep) (acknowledged : ℕ) (d : AgentDurable) (n : ℕ) → downs ≡ [] → IsAt (base_of (machine rules) keeping o ls) d n
    → d ≡ next_durable (machine rules) keeping (begins (machine rules) keeping o) o.state (record { executed = ls; interrupted = interrupted_line downs; acknowledged = acknowledged; kept = n })
unfolding next_durable
executed_state rules o ls downs acknowledged d n none at =
    let w = begins (machine rules) keeping o in
    let made = all_changes (machine rules) w ls in
    let number : n ≡ length made = omega (arith, at.1) in
    let front : take n (all_changes (machine rules) w (with_interrupted ls (interrupted_line downs))) ≡ made =
    ap (λ i. take i (all_changes (machine rules) w (with_interrupted ls (interrupted_line downs)))) number
    ∙ ap (λ (ds : List PlainStep). take (length made) (all_changes (machine rules) w (with_interrupted ls (interrupted_line ds)))) none ∙ take-length made in
    at.0 ∙ ap (λ ms. apply_all keeping ms o.state) (sym front)

module _ (rules : List Rule) (batch : ℕ) (x : AgentOpening) (r : Course PlainAction) where
  abbrev o : AgentOpening
  o = last_opening (machine rules) keeping x r

  -- what a restart may find is left where the run ends and what waits is lost
  pub left_of_kept : (batches : ℕ) → length r.answered ≡ batch * batches → length r.waiting < batch → (d : AgentDurable) (n : ℕ) → MayKeep (machine rules) keeping batch o r d n
      → IsLeft rules batch x (history_of (machine rules) keeping x false r) d
  left_of_kept batches whole short d n keep =
      let g = admissible_stretch (machine rules) keeping batch x o r batches whole short d n keep in
      record { kept = n; may = ⊎_elim (λ k. inl k) (λ t. inr (inl t)) g.0.2; state = g.1 }

  -- so is what a commit at the end may have reached, where no line was answered `down`
  pub left_of_executed : (d : AgentDurable) (n : ℕ) → r.downs ≡ [] → IsAt (base_of (machine rules) keeping o (executed_lines r)) d n → IsLeft rules batch x (history_of (machine rules) keeping x false r) d
  left_of_executed d n none at = record {
    kept = n;
    may = inr (inr (none, omega (arith, at.1)));
    state = executed_state rules o (executed_lines r) r.downs (length r.answered) d n none at;
  }

  -- and that is left where it was committed
  pub left_of_answered : (d : AgentDurable) (n : ℕ) → r.downs ≡ [] → IsAt (base_of (machine rules) keeping o (executed_lines r)) d n → IsLeft rules batch x (history_of (machine rules) keeping x true (answer_all r)) d
  left_of_answered d n none at =
      let lines : executed_lines r ++ [] ≡ executed_lines r = append-nil (executed_lines r) in
      let same : IsAt (base_of (machine rules) keeping o (executed_lines r ++ [])) d n = subst (λ ls. IsAt (base_of (machine rules) keeping o ls) d n) (sym lines) at in
      record {
        kept = n;
        may = inl (omega (arith, at.1, ap (λ ls. length (all_changes (machine rules) (begins (machine rules) keeping o) ls)) (take-append_seam (executed_lines r) [])));
        state = executed_state rules o (executed_lines r ++ []) r.downs (length (executed_lines r)) d n none same;
      }
