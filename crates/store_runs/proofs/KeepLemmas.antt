-- What each answer of an agent makes of the cuts that came.
use Rattle.std.proofs.Common.{◌≡◌, inl, ⊎_elim, ℕ, ◌+◌, ◌*◌, ◌<◌, ◌≤◌, min, true, false, List, [], length, refl, sym, ap, subst, ◌∙◌, arith}
use Rattle.std.proofs.lemmas.Bool.{cases_Bool, true≢false}
use Rattle.unwinding.specs.Admissible.{Acts, Reopens}
use Rattle.unwinding.specs.Course.{Course, answer_all, down_one, reopen, wait}
use Rattle.unwinding.specs.CourseSteps.{begins, last_opening}
use Rattle.unwinding.specs.Epochs.{all_changes}
use Rattle.unwinding.specs.World.{world_after}
use Rattle.unwinding.proofs.CourseSums.{holding_stands, pending_is}
use Rattle.suffix_list.specs.Suffix.{Rule}
use Rattle.script_actions.specs.Action.{PlainAction}
use Rattle.agent_model.specs.TheMachine.{machine}
use Rattle.durable_model.specs.Histories.{AgentOpening}
use Rattle.durable_model.specs.Keeping.{keeping}
use Rattle.agent_core.specs.Means.{AgentMay, after_line}
use Rattle.agent_core.specs.Seen.{AgentSeen}
use Rattle.store_runs.specs.Calls.{Breaks, BreaksOff, FailsAgain, OpensAgain, Pays}
use Rattle.store_runs.specs.Courses.{On}
use Rattle.store_runs.specs.CutCourses.{Moment, busy_on, restarts_on}
use Rattle.store_runs.proofs.CountLemmas.{closed_met, down_again, down_met, failed_met, still_down_met, up_met}
use Rattle.store_runs.proofs.CutLemmas.{Keeps, Shows, busy_answered, busy_down, busy_down_up, busy_executed, busy_lost, busy_reopen, busy_wait, keeps_cut, keeps_on, places_down, places_reopen, places_still, restarts_down, restarts_down_one, restarts_reopen, restarts_still, was_within, was_within_up, within_down, within_up}

module _ (rules : List Rule) (batch : ℕ) (x : AgentOpening) (r : Course PlainAction) (a : AgentSeen) (may : AgentMay)
    (on : On rules batch x r a may) where
  some_lines : 0 < batch
  unfolding On
  some_lines = omega (arith, on.short)

  no_downs : a.up ≡ true → r.downs ≡ []
  unfolding On
  no_downs up = (on.up up).0

  -- the durable changes that are pending
  pending_now : a.up ≡ true → length a.pending ≡ length (all_changes (machine rules)
      (world_after (machine rules) (begins (machine rules) keeping (last_opening (machine rules) keeping x r)) r.answered) r.waiting)
  unfolding On
  pending_now up = ap (λ s. length s.pending) (on.up up).1
      ∙ ap length (pending_is (machine rules) keeping (last_opening (machine rules) keeping x r) r)

  -- and those with a line more
  pending_ran : (l : PlainAction) → a.up ≡ true → length (after_line rules a l).pending ≡ length (all_changes (machine rules)
      (world_after (machine rules) (begins (machine rules) keeping (last_opening (machine rules) keeping x r)) r.answered) (wait r l).waiting)
  unfolding On
  pending_ran l up =
      let o = last_opening (machine rules) keeping x r in
      ap (λ s. length (after_line rules s l).pending) (on.up up).1
      ∙ ap (λ s. length s.pending) (holding_stands (machine rules) keeping o r l)
      ∙ ap length (pending_is (machine rules) keeping o (wait r l))

  -- a commit takes what is pending
  commit_more : a.up ≡ true
      → busy_on rules batch x true r + min 1 (length a.pending) ≤ busy_on rules batch x true (answer_all r)
  unfolding On
  commit_more up = omega (arith, busy_answered rules batch x r on.batches some_lines on.whole, pending_now up)

  line_more : (l : PlainAction) → a.up ≡ true
      → busy_on rules batch x true r + min 1 (length (after_line rules a l).pending)
      ≤ busy_on rules batch x true (answer_all (wait r l))
  unfolding On
  line_more l up = omega (
    arith,
    busy_answered rules batch x (wait r l) on.batches some_lines on.whole,
    pending_ran l up,
    busy_wait rules batch x r l,
  )

  module _ (b : AgentSeen) (from to : Moment) (before : ℕ) (cuts : List ℕ) (was : Keeps rules batch x before cuts a r from) where
    was_up : a.up ≡ true → from.calls + from.due ≤ before + 11 * busy_on rules batch x true r + 8 * restarts_on r
    was_up up = was_within_up rules batch x before cuts a.up r from.calls from.due up was.within

    was_any : from.calls ≤ before + 11 * busy_on rules batch x false r + 8 * restarts_on r
    was_any = was_within rules batch x before cuts a.up r from.calls from.due was.within

    -- no line of the open epoch was answered `down`, and the course goes on to one that has paid
    still_up : (q : Course PlainAction) (changes : ℕ) → a.up ≡ true → b.up ≡ true → Pays changes from to
        → q.closed ≡ r.closed → q.downs ≡ r.downs
        → busy_on rules batch x true r + min 1 changes ≤ busy_on rules batch x true q → Keeps rules batch x before cuts b q to
    still_up q changes up still pays closed downs more =
        keeps_on rules batch x before cuts a b r q from to was pays.later
        (inl (places_still rules batch x r q (no_downs up) downs closed))
        (within_up rules batch x before cuts b.up q to.calls to.due still
        (omega (arith, was_up up, pays.most, more, restarts_still rules batch r q closed downs)))
        pays.cuts (λ is. pays.off ∙ was.on up) (up_met a b r q still closed downs)

    -- a line waits
    pub keeps_held : (l : PlainAction) → a.up ≡ true → b.up ≡ true → Pays 0 from to
        → Keeps rules batch x before cuts b (wait r l) to
    keeps_held l up still pays =
        still_up (wait r l) 0 up still pays refl refl (omega (arith, busy_wait rules batch x r l))

    -- a line and all that waited are answered
    pub keeps_replied : (l : PlainAction) → a.up ≡ true → b.up ≡ true
        → Pays (length (after_line rules a l).pending) from to
        → Keeps rules batch x before cuts b (answer_all (wait r l)) to
    keeps_replied l up still pays =
        still_up (answer_all (wait r l)) (length (after_line rules a l).pending) up still pays refl refl (line_more l up)

    -- all that waited is answered
    pub keeps_answered : a.up ≡ true → b.up ≡ true → Pays (length a.pending) from to
        → Keeps rules batch x before cuts b (answer_all r) to
    keeps_answered up still pays =
        still_up (answer_all r) (length a.pending) up still pays refl refl (commit_more up)

    -- nothing waits, and the course stays
    pub keeps_tidied : r.waiting ≡ [] → a.up ≡ true → b.up ≡ true → Pays (length a.pending) from to
        → Keeps rules batch x before cuts b r to
    keeps_tidied none up still pays =
        let nothing : length a.pending ≡ 0 = pending_now up ∙ ap (λ ls. length (all_changes (machine rules)
        (world_after (machine rules) (begins (machine rules) keeping (last_opening (machine rules) keeping x r)) r.answered) ls)) none in
        still_up r (length a.pending) up still pays refl refl (omega (arith, nothing))

    -- nothing was called of an agent that is down
    module _ (same : to ≡ from) where
      same_calls : to.calls ≡ from.calls
      same_calls = ap (λ at. at.calls) same

      same_cuts : to.cuts ≡ from.cuts
      same_cuts = ap (λ at. at.cuts) same

    down_off : b.up ≡ false → b.up ≡ true → to.off ≡ false
    down_off down up = absurd (true≢false (sym up ∙ down))

    -- a line is answered `down`
    pub keeps_down_line : (l : PlainAction) → b.up ≡ false → Breaks a.up (length (after_line rules a l).pending) from to
        → Keeps rules batch x before cuts b (down_one r (Acts l)) to
    keeps_down_line l down breaks =
        let q = down_one r (Acts l) in
        let shows : Shows rules batch x before cuts b.up r q =
        subst (λ up. Shows rules batch x before cuts up r q) (sym down) (places_down rules batch x r (Acts l)) in
        ⊎_elim
        (λ up.
        let off = breaks.0 up in
        keeps_cut rules batch x before cuts a b r q from to was off.later shows
        (within_down rules batch x before cuts b.up q to.calls to.due down
        (omega (arith, was_up up, off.most, line_more l up, busy_lost rules batch x r l (no_downs up), restarts_down rules batch r (Acts l))))
        down (off.cut (was.on up)) (down_met a b r (Acts l)))
        (λ off.
        let same = breaks.1 off in
        keeps_on rules batch x before cuts a b r q from to was (omega (arith, same_calls same)) shows
        (within_down rules batch x before cuts b.up q to.calls to.due down
        (omega (arith, was_any, same_calls same, busy_down rules batch x r (Acts l), restarts_down rules batch r (Acts l))))
        (same_cuts same) (down_off down) (down_again a b r l off))
        (cases_Bool a.up)

    -- a commit or a checkpoint fails behind the lines
    pub keeps_failed : b.up ≡ false → Breaks a.up (length a.pending) from to → Keeps rules batch x before cuts b r to
    keeps_failed down breaks = ⊎_elim
        (λ up.
        let off = breaks.0 up in
        keeps_cut rules batch x before cuts a b r r from to was off.later (inl refl)
        (within_down rules batch x before cuts b.up r to.calls to.due down
        (omega (arith, was_up up, off.most, commit_more up, busy_executed rules batch x r)))
        down (off.cut (was.on up)) (failed_met a b r))
        (λ off.
        let same = breaks.1 off in
        keeps_on rules batch x before cuts a b r r from to was (omega (arith, same_calls same)) (inl refl)
        (within_down rules batch x before cuts b.up r to.calls to.due down (omega (arith, was_any, same_calls same)))
        (same_cuts same) (down_off down) (still_down_met a b r off down))
        (cases_Bool a.up)

    -- a restart is answered `down`
    pub keeps_down_restart : b.up ≡ false → FailsAgain from to → Keeps rules batch x before cuts b (down_one r Reopens) to
    keeps_down_restart down fails =
        let q = down_one r Reopens in
        keeps_cut rules batch x before cuts a b r q from to was fails.later
        (subst (λ up. Shows rules batch x before cuts up r q) (sym down) (places_down rules batch x r Reopens))
        (within_down rules batch x before cuts b.up q to.calls to.due down
        (omega (arith, was_any, fails.most, busy_down rules batch x r Reopens, restarts_down_one rules batch r)))
        down (fails.cut was.rest was.told) (down_met a b r Reopens)

    -- the store is opened again
    pub keeps_reopened : (kept : ℕ) → b.up ≡ true → OpensAgain from to → Keeps rules batch x before cuts b (reopen r kept) to
    keeps_reopened kept up opens =
        let q = reopen r kept in
        keeps_on rules batch x before cuts a b r q from to was opens.later (inl (places_reopen rules batch x r kept))
        (within_up rules batch x before cuts b.up q to.calls to.due up
        (omega (arith, was_any, opens.most, busy_reopen rules batch x r kept, restarts_reopen rules batch r kept)))
        opens.cuts (λ is. opens.off) (closed_met a b r kept up)

-- a checkpoint fails of an agent that is up, and nothing was pending
pub keeps_broken : (rules : List Rule) (batch : ℕ) (x : AgentOpening) (r : Course PlainAction) (a b : AgentSeen) (from to : Moment)
    (before : ℕ) (cuts : List ℕ) → Keeps rules batch x before cuts a r from → a.up ≡ true → b.up ≡ false
    → BreaksOff 0 from to → Keeps rules batch x before cuts b r to
keeps_broken rules batch x r a b from to before cuts was up down off =
    keeps_cut rules batch x before cuts a b r r from to was off.later (inl refl)
    (within_down rules batch x before cuts b.up r to.calls to.due down
    (omega (
      arith,
      was_within_up rules batch x before cuts a.up r from.calls from.due up was.within,
      off.most,
      busy_down_up rules batch x r true,
    )))
    down (off.cut (was.on up)) (failed_met a b r)
