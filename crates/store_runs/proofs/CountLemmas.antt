-- Counts of faults over the calls of a run, and the faults that a course shows.
use Rattle.std.proofs.Common.{◌≡◌, inl, inr, ℕ, ◌+◌, ◌≤◌, Bool, true, false, List, [], ◌∷◌, ◌++◌, refl, sym, ap, subst, arith}
use Rattle.std.proofs.lemmas.Bool.{false≢true}
use Rattle.agent_base.specs.Counts.{Rose}
use Rattle.unwinding.specs.Admissible.{Acts, Reopens, Stretch}
use Rattle.script_actions.specs.Action.{PlainAction, PlainStep}
use Rattle.store_runs.specs.Calls.{StaysOrRose}
use Rattle.unwinding.specs.Course.{Course, down_one, reopen, stretch_of}
use Rattle.agent_core.specs.Seen.{AgentSeen}
use Rattle.store_runs.specs.CutCourses.{faults_on, met_on, unshown}
use Rattle.store_runs.specs.Faults.{RoseBy, closed_faults, epoch_faults, last_faults, restart_faults}
use Rattle.store_runs.specs.declared.ending.Ending.TheVariants.{Device}

-- ---- counts

-- a count rose by no faults yet
pub rose_by_none : (first now : ℕ) → first ≤ now → RoseBy 0 first now
rose_by_none first now later = omega (arith, later)

-- it stayed or rose, and shows no fault more
pub rose_by_stays : (n m first before now : ℕ) → m ≤ n → StaysOrRose before now → RoseBy n first before → RoseBy m first now
rose_by_stays n m first before now few (inl stays) was = omega (arith, few, stays, was)
rose_by_stays n m first before now few (inr rose) was = omega (arith, few, rose, was)

-- the same count shows fewer faults
pub rose_by_fewer : (n m first now : ℕ) → m ≤ n → RoseBy n first now → RoseBy m first now
rose_by_fewer n m first now few was = omega (arith, few, was)

-- it rose, and shows one fault more at most
pub rose_by_rose : (n m first before now : ℕ) → m ≤ n + 1 → Rose before now → RoseBy n first before → RoseBy m first now
rose_by_rose n m first before now few rose was = omega (arith, few, rose, was)

-- it rose, once it had stayed or risen
pub rose_later : (first before now : ℕ) → StaysOrRose first before → Rose before now → Rose first now
rose_later first before now (inl stays) rose = omega (arith, stays, rose)
rose_later first before now (inr was) rose = omega (arith, was, rose)

-- it stayed or rose twice
pub stays_more : (first before now : ℕ) → StaysOrRose first before → StaysOrRose before now → StaysOrRose first now
stays_more first before now was (inl stays) = subst (StaysOrRose first) (sym stays) was
stays_more first before now was (inr rose) = inr (rose_later first before now was rose)

-- ---- the faults of an epoch

pub restarts_acts : (ds : List PlainStep) (l : PlainAction) → restart_faults (ds ++ Acts l ∷ []) ≡ restart_faults ds
restarts_acts [] l = refl
restarts_acts (Acts j ∷ ds) l = restarts_acts ds l
restarts_acts (Reopens ∷ ds) l = omega (arith, restarts_acts ds l)

pub restarts_reopens : (ds : List PlainStep) → restart_faults (ds ++ Reopens ∷ []) ≡ restart_faults ds + 1
restarts_reopens [] = refl
restarts_reopens (Acts j ∷ ds) = restarts_reopens ds
restarts_reopens (Reopens ∷ ds) = omega (arith, restarts_reopens ds)

-- a line more that is answered `down` is one fault at most
pub one_fault_more : (ds : List PlainStep) (step : PlainStep) → epoch_faults (ds ++ step ∷ []) ≤ epoch_faults ds + 1
one_fault_more [] (Acts l) = omega arith
one_fault_more [] Reopens = omega arith
one_fault_more (Acts j ∷ ds) (Acts l) = omega (arith, restarts_acts ds l)
one_fault_more (Acts j ∷ ds) Reopens = omega (arith, restarts_reopens ds)
one_fault_more (Reopens ∷ ds) (Acts l) = omega (arith, restarts_acts ds l)
one_fault_more (Reopens ∷ ds) Reopens = omega (arith, restarts_reopens ds)

-- ---- the fault that no line shows yet

-- there is none where the agent is up
pub unshown_up : (up : Bool) (ds : List PlainStep) → up ≡ true → unshown up ds ≡ 0
unshown_up true ds is = refl
unshown_up false ds is = absurd (false≢true is)

-- nor behind a line that was answered `down`
pub unshown_behind : (up : Bool) (ds : List PlainStep) (step : PlainStep) → unshown up (ds ++ step ∷ []) ≡ 0
unshown_behind true ds step = refl
unshown_behind false [] step = refl
unshown_behind false (d ∷ ds) step = refl

pub unshown_few : (up : Bool) (ds : List PlainStep) → unshown up ds ≤ 1
unshown_few true ds = omega arith
unshown_few false [] = omega arith
unshown_few false (d ∷ ds) = omega arith

-- a line more of an agent that is down shows no fault but that one
pub no_fault_more : (ds : List PlainStep) (l : PlainAction)
    → epoch_faults (ds ++ Acts l ∷ []) ≤ epoch_faults ds + unshown false ds
no_fault_more [] l = omega arith
no_fault_more (Acts j ∷ ds) l = omega (arith, restarts_acts ds l)
no_fault_more (Reopens ∷ ds) l = omega (arith, restarts_acts ds l)

-- ---- the faults of closed epochs, and of the last one

-- a closed epoch more
pub closed_faults_more : (ss : List (Stretch PlainAction)) (s : Stretch PlainAction)
    → closed_faults (ss ++ s ∷ []) ≡ closed_faults ss + epoch_faults s.downs
closed_faults_more [] s = omega arith
closed_faults_more (t ∷ ss) s = omega (arith, closed_faults_more ss s)

-- the end of a run whose agent is down is one fault at most, and none where that was met before
pub last_fault_more : (ds : List PlainStep) → last_faults Device ds ≤ epoch_faults ds + 1
last_fault_more [] = omega arith
last_fault_more (Acts j ∷ ds) = omega arith
last_fault_more (Reopens ∷ ds) = omega arith

pub last_fault_met : (ds : List PlainStep) → last_faults Device ds ≤ epoch_faults ds + unshown false ds
last_fault_met [] = omega arith
last_fault_met (d ∷ ds) = omega arith

-- ---- faults that were met, by what some lines do to an agent and to the lines answered `down`

-- those that are shown
pub shown_met : (a : AgentSeen) (r : Course PlainAction) → faults_on r ≤ met_on a r
unfolding met_on
shown_met a r = omega arith

module _ (a b : AgentSeen) (r : Course PlainAction) where
  -- an agent that is up met none but these
  pub up_met : (q : Course PlainAction) → b.up ≡ true → q.closed ≡ r.closed → q.downs ≡ r.downs → met_on b q ≤ met_on a r
  unfolding met_on faults_on
  up_met q up closed downs = omega (arith, unshown_up b.up q.downs up, ap closed_faults closed, ap epoch_faults downs)

  -- a restart closes the open epoch, with its faults
  pub closed_met : (kept : ℕ) → b.up ≡ true → met_on b (reopen r kept) ≤ met_on a r
  unfolding met_on faults_on
  closed_met kept up = omega (arith, unshown_up b.up [] up, closed_faults_more r.closed (stretch_of r kept))

  -- a line that is answered `down` is one more at most
  pub down_met : (step : PlainStep) → met_on b (down_one r step) ≤ met_on a r + 1
  unfolding met_on faults_on
  down_met step = omega (arith, unshown_behind b.up r.downs step, one_fault_more r.downs step)

  -- and none where it acts, and the agent was down
  pub down_again : (l : PlainAction) → a.up ≡ false → met_on b (down_one r (Acts l)) ≤ met_on a r
  unfolding met_on faults_on
  down_again l down = omega (
    arith,
    unshown_behind b.up r.downs (Acts l),
    no_fault_more r.downs l,
    ap (λ up. unshown up r.downs) down,
  )

  -- an agent that is down, and stays so, met none more
  pub still_down_met : a.up ≡ false → b.up ≡ false → met_on b r ≤ met_on a r
  unfolding met_on
  still_down_met was down = omega (arith, ap (λ up. unshown up r.downs) was, ap (λ up. unshown up r.downs) down)

  -- a checkpoint that failed is one more at most
  pub failed_met : met_on b r ≤ met_on a r + 1
  unfolding met_on
  failed_met = omega (arith, unshown_few b.up r.downs)
