-- How many batches have a durable change, where faults show, and the cuts that came until then.
use Rattle.std.proofs.Common.{◌≡◌, ◌⊎◌, inl, inr, ⊎_elim, ℕ, zero, suc, ◌+◌, ◌-◌, ◌*◌, ◌<◌, ◌≤◌, min, Bool, true, false, List, [], ◌∷◌, ◌++◌, Option, Some, None, length, refl, sym, ap, subst, ◌∙◌, append-nil, append_assoc, arith}
use Rattle.std.proofs.lemmas.Bool.{true≢false}
use Rattle.std.proofs.lemmas.List.{length-append}
use Rattle.unwinding.specs.Admissible.{Acts, Reopens, Stretch, interrupted_line, next_opening, opening_after}
use Rattle.unwinding.specs.Course.{Course, answer_all, down_one, empty_course, executed_lines, reopen, stretch_of, wait}
use Rattle.unwinding.specs.CourseSteps.{begins, history_of, last_opening}
use Rattle.unwinding.specs.Durable.{line_changes}
use Rattle.unwinding.specs.Epochs.{all_changes, with_interrupted}
use Rattle.unwinding.specs.World.{world_after, world_step}
use Rattle.disk_model.specs.Disk.{IsNextCut}
use Rattle.suffix_list.specs.Suffix.{Rule}
use Rattle.script_actions.specs.Action.{PlainAction, PlainStep}
use Rattle.agent_model.specs.Lines.{AgentWorld}
use Rattle.agent_model.specs.TheMachine.{machine}
use Rattle.durable_model.specs.Histories.{AgentOpening}
use Rattle.durable_model.specs.Keeping.{keeping}
use Rattle.agent_core.specs.Seen.{AgentSeen}
use Rattle.store_runs.specs.CutCourses.{AreUpTo, KeepsCuts, Moment, busy_on, calls_due, faults_on, met_on, places_on, restarts_on, unshown}
use Rattle.store_runs.specs.CutBounds.{MeetsCuts, Place, busy_closed, busy_epoch, busy_from, busy_lines, calls_until, closed_places, epoch_places, fault_places, last_places, place, restart_places, restarts_closed}
use Rattle.store_runs.specs.Faults.{closed_faults, epoch_faults, restart_faults}
use Rattle.store_runs.specs.declared.ending.Ending.TheVariants.{Device}
use Rattle.store_runs.proofs.CountLemmas.{restarts_acts, restarts_reopens}

-- ---- batches with a durable change

none_or_some : (n : ℕ) → (n ≡ 0) ⊎ (0 < n)
none_or_some zero = inl refl
none_or_some (suc n) = inr (omega arith)

none_more : (made b : ℕ) → made ≡ 0 → b ≡ min 1 made + b
none_more made b none = omega (arith, none)

module _ (rules : List Rule) (batch : ℕ) where
  -- how many changes a line makes, and all of some lines
  abbrev by_line : AgentWorld → PlainAction → ℕ
  by_line w l = length (line_changes (machine rules) w l)

  abbrev by_all : AgentWorld → List PlainAction → ℕ
  by_all w ls = length (all_changes (machine rules) w ls)

  by_first : (w : AgentWorld) (l : PlainAction) (ls : List PlainAction)
      → by_all w (l ∷ ls) ≡ by_line w l + by_all (world_step (machine rules) w l) ls
  by_first w l ls = length-append (line_changes (machine rules) w l) (all_changes (machine rules) (world_step (machine rules) w l) ls)

  -- a batch that has a change already is one
  busy_made : (more made : ℕ) (w : AgentWorld) (ls : List PlainAction) → min 1 made ≤ busy_from rules batch more made w ls
  busy_made more made w [] = omega arith
  busy_made zero made w (l ∷ ls) = omega arith
  busy_made (suc more) made w (l ∷ ls) =
      omega (arith, busy_made more (made + by_line w l) (world_step (machine rules) w l) ls)

  -- more lines have no fewer
  busy_front : (more made : ℕ) (w : AgentWorld) (ls ks : List PlainAction)
      → busy_from rules batch more made w ls ≤ busy_from rules batch more made w (ls ++ ks)
  busy_front more made w [] ks = busy_made more made w ks
  busy_front zero made w (l ∷ ls) ks = omega (arith, busy_front (batch - 1) 0 (world_step (machine rules) w l) ls ks)
  busy_front (suc more) made w (l ∷ ls) ks = busy_front more (made + by_line w l) (world_step (machine rules) w l) ls ks

  -- lines with a change have one
  busy_some : (more made : ℕ) (w : AgentWorld) (ls : List PlainAction) → 0 < made + by_all w ls
      → 1 ≤ busy_from rules batch more made w ls
  busy_some more made w [] some = omega (arith, some)
  busy_some zero made w (l ∷ ls) some =
      let next = world_step (machine rules) w l in
      ⊎_elim (λ none. omega (arith, some, by_first w l ls, none))
      (λ later. omega (arith, busy_some (batch - 1) 0 next ls (omega (arith, later))))
      (none_or_some (by_all next ls))
  busy_some (suc more) made w (l ∷ ls) some =
      busy_some more (made + by_line w l) (world_step (machine rules) w l) ls (omega (arith, some, by_first w l ls))

  -- behind whole batches a new one begins
  busy_split : (more made n : ℕ) (w : AgentWorld) (ls ks : List PlainAction) → more < batch
      → (more + 1 ≡ batch → made ≡ 0) → length ls + (batch - 1 - more) ≡ batch * n
      → busy_from rules batch more made w (ls ++ ks)
      ≡ busy_from rules batch more made w ls + busy_from rules batch (batch - 1) 0 (world_after (machine rules) w ls) ks
  busy_split more made n w [] ks less fresh whole = new n whole
    where
      new : (n : ℕ) → length {A = PlainAction} [] + (batch - 1 - more) ≡ batch * n
          → busy_from rules batch more made w ks ≡ min 1 made + busy_from rules batch (batch - 1) 0 w ks
      new zero is =
          let last : more + 1 ≡ batch = omega (arith, is, less) in
          let all : more ≡ batch - 1 = omega (arith, last) in
          let none = fresh last in
          ap (λ k. busy_from rules batch k made w ks) all
          ∙ ap (λ k. busy_from rules batch (batch - 1) k w ks) none
          ∙ none_more made (busy_from rules batch (batch - 1) 0 w ks) none
      new (suc n) is =
          let times : batch * (n + 1) ≡ batch * n + batch = omega arith in
          absurd (omega (arith, is, less, times))
  busy_split zero made zero w (l ∷ ls) ks less fresh whole = absurd (omega (arith, whole, less))
  busy_split zero made (suc n) w (l ∷ ls) ks less fresh whole =
      let times : batch * (n + 1) ≡ batch * n + batch = omega arith in
      omega (
        arith,
        busy_split (batch - 1) 0 n (world_step (machine rules) w l) ls ks
            (omega (arith, less)) (λ last. refl) (omega (arith, whole, less, times)),
      )
  busy_split (suc more) made n w (l ∷ ls) ks less fresh whole =
      busy_split more (made + by_line w l) n (world_step (machine rules) w l) ls ks
      (omega (arith, less)) (λ last. absurd (omega (arith, last, less))) (omega (arith, whole, less))

  -- a commit of lines behind whole batches
  pub busy_commit : (x : AgentOpening) (ls ks : List PlainAction) (n : ℕ) → 0 < batch
      → length ls ≡ batch * n
      → busy_lines rules batch x ls + min 1 (by_all (world_after (machine rules) (begins (machine rules) keeping x) ls) ks)
      ≤ busy_lines rules batch x (ls ++ ks)
  busy_commit x ls ks n some whole =
      let w = begins (machine rules) keeping x in
      let v = world_after (machine rules) w ls in
      ⊎_elim
      (λ none. omega (arith, none, busy_front (batch - 1) 0 w ls ks))
      (λ any. omega (
        arith,
        busy_split (batch - 1) 0 n w ls ks (omega (arith, some)) (λ last. refl) (omega (arith, whole, some)),
        busy_some (batch - 1) 0 v ks (omega (arith, any)),
      ))
      (none_or_some (by_all v ks))

  pub busy_more : (x : AgentOpening) (ls ks : List PlainAction) → busy_lines rules batch x ls ≤ busy_lines rules batch x (ls ++ ks)
  busy_more x ls ks = busy_front (batch - 1) 0 (begins (machine rules) keeping x) ls ks

  -- the line that met a fault is one line more
  busy_tried : (x : AgentOpening) (ls : List PlainAction) (o : Option PlainAction)
      → busy_lines rules batch x ls ≤ busy_lines rules batch x (with_interrupted ls o)
  busy_tried x ls None = omega arith
  busy_tried x ls (Some l) = busy_more x ls (l ∷ [])

  -- a closed epoch more
  busy_closed_more : (x : AgentOpening) (ss : List (Stretch PlainAction)) (s : Stretch PlainAction)
      → busy_closed rules batch x (ss ++ s ∷ [])
      ≡ busy_closed rules batch x ss + busy_epoch rules batch (opening_after (machine rules) keeping x ss) s.epoch
  busy_closed_more x [] s = omega arith
  busy_closed_more x (t ∷ ss) s = omega (arith, busy_closed_more (next_opening (machine rules) keeping x t) ss s)

restarts_closed_more : (ss : List (Stretch PlainAction)) (s : Stretch PlainAction)
    → restarts_closed (ss ++ s ∷ []) ≡ restarts_closed ss + (restart_faults s.downs + 1)
restarts_closed_more [] s = omega arith
restarts_closed_more (t ∷ ss) s = omega (arith, restarts_closed_more ss s)

-- ---- where faults show

-- there are as many places as faults
restart_length : (b r : ℕ) (ds : List PlainStep) → length (restart_places b r ds) ≡ restart_faults ds
restart_length b r [] = refl
restart_length b r (Acts l ∷ ds) = restart_length b r ds
restart_length b r (Reopens ∷ ds) = omega (arith, restart_length b (r + 1) ds)

epoch_length : (b r : ℕ) (ds : List PlainStep) → length (epoch_places b r ds) ≡ epoch_faults ds
epoch_length b r [] = refl
epoch_length b r (Acts l ∷ ds) = omega (arith, restart_length b r ds)
epoch_length b r (Reopens ∷ ds) = omega (arith, restart_length b (r + 1) ds)

closed_length : (rules : List Rule) (batch b r : ℕ) (x : AgentOpening) (ss : List (Stretch PlainAction))
    → length (closed_places rules batch b r x ss) ≡ closed_faults ss
closed_length rules batch b r x [] = refl
closed_length rules batch b r x (s ∷ ss) =
    let here = b + busy_epoch rules batch x s.epoch in
    let behind = r + (restart_faults s.downs + 1) in
    let next = next_opening (machine rules) keeping x s in
    omega (
      arith,
      length-append (epoch_places here r s.downs) (closed_places rules batch here behind next ss),
      epoch_length here r s.downs,
      closed_length rules batch here behind next ss,
    )

-- a line that acts shows none behind others, and a restart its own
places_acts : (b r : ℕ) (ds : List PlainStep) (l : PlainAction) → restart_places b r (ds ++ Acts l ∷ []) ≡ restart_places b r ds
places_acts b r [] l = refl
places_acts b r (Acts j ∷ ds) l = places_acts b r ds l
places_acts b r (Reopens ∷ ds) l = ap (λ ps. place b (r + 1) ∷ ps) (places_acts b (r + 1) ds l)

places_reopens : (b r : ℕ) (ds : List PlainStep)
    → restart_places b r (ds ++ Reopens ∷ []) ≡ restart_places b r ds ++ place b (r + (restart_faults ds + 1)) ∷ []
places_reopens b r [] = refl
places_reopens b r (Acts j ∷ ds) = places_reopens b r ds
places_reopens b r (Reopens ∷ ds) =
    let sums : r + 1 + (restart_faults ds + 1) ≡ r + (restart_faults ds + 1 + 1) = omega arith in
    ap (λ ps. place b (r + 1) ∷ ps) (places_reopens b (r + 1) ds)
    ∙ ap (λ n. place b (r + 1) ∷ (restart_places b (r + 1) ds ++ place b n ∷ [])) sums

-- behind equal numbers
epoch_at : (b c r q : ℕ) (ds : List PlainStep) → b ≡ c → r ≡ q → epoch_places b r ds ≡ epoch_places c q ds
epoch_at b c r q ds batches restarts =
    ap (λ n. epoch_places n r ds) batches ∙ ap (λ n. epoch_places c n ds) restarts

module _ (rules : List Rule) (batch : ℕ) where
  closed_more : (b r : ℕ) (x : AgentOpening) (ss : List (Stretch PlainAction)) (s : Stretch PlainAction)
      → closed_places rules batch b r x (ss ++ s ∷ [])
      ≡ closed_places rules batch b r x ss
      ++ epoch_places (b + (busy_closed rules batch x ss + busy_epoch rules batch (opening_after (machine rules) keeping x ss) s.epoch))
      (r + restarts_closed ss) s.downs
  closed_more b r x [] s =
      append-nil _
      ∙ epoch_at (b + busy_epoch rules batch x s.epoch) (b + (0 + busy_epoch rules batch x s.epoch)) r (r + 0) s.downs
      (omega arith) (omega arith)
  closed_more b r x (t ∷ ss) s =
      let next = next_opening (machine rules) keeping x t in
      let first = busy_epoch rules batch x t.epoch in
      let behind = r + (restart_faults t.downs + 1) in
      let last = busy_epoch rules batch (opening_after (machine rules) keeping next ss) s.epoch in
      ap (λ ps. epoch_places (b + first) r t.downs ++ ps) (closed_more (b + first) behind next ss s)
      ∙ sym (append_assoc (epoch_places (b + first) r t.downs) (closed_places rules batch (b + first) behind next ss) _)
      ∙ ap (λ ps. (epoch_places (b + first) r t.downs ++ closed_places rules batch (b + first) behind next ss) ++ ps)
      (epoch_at (b + first + (busy_closed rules batch next ss + last)) (b + (first + busy_closed rules batch next ss + last))
      (behind + restarts_closed ss) (r + (restart_faults t.downs + 1 + restarts_closed ss)) s.downs (omega arith) (omega arith))

  -- as many as the course shows
  pub places_length : (x : AgentOpening) (r : Course PlainAction) → length (places_on rules batch x r) ≡ faults_on r
  unfolding places_on faults_on
  places_length x r =
      let here = busy_on rules batch x false r in
      omega (
        arith,
        length-append (closed_places rules batch 0 0 x r.closed) (epoch_places here (restarts_closed r.closed) r.downs),
        closed_length rules batch 0 0 x r.closed,
        epoch_length here (restarts_closed r.closed) r.downs,
      )

  -- where no line of the open epoch is answered `down`, what it executes shows none
  pub places_still : (x : AgentOpening) (r q : Course PlainAction) → r.downs ≡ [] → q.downs ≡ r.downs
      → q.closed ≡ r.closed → places_on rules batch x q ≡ places_on rules batch x r
  unfolding places_on
  places_still x r q none downs closed =
      let here = busy_on rules batch x false r in
      let there = busy_on rules batch x false q in
      ap (λ ss. closed_places rules batch 0 0 x ss ++ epoch_places there (restarts_closed ss) q.downs) closed
      ∙ ap (λ ds. closed_places rules batch 0 0 x r.closed ++ epoch_places there (restarts_closed r.closed) ds) (downs ∙ none)
      ∙ ap (λ ds. closed_places rules batch 0 0 x r.closed ++ epoch_places here (restarts_closed r.closed) ds) (sym none)

  -- a restart that succeeds shows none
  pub places_reopen : (x : AgentOpening) (r : Course PlainAction) (kept : ℕ)
      → places_on rules batch x (reopen r kept) ≡ places_on rules batch x r
  unfolding places_on busy_on
  places_reopen x r kept =
      let o = last_opening (machine rules) keeping x r in
      let all = busy_closed rules batch x r.closed + busy_epoch rules batch o (stretch_of r kept).epoch in
      append-nil _ ∙ closed_more 0 0 x r.closed (stretch_of r kept)
      ∙ ap (λ ps. closed_places rules batch 0 0 x r.closed ++ ps)
      (epoch_at (0 + all) all (0 + restarts_closed r.closed) (restarts_closed r.closed) r.downs (omega arith) (omega arith))

  -- ---- a line that is answered `down`

  module _ (x : AgentOpening) (closed : List (Stretch PlainAction)) (ls : List PlainAction) where
    -- what is tried of an epoch by then
    abbrev tried_by : List PlainStep → ℕ
    tried_by ds = busy_closed rules batch x closed
        + busy_lines rules batch (opening_after (machine rules) keeping x closed) (with_interrupted ls (interrupted_line ds))

    -- the places of its faults
    abbrev shown_by : List PlainStep → List Place
    shown_by ds = closed_places rules batch 0 0 x closed ++ epoch_places (tried_by ds) (restarts_closed closed) ds

    -- it shows none, or one there
    abbrev ShowsOne : List PlainStep → PlainStep → Type 0
    ShowsOne ds step = (shown_by (ds ++ step ∷ []) ≡ shown_by ds)
        ⊎ (shown_by (ds ++ step ∷ []) ≡ shown_by ds ++ place (tried_by (ds ++ step ∷ []))
        (restarts_closed closed + restart_faults (ds ++ step ∷ [])) ∷ [])

    one_more : (before ps : List Place) (p q : Place) → p ≡ q
        → before ++ (ps ++ p ∷ []) ≡ (before ++ ps) ++ q ∷ []
    one_more before ps p q is = sym (append_assoc before ps (p ∷ [])) ∙ ap (λ one. (before ++ ps) ++ one ∷ []) is

    shows_one : (ds : List PlainStep) (step : PlainStep) → ShowsOne ds step
    shows_one [] (Acts l) =
        let none : restarts_closed closed ≡ restarts_closed closed + 0 = omega arith in
        inr (one_more (closed_places rules batch 0 0 x closed) [] _ _ (ap (place (tried_by (Acts l ∷ []))) none))
    shows_one [] Reopens = inr (one_more (closed_places rules batch 0 0 x closed) [] _ _ refl)
    shows_one (Acts j ∷ ds) (Acts l) =
        let here = tried_by (Acts j ∷ ds) in
        inl (ap (λ ps. closed_places rules batch 0 0 x closed ++ (place here (restarts_closed closed) ∷ ps))
        (places_acts here (restarts_closed closed) ds l))
    shows_one (Acts j ∷ ds) Reopens =
        let here = tried_by (Acts j ∷ ds) in
        let r = restarts_closed closed in
        inr (ap (λ ps. closed_places rules batch 0 0 x closed ++ (place here r ∷ ps)) (places_reopens here r ds)
        ∙ one_more (closed_places rules batch 0 0 x closed) (place here r ∷ restart_places here r ds) _ _
        (ap (λ n. place here (r + n)) (sym (restarts_reopens ds))))
    shows_one (Reopens ∷ ds) (Acts l) =
        let here = tried_by (Reopens ∷ ds) in
        inl (ap (λ ps. closed_places rules batch 0 0 x closed ++ ps)
        (places_acts here (restarts_closed closed) (Reopens ∷ ds) l))
    shows_one (Reopens ∷ ds) Reopens =
        let here = tried_by (Reopens ∷ ds) in
        let r = restarts_closed closed in
        inr (ap (λ ps. closed_places rules batch 0 0 x closed ++ ps) (places_reopens here r (Reopens ∷ ds))
        ∙ one_more (closed_places rules batch 0 0 x closed) (restart_places here r (Reopens ∷ ds)) _ _
        (ap (λ n. place here (r + n)) (sym (restarts_reopens (Reopens ∷ ds)))))

    -- as many batches were tried before
    tried_more : (ds : List PlainStep) (step : PlainStep) → tried_by ds ≤ tried_by (ds ++ step ∷ [])
    tried_more [] (Acts l) = omega (arith, busy_more rules batch (opening_after (machine rules) keeping x closed) ls (l ∷ []))
    tried_more [] Reopens = omega arith
    tried_more (Acts j ∷ ds) step = omega arith
    tried_more (Reopens ∷ ds) step = omega arith

  restarts_more : (ds : List PlainStep) (step : PlainStep) → restart_faults ds ≤ restart_faults (ds ++ step ∷ [])
  restarts_more ds (Acts l) = omega (arith, restarts_acts ds l)
  restarts_more ds Reopens = omega (arith, restarts_reopens ds)

  pub places_down : (x : AgentOpening) (r : Course PlainAction) (step : PlainStep)
      → let q = down_one r step in
      (places_on rules batch x q ≡ places_on rules batch x r)
      ⊎ (places_on rules batch x q
      ≡ places_on rules batch x r ++ place (busy_on rules batch x false q) (restarts_on q) ∷ [])
  unfolding places_on busy_on restarts_on
  places_down x r step = shows_one x r.closed (executed_lines r) r.downs step

  pub busy_down : (x : AgentOpening) (r : Course PlainAction) (step : PlainStep)
      → busy_on rules batch x false r ≤ busy_on rules batch x false (down_one r step)
  unfolding busy_on
  busy_down x r step = tried_more x r.closed (executed_lines r) r.downs step

  pub restarts_down : (r : Course PlainAction) (step : PlainStep) → restarts_on r ≤ restarts_on (down_one r step)
  unfolding restarts_on
  restarts_down r step = omega (arith, restarts_more r.downs step)

  pub restarts_down_one : (r : Course PlainAction) → restarts_on (down_one r Reopens) ≡ restarts_on r + 1
  unfolding restarts_on
  restarts_down_one r = omega (arith, restarts_reopens r.downs)

  pub restarts_still : (r q : Course PlainAction) → q.closed ≡ r.closed → q.downs ≡ r.downs → restarts_on q ≡ restarts_on r
  unfolding restarts_on
  restarts_still r q closed downs = λ i. restarts_closed (closed i) + restart_faults (downs i)

  -- what was committed was tried
  pub busy_down_up : (x : AgentOpening) (r : Course PlainAction) (up : Bool)
      → busy_on rules batch x up r ≤ busy_on rules batch x false r
  unfolding busy_on
  busy_down_up x r false = omega arith
  busy_down_up x r true =
      let o = last_opening (machine rules) keeping x r in
      omega (
        arith,
        busy_more rules batch o r.answered r.waiting,
        busy_tried rules batch o (executed_lines r) (interrupted_line r.downs),
      )

  pub busy_reopen : (x : AgentOpening) (r : Course PlainAction) (kept : ℕ)
      → busy_on rules batch x true (reopen r kept) ≡ busy_on rules batch x false r
  unfolding busy_on
  busy_reopen x r kept = omega (arith, busy_closed_more rules batch x r.closed (stretch_of r kept))

  pub restarts_reopen : (r : Course PlainAction) (kept : ℕ) → restarts_on (reopen r kept) ≡ restarts_on r + 1
  unfolding restarts_on
  restarts_reopen r kept = omega (arith, restarts_closed_more r.closed (stretch_of r kept))

  pub busy_wait : (x : AgentOpening) (r : Course PlainAction) (l : PlainAction)
      → busy_on rules batch x true (wait r l) ≡ busy_on rules batch x true r
  unfolding busy_on
  busy_wait x r l = refl

  -- a commit of what waits
  pub busy_answered : (x : AgentOpening) (r : Course PlainAction) (n : ℕ) → 0 < batch → length r.answered ≡ batch * n
      → busy_on rules batch x true r + min 1 (length (all_changes (machine rules)
      (world_after (machine rules) (begins (machine rules) keeping (last_opening (machine rules) keeping x r)) r.answered) r.waiting))
      ≤ busy_on rules batch x true (answer_all r)
  unfolding busy_on
  busy_answered x r n some whole =
      omega (arith, busy_commit rules batch (last_opening (machine rules) keeping x r) r.answered r.waiting n some whole)

  -- and one that fails, at the end
  pub busy_executed : (x : AgentOpening) (r : Course PlainAction)
      → busy_on rules batch x true (answer_all r) ≤ busy_on rules batch x false r
  unfolding busy_on
  busy_executed x r =
      omega (arith, busy_tried rules batch (last_opening (machine rules) keeping x r) (executed_lines r) (interrupted_line r.downs))

  -- or in a line, which was tried, too
  pub busy_lost : (x : AgentOpening) (r : Course PlainAction) (l : PlainAction) → r.downs ≡ []
      → busy_on rules batch x true (answer_all (wait r l)) ≡ busy_on rules batch x false (down_one r (Acts l))
  unfolding busy_on
  busy_lost x r l none =
      let o = last_opening (machine rules) keeping x r in
      ap (λ ls. busy_closed rules batch x r.closed + busy_lines rules batch o ls)
      (sym (append_assoc r.answered r.waiting (l ∷ [])))
      ∙ ap (λ ds. busy_closed rules batch x r.closed
      + busy_lines rules batch o (with_interrupted (executed_lines r) (interrupted_line (ds ++ Acts l ∷ [])))) (sym none)

-- ---- cuts

pub up_to_later : (n m : ℕ) (numbers : List ℕ) → n ≤ m → AreUpTo n numbers → AreUpTo m numbers
up_to_later n m [] le are = tt
up_to_later n m (k ∷ numbers) le are = (omega (arith, are.0, le), up_to_later n m numbers le are.1)

pub up_to_more : (n : ℕ) (numbers : List ℕ) → AreUpTo n numbers → AreUpTo n (numbers ++ n ∷ [])
up_to_more n [] are = (omega arith, tt)
up_to_more n (k ∷ numbers) are = (are.0, up_to_more n numbers are.1)

module _ (before : ℕ) where
  -- more cuts do no harm
  pub meets_longer : (cuts more : List ℕ) (places : List Place) → MeetsCuts before cuts places
      → MeetsCuts before (cuts ++ more) places
  meets_longer cuts more [] meets = tt
  meets_longer [] more (p ∷ places) meets = absurd meets
  meets_longer (cut ∷ cuts) more (p ∷ places) meets = (meets.0, meets_longer cuts more places meets.1)

  -- a place more, where one cut more came, and all that came are calls made until there
  pub meets_more : (n : ℕ) (p : Place) → n ≤ calls_until before p → (cuts : List ℕ) (places : List Place)
      → length places < length cuts → AreUpTo n cuts → MeetsCuts before cuts places
      → MeetsCuts before cuts (places ++ p ∷ [])
  meets_more n p le [] places few made meets = absurd (omega (arith, few))
  meets_more n p le (cut ∷ cuts) [] few made meets = (omega (arith, made.0, le), tt)
  meets_more n p le (cut ∷ cuts) (q ∷ places) few made meets =
      (meets.0, meets_more n p le cuts places (omega (arith, few)) made.1 meets.1)

-- the fault that no line shows is met by a cut more
last_meets : (before : ℕ) (came : List ℕ) (calls : ℕ) (closed : List Place) (b r : ℕ) (ds : List PlainStep)
    → MeetsCuts before came (closed ++ epoch_places b r ds) → AreUpTo calls came
    → calls ≤ calls_until before (place b (r + restart_faults ds))
    → length closed + epoch_faults ds + unshown false ds ≤ length came
    → MeetsCuts before came (closed ++ last_places Device b r ds)
last_meets before came calls closed b r [] shown made le few =
    meets_more before calls (place b r) (omega (arith, le)) came closed (omega (arith, few)) made
    (subst (MeetsCuts before came) (append-nil closed) shown)
last_meets before came calls closed b r (d ∷ ds) shown made le few = shown

-- more calls before the first line
pub meets_later : (before later : ℕ) → before ≤ later → (cuts : List ℕ) (places : List Place)
    → MeetsCuts before cuts places → MeetsCuts later cuts places
meets_later before later le cuts [] meets = tt
meets_later before later le [] (p ∷ places) meets = absurd meets
meets_later before later le (cut ∷ cuts) (p ∷ places) meets =
    (omega (arith, meets.0, le), meets_later before later le cuts places meets.1)

-- ---- what is kept of cuts

pub only_calls : (up : Bool) (calls due most : ℕ) → calls + calls_due up due ≤ most → calls ≤ most
only_calls true calls due most le = omega (arith, le)
only_calls false calls due most le = omega (arith, le)

module _ (rules : List Rule) (batch : ℕ) (x : AgentOpening) (before : ℕ) (cuts : List ℕ) where
  abbrev pub Keeps : AgentSeen → Course PlainAction → Moment → Type 0
  Keeps a r at = KeepsCuts rules batch x before cuts a r at

  abbrev pub until : Bool → Course PlainAction → ℕ
  until up r = calls_until before (place (busy_on rules batch x up r) (restarts_on r))

  -- it shows no fault more, or one here
  abbrev pub Shows : (up : Bool) → (r q : Course PlainAction) → Type 0
  Shows up r q =
      (places_on rules batch x q ≡ places_on rules batch x r)
      ⊎ (places_on rules batch x q
      ≡ places_on rules batch x r ++ place (busy_on rules batch x up q) (restarts_on q) ∷ [])

  -- calls within the bound, by whether the agent is up
  pub within_up : (up : Bool) (r : Course PlainAction) (calls due : ℕ) → up ≡ true → calls + due ≤ until true r
      → calls + calls_due up due ≤ until up r
  within_up up r calls due is le = subst (λ u. calls + calls_due u due ≤ until u r) (sym is) le

  pub within_down : (up : Bool) (r : Course PlainAction) (calls due : ℕ) → up ≡ false → calls ≤ until false r
      → calls + calls_due up due ≤ until up r
  within_down up r calls due is le = subst (λ u. calls + calls_due u due ≤ until u r) (sym is) (omega (arith, le))

  pub was_within_up : (up : Bool) (r : Course PlainAction) (calls due : ℕ) → up ≡ true
      → calls + calls_due up due ≤ until up r → calls + due ≤ until true r
  was_within_up up r calls due is le = subst (λ u. calls + calls_due u due ≤ until u r) is le

  pub was_within : (up : Bool) (r : Course PlainAction) (calls due : ℕ)
      → calls + calls_due up due ≤ until up r → calls ≤ until false r
  was_within up r calls due le = omega (arith, only_calls up calls due (until up r) le, busy_down_up rules batch x r up)

  -- the faults that are shown are met by all cuts
  pub keeps_shown : (a : AgentSeen) (r : Course PlainAction) (at : Moment) → Keeps a r at
      → MeetsCuts before cuts (places_on rules batch x r)
  keeps_shown a r at keeps =
      subst (λ cs. MeetsCuts before cs (places_on rules batch x r)) (sym keeps.parts)
      (meets_longer before keeps.came keeps.rest (places_on rules batch x r) keeps.shown)

  -- before the first line
  pub keeps_begun : (a : AgentSeen) (at : Moment) → at.cuts ≡ Some cuts → at.off ≡ false
      → before ≡ at.calls + at.due → a.up ≡ true → Keeps a empty_course at
  unfolding met_on faults_on places_on
  keeps_begun a at told on start up = record {
    came = [];
    rest = cuts;
    parts = refl;
    told = told;
    on = λ is. on;
    met = omega (arith, ap (λ u. unshown u []) up);
    shown = tt;
    made = tt;
    within = within_up a.up empty_course at.calls at.due up (omega (arith, start));
  }

  module _ (a b : AgentSeen) (r q : Course PlainAction) (from to : Moment) (was : Keeps a r from)
      (later : from.calls ≤ to.calls) (shows : Shows b.up r q)
      (within : to.calls + calls_due b.up to.due ≤ until b.up q) where
    -- what is shown, where these cuts came
    shown_by_now : (came : List ℕ) → met_on b q ≤ length came → AreUpTo to.calls came
        → MeetsCuts before came (places_on rules batch x r) → MeetsCuts before came (places_on rules batch x q)
    unfolding met_on
    shown_by_now came met made shown = ⊎_elim
        (λ same. subst (MeetsCuts before came) (sym same) shown)
        (λ one.
        let few : length (places_on rules batch x r) < length came =
        omega (
          arith,
          ap length one,
          length-append (places_on rules batch x r)
              (place (busy_on rules batch x b.up q) (restarts_on q) ∷ []),
          places_length rules batch x q,
          met,
        ) in
        subst (MeetsCuts before came) (sym one)
        (meets_more before to.calls (place (busy_on rules batch x b.up q) (restarts_on q))
        (only_calls b.up to.calls to.due (until b.up q) within) came (places_on rules batch x r) few made shown))
        shows

    -- no cut came
    pub keeps_on : to.cuts ≡ from.cuts → (b.up ≡ true → to.off ≡ false) → met_on b q ≤ met_on a r → Keeps b q to
    keeps_on same on met =
        let made = up_to_later from.calls to.calls was.came later was.made in
        let few : met_on b q ≤ length was.came = omega (arith, met, was.met) in
        record {
          came = was.came;
          rest = was.rest;
          parts = was.parts;
          told = same ∙ was.told;
          on = on;
          met = few;
          shown = shown_by_now was.came few made was.shown;
          made = made;
          within = within;
        }

    -- one did
    pub keeps_cut : b.up ≡ false → IsNextCut from.cuts to.cuts to.calls → met_on b q ≤ met_on a r + 1 → Keeps b q to
    keeps_cut down cut met = by was.rest refl
      where
        by : (rest : List ℕ) → was.rest ≡ rest → Keeps b q to
        by [] is = absurd (subst (λ told. IsNextCut told to.cuts to.calls) (was.told ∙ ap Some is) cut)
        by (next ∷ rest) is =
            let now = subst (λ told. IsNextCut told to.cuts to.calls) (was.told ∙ ap Some is) cut in
            let came = was.came ++ to.calls ∷ [] in
            let made = up_to_more to.calls was.came (up_to_later from.calls to.calls was.came later was.made) in
            let few : met_on b q ≤ length came = omega (arith, met, was.met, length-append was.came (to.calls ∷ [])) in
            record {
              came = came;
              rest = rest;
              parts = was.parts ∙ ap (λ more. was.came ++ more) (is ∙ ap (λ n. n ∷ rest) (sym now.1))
                  ∙ sym (append_assoc was.came (to.calls ∷ []) rest);
              told = now.0;
              on = λ up. absurd (true≢false (sym up ∙ down));
              met = few;
              shown = shown_by_now came few made
                  (meets_longer before was.came (to.calls ∷ []) (places_on rules batch x r) was.shown);
              made = made;
              within = within;
            }

  -- where the agent is down at the end, the fault that no line shows shows there
  pub keeps_last : (b : AgentSeen) (r : Course PlainAction) (committed : Bool) (at : Moment) → b.up ≡ false
      → Keeps b r at
      → MeetsCuts before cuts (fault_places rules batch Device x (history_of (machine rules) keeping x committed r))
  unfolding met_on faults_on places_on busy_on restarts_on
  keeps_last b r committed at down keeps =
      let places = fault_places rules batch Device x (history_of (machine rules) keeping x committed r) in
      subst (λ cs. MeetsCuts before cs places) (sym keeps.parts)
      (meets_longer before keeps.came keeps.rest places
      (last_meets before keeps.came at.calls (closed_places rules batch 0 0 x r.closed) (busy_on rules batch x false r)
      (restarts_closed r.closed) r.downs keeps.shown keeps.made (was_within b.up r at.calls at.due keeps.within)
      (omega (arith, closed_length rules batch 0 0 x r.closed, keeps.met, ap (λ up. unshown up r.downs) down))))
