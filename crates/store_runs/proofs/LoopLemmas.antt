-- What the loop over the lines keeps, and how it ends.
use Rattle.std.proofs.Common.{◌≡◌, ◌≢◌, ℕ, ◌+◌, ◌<◌, ◌≤◌, ◌^◌, true, false, List, [], ◌∷◌, ◌++◌, Option, Some, take, drop, length, get_or, inl, inr, refl, sym, ap, subst, ⊎_elim, ◌∙◌, append-nil, arith}
use Rattle.std.proofs.lemmas.Bool.{cases_Bool, false≢true}
use Rattle.std.proofs.lemmas.List.{length-map, length-take-le, map-append, take-append-drop, take_more}
use Rattle.agent_base.specs.Counts.{Rose}
use Rattle.unwinding.specs.Admissible.{History, IsAdmissible}
use Rattle.unwinding.specs.Course.{AtBase, Course, IsAt, answer_all, empty_course, executed_lines}
use Rattle.unwinding.specs.CourseSteps.{base_of, committed, forward, history_of, last_opening, reopened}
use Rattle.unwinding.proofs.CourseRestarts.{admissible_stretch, ends_answered, ends_lost}
use Rattle.unwinding.proofs.CourseScript.{steps_answered}
use Rattle.unwinding.proofs.CourseSums.{base_is, committed_stands, forward_append}
use Rattle.agent_base.specs.Streams.{Takes, TakesPrefix}
use Rattle.suffix_list.specs.Suffix.{Rule}
use Rattle.script_actions.specs.Action.{PlainAction, PlainStep}
use Rattle.script_actions.specs.Plain.{step_of}
use Rattle.script_actions.specs.declared.step.Line.{Line}
use Rattle.agent_model.specs.Isolation.{text_of}
use Rattle.agent_model.specs.TheMachine.{machine}
use Rattle.durable_model.specs.Histories.{AgentOpening, history_replies}
use Rattle.durable_model.specs.Keeping.{AgentDurable, keeping}
use Rattle.disk_model.specs.Disk.{View}
use Rattle.agent_core.specs.Means.{AgentMay, Fails, Fits, Same, after_commit}
use Rattle.agent_core.specs.Seen.{AgentSeen}
use Rattle.printed_model.specs.Histories.{EndsUp, IsHistoryOf, history_text}
use Rattle.printed_model.proofs.LeftLemmas.{left_of_answered, left_of_executed}
use Rattle.printed_model.specs.Left.{IsLeft}
use Rattle.store_runs.specs.Calls.{Breaks, BreaksOff, IsQuiet, Pays, StaysOrRose}
use Rattle.store_runs.specs.Closing.{Commits, EndsWith, HoldsNone, Spends}
use Rattle.store_runs.specs.Courses.{Leaves, Marks, On, OnCourse, Steps, Watch, downs_on, text_on}
use Rattle.store_runs.specs.CutCourses.{KeepsCuts, Moment, busy_on, faults_on, met_on, places_on, unshown}
use Rattle.store_runs.specs.CutBounds.{MeetsCuts, MeetsToldCuts, fault_places}
use Rattle.store_runs.specs.Faults.{RoseBy, epoch_faults, faults_of, last_faults}
use Rattle.store_runs.specs.Fronts.{Began}
use Rattle.store_runs.specs.Openings.{just_opened}
use Rattle.store_runs.specs.Runs.{IsLeftWith, Ran, Stopped, WritesLines}
use Rattle.store_runs.specs.Steps.{steps_of}
use Rattle.store_runs.specs.Waiting.{Ended}
use Rattle.waiting_lines.specs.Waiting.{TakesFront}
use Rattle.store_runs.specs.declared.ending.Ending.{Ending}
use Rattle.store_runs.specs.declared.ending.Ending.TheVariants.{Done, Device, Store, Write, Memory}
use Rattle.store_runs.proofs.CountLemmas.{last_fault_met, last_fault_more, rose_by_fewer, rose_by_none, rose_by_rose, rose_by_stays, rose_later, stays_more, unshown_up}
use Rattle.store_runs.proofs.CutLemmas.{keeps_begun, keeps_last, keeps_shown, places_still}
use Rattle.store_runs.proofs.KeepLemmas.{keeps_answered, keeps_broken, keeps_failed}
use Rattle.store_runs.proofs.CourseLemmas.{nothing_held, nothing_printed, on_begun, on_fits, on_up, text_answered, up_after_commit}
use Rattle.waiting_lines.proofs.PrefixLemmas.{front_end, front_more, front_none, front_part, front_then, prefix_all, prefix_front, prefix_longer}

-- ---- steps

pub steps_more : (lines : List Line) (i : ℕ) (d : Line) → i < length lines
    → steps_of (take (i + 1) lines) ≡ steps_of (take i lines) ++ step_of (get_or lines i d).step ∷ []
steps_more lines i d h = ap steps_of (take_more lines i d h)
    ∙ map-append (λ (l : Line). step_of l.step) (take i lines) (get_or lines i d ∷ [])

pub steps_parts : (lines : List Line) (i : ℕ) → steps_of lines ≡ steps_of (take i lines) ++ steps_of (drop i lines)
steps_parts lines i = ap steps_of (sym (take-append-drop i lines))
    ∙ map-append (λ (l : Line). step_of l.step) (take i lines) (drop i lines)

steps_few : (lines : List Line) (i : ℕ) → i ≤ length lines → length (steps_of (take i lines)) ≡ i
steps_few lines i h = length-map (take i lines) (λ (l : Line). step_of l.step) ∙ length-take-le i lines h

-- lines are few enough for their changes to stay in range
pub steps_fit : (lines : List Line) (i : ℕ) → i ≤ length lines → length lines + 2 < 2 ^ 64
    → length (steps_of (take i lines)) + 1 < 2 ^ 64
steps_fit lines i h fits = omega (arith, steps_few lines i h, h, fits)

-- a commit of nothing leaves the base
committed_again : (rules : List Rule) (a : AgentSeen)
    → (after_commit rules (after_commit rules a)).base ≡ (after_commit rules a).base
unfolding committed
committed_again rules a = forward_append (machine rules) keeping a.pending [] a.base
    ∙ ap (λ ms. forward (machine rules) keeping ms a.base) (append-nil a.pending)

-- and nothing pending
none_pending : (rules : List Rule) (a : AgentSeen) → length (after_commit rules a).pending ≡ 0
unfolding committed
none_pending rules a = refl

-- an ending that shows no fault of its own
abbrev IsUsual : Ending → Type 0
IsUsual Done = Unit {0}
IsUsual Device = ⊥
IsUsual (Store why) = Unit {0}
IsUsual Write = Unit {0}
IsUsual Memory = Unit {0}

-- an agent that was just opened is up
pub opens_up : (rules : List Rule) (x : AgentOpening) → (just_opened rules x).up ≡ true
unfolding reopened
opens_up rules x = refl

-- ---- a course that ends where it stands

module _ (rules : List Rule) (batch : ℕ) (x : AgentOpening) (r : Course PlainAction) where
  -- what waits for its batch is lost
  abbrev pub cut_off : History PlainAction
  cut_off = history_of (machine rules) keeping x false r

  pub cut_off_text : history_text rules x cut_off ≡ text_on rules x r
  unfolding history_replies text_on
  cut_off_text = refl

  module _ (a : AgentSeen) (may : AgentMay) (on : On rules batch x r a may) where
    pub cut_off_admissible : IsAdmissible (machine rules) keeping batch x cut_off
    unfolding On
    cut_off_admissible = ends_lost (machine rules) keeping batch x r a may on

    pub cut_off_leaves : (rest : List PlainStep) → Leaves rules batch x may rest cut_off
    unfolding On
    cut_off_leaves rest d n left =
        let o = last_opening (machine rules) keeping x r in
        let kept = admissible_stretch (machine rules) keeping batch x o r on.batches on.whole on.short d n (on.images d n left) in
        record {
          left = record { kept = n; may = ⊎_elim (λ k. inl k) (λ t. inr (inl t)) kept.0.2; state = kept.1 };
          whole = λ some. kept.0.2;
        }

-- ---- the course of a run

module _ (rules : List Rule) (batch : ℕ) (x : AgentOpening) (watch : Watch) where
  -- no line has run yet
  pub course_begins : (a : AgentSeen) (may : AgentMay) (out : Option (List ℕ)) → watch.before ≤ watch.now
      → watch.to ≡ watch.from → a.up ≡ true → 0 < batch → a ≡ reopened (machine rules) keeping x.rest x.state → AtBase a.base may
      → OnCourse rules batch x a may [] watch out out []
  unfolding downs_on faults_on met_on
  course_begins a may out later same up some is base =
      let keeps : (cuts : List ℕ) → watch.from.cuts ≡ Some cuts → watch.from.off ≡ false
      → KeepsCuts rules batch x (watch.from.calls + watch.from.due) cuts a empty_course watch.from = λ cuts told on.
      keeps_begun rules batch x (watch.from.calls + watch.from.due) cuts a watch.from told on refl up in
      record {
        course = empty_course;
        on = on_begun rules batch x a may some is base;
        runs = refl;
        downs = λ q. refl;
        faults = rose_by_none watch.before watch.now later;
        met = λ goes. rose_by_fewer 0 _ watch.before watch.now (omega (arith, unshown_up a.up [] up))
            (rose_by_none watch.before watch.now later);
        shown = λ cuts told on. keeps_shown rules batch x (watch.from.calls + watch.from.due) cuts a empty_course watch.from
            (keeps cuts told on);
        cut = λ goes cuts told on. subst (KeepsCuts rules batch x (watch.from.calls + watch.from.due) cuts a empty_course)
            (sym same) (keeps cuts told on);
        text = subst (λ t. TakesFront out out t []) (sym (nothing_printed rules x)) (front_none out);
      }

  -- some lines more
  pub course_more : (ran : List PlainStep) (Now GoesOn : Type 0) (faults : ℕ) (to : Moment) (a b : AgentSeen)
      (may may' : AgentMay) (steps : List PlainStep) (first out : Option (List ℕ)) (waiting now text : List ℕ)
      → (watch.Quiet → Now) → watch.GoesOn
      → OnCourse rules batch x a may steps watch first out waiting
      → Steps rules batch ran (record {
        Quiet = Now;
        GoesOn = GoesOn;
        before = watch.now;
        now = faults;
        from = watch.to;
        to = to;
      })
      a may b may' text → now ≡ waiting ++ text
      → OnCourse rules batch x b may' (steps ++ ran)
      (record {
        Quiet = watch.Quiet;
        GoesOn = GoesOn;
        before = watch.before;
        now = faults;
        from = watch.from;
        to = to;
      }) first out now
  course_more ran Now GoesOn faults to a b may may' steps first out waiting now text still goes on line is =
      let next = line x on.course on.on in
      record {
        course = next.0;
        on = next.1;
        runs = next.2.steps ∙ ap (λ ss. ss ++ ran) on.runs;
        downs = λ q. next.2.downs (still q) ∙ on.downs q;
        faults = next.2.counted watch.before (on.met goes);
        met = λ on_goes. next.2.met on_goes watch.before (on.met goes);
        shown = λ cuts told powered. next.2.shown (watch.from.calls + watch.from.due) cuts (on.cut goes cuts told powered);
        cut = λ on_goes cuts told powered.
            next.2.cut on_goes (watch.from.calls + watch.from.due) cuts (on.cut goes cuts told powered);
        text =
            subst (λ t. TakesFront first out t now) (sym next.2.prints)
            (subst (TakesFront first out (text_on rules x on.course ++ text)) (sym is)
            (front_more first out out (text_on rules x on.course) waiting on.text text));
      }

  module _ (a : AgentSeen) (may : AgentMay) (steps : List PlainStep) (first out : Option (List ℕ))
      (waiting : List ℕ) (on : OnCourse rules batch x a may steps watch first out waiting) where
    -- some of what waits was written
    pub course_written : (later : Option (List ℕ)) (rest : List ℕ) → TakesFront out later waiting rest
        → OnCourse rules batch x a may steps watch first later rest
    course_written later rest took = record {
      course = on.course;
      on = on.on;
      runs = on.runs;
      downs = on.downs;
      faults = on.faults;
      met = on.met;
      shown = on.shown;
      cut = on.cut;
      text = front_then first out later (text_on rules x on.course) waiting on.text rest took;
    }

    -- changes stay in range
    pub course_fits : length steps + 1 < 2 ^ 64 → Fits a
    course_fits less = on_fits rules batch x on.course a may on.on (omega (arith, ap length on.runs, less))

    -- the run ends here, and what waits for its batch is lost
    abbrev lost : History PlainAction
    lost = cut_off rules batch x on.course

    lost_is : IsHistoryOf rules batch x watch.Quiet steps lost
    unfolding downs_on
    lost_is = record {
      admissible = cut_off_admissible rules batch x on.course a may on.on;
      lines =
          on.runs;
      quiet = on.downs;
    }

    -- so it ends where a line opens the store again, and of its text the front was written
    pub course_began : Began rules batch x watch.Quiet steps (λ text. TakesFront first out text waiting)
    course_began = record {
      history = lost;
      «is» = lost_is;
      lost = refl;
      more = [];
      text = subst (λ t. TakesFront first out t waiting)
          (sym (append-nil (history_text rules x lost) ∙ cut_off_text rules batch x on.course)) on.text;
    }

    -- the faults that it shows
    lost_faults : (ending : Ending) (now : ℕ) → last_faults ending on.course.downs ≤ epoch_faults
        on.course.downs → StaysOrRose watch.now now → RoseBy (faults_of ending lost) watch.before now
    unfolding faults_on
    lost_faults ending now few stays = rose_by_stays _ _ watch.before watch.now now (omega (arith, few)) stays on.faults

    -- the commit at the end met one fault more, unless the agent was down
    lost_device : (now : ℕ) → watch.GoesOn → StaysOrRose watch.now now → (a.up ≡ true → Rose watch.now now)
        → RoseBy (faults_of Device lost) watch.before now
    unfolding faults_on met_on
    lost_device now goes stays fell = ⊎_elim
        (λ up. rose_by_rose _ _ watch.before watch.now now (omega (arith, last_fault_more on.course.downs)) (fell up) on.faults)
        (λ down. rose_by_stays _ _ watch.before watch.now now
        (omega (arith, last_fault_met on.course.downs, ap (λ up. unshown up on.course.downs) down)) stays (on.met goes))
        (cases_Bool a.up)

    -- and the checkpoint behind the last commit met one
    last_device : (now : ℕ) → Rose watch.now now → RoseBy (faults_of Device lost) watch.before now
    unfolding faults_on
    last_device now rose = rose_by_rose _ _ watch.before watch.now now
        (omega (arith, last_fault_more on.course.downs)) rose on.faults

    -- each of them by a cut in time, since this was told first
    abbrev MeetsHere : Ending → History PlainAction → Type 0
    MeetsHere ending history = MeetsToldCuts (watch.from.calls + watch.from.due) watch.from.cuts watch.from.off
        (fault_places rules batch ending x history)

    lost_cuts : (ending : Ending) → IsUsual ending → MeetsHere ending lost
    unfolding places_on busy_on
    lost_cuts Done usual = on.shown
    lost_cuts Device usual = absurd usual
    lost_cuts Write usual = on.shown
    lost_cuts Memory usual = on.shown
    lost_cuts (Store why) usual = on.shown

    -- the commit at the end met one
    lost_device_cuts : (b : AgentSeen) (last : Moment) → watch.GoesOn → b.up ≡ false
        → Breaks a.up (length a.pending) watch.to last → MeetsHere Device lost
    lost_device_cuts b last goes down breaks cuts told powered =
        let before = watch.from.calls + watch.from.due in
        keeps_last rules batch x before cuts b on.course false last down
        (keeps_failed rules batch x on.course a may on.on b watch.to last before cuts (on.cut goes cuts told powered) down breaks)

    -- where no line is left
    none_left : (history : History PlainAction) (d : AgentDurable) → IsLeft rules batch x history d → IsLeftWith rules batch x [] history d
    none_left history d left = record { left = left; whole = λ some. absurd (some refl) }

    lost_leaves : (rest : List PlainStep) → Leaves rules batch x may rest lost
    lost_leaves = cut_off_leaves rules batch x on.course a may on.on

    -- or it was committed
    abbrev answered : History PlainAction
    answered = history_of (machine rules) keeping x true (answer_all on.course)

    answered_is : a.up ≡ true → IsHistoryOf rules batch x watch.Quiet steps answered
    unfolding On downs_on
    answered_is up = record {
      admissible = ends_answered (machine rules) keeping batch x on.course a may
          (on_up rules batch x on.course a may on.on up).0 on.on;
      lines = steps_answered on.course ∙ on.runs;
      quiet = on.downs;
    }

    answered_cuts : (ending : Ending) → IsUsual ending → a.up ≡ true → MeetsHere ending answered
    unfolding places_on busy_on
    answered_cuts ending usual up cuts told powered = by ending usual
      where
        here : MeetsCuts (watch.from.calls + watch.from.due) cuts (places_on rules batch x (answer_all on.course))
        here = subst (MeetsCuts (watch.from.calls + watch.from.due) cuts)
            (sym (places_still rules batch x on.course (answer_all on.course)
            (on_up rules batch x on.course a may on.on up).0 refl refl)) (on.shown cuts told powered)

        by : (ending : Ending) → IsUsual ending
            → MeetsCuts (watch.from.calls + watch.from.due) cuts (fault_places rules batch ending x answered)
        by Done usual = here
        by Device usual = absurd usual
        by Write usual = here
        by Memory usual = here
        by (Store why) usual = here

    -- or the checkpoint behind that commit did
    answered_device_cuts : (b c : AgentSeen) (here last : Moment) → watch.GoesOn → a.up ≡ true
        → b ≡ after_commit rules a → c.up ≡ false → Pays (length a.pending) watch.to here
        → Breaks b.up (length b.pending) here last → MeetsHere Device answered
    answered_device_cuts b c here last goes up is down pays breaks cuts told powered =
        let before = watch.from.calls + watch.from.due in
        let still : b.up ≡ true = ap (λ s. s.up) is ∙ up_after_commit rules a in
        let none : length b.pending ≡ 0 = ap (λ s. length s.pending) is ∙ none_pending rules a in
        keeps_last rules batch x before cuts c (answer_all on.course) true last down
        (keeps_broken rules batch x (answer_all on.course) b c here last before cuts
        (keeps_answered rules batch x on.course a may on.on b watch.to here before cuts (on.cut goes cuts told powered) up still pays)
        still down (subst (λ n. BreaksOff n here last) none (breaks.0 still)))

    answered_text : a.up ≡ true → history_text rules x answered ≡ text_on rules x on.course ++ text_of a.held
    unfolding history_replies text_on
    answered_text up = text_answered rules batch x on.course a may on.on up

    -- what a commit leads to
    committed_base : a.up ≡ true → (after_commit rules a).base
        ≡ base_of (machine rules) keeping (last_opening (machine rules) keeping x on.course) (executed_lines on.course)
    committed_base up =
        let o = last_opening (machine rules) keeping x on.course in
        ap (λ s. (committed (machine rules) keeping s).base) (on_up rules batch x on.course a may on.on up).1
        ∙ ap (λ s. s.base) (committed_stands (machine rules) keeping o on.course)
        ∙ base_is (machine rules) keeping o (answer_all on.course)

    -- the store has all that a commit leads to
    abbrev IsStored : AgentMay → Type 0
    IsStored may' = (a.up ≡ true) × AtBase (after_commit rules a).base may'

    answered_leaves : (may' : AgentMay) → IsStored may' → Leaves rules batch x may' [] answered
    answered_leaves may' stored d n left = none_left answered d (left_of_answered rules batch x on.course d n
        (on_up rules batch x on.course a may on.on stored.0).0
        (subst (λ base. IsAt base d n) (committed_base stored.0) (stored.1 d n left)))

    commits_stored : (b : AgentSeen) (may' : AgentMay) → Commits rules a b may' → IsStored may'
    commits_stored b may' done = (done.0, λ d n left. subst (λ base. IsAt base d n) (ap (λ s. s.base) done.1) (done.2 d n left))

    -- a checkpoint behind that commit leaves it so, whether it was made
    stored_again : (b c : AgentSeen) (may' after : AgentMay) → Commits rules a b may' → Commits rules b c after → IsStored after
    stored_again b c may' after done more = (
      done.0,
      λ d n left. subst (λ base. IsAt base d n)
          (ap (λ s. s.base) more.1 ∙ ap (λ s. (after_commit rules s).base) done.1 ∙ committed_again rules a) (more.2 d n left),
    )

    stored_still : (b c : AgentSeen) (may' after : AgentMay) → Commits rules a b may' → Same b may' c after → IsStored after
    stored_still b c may' after done same = (done.0, λ d n left. (commits_stored b may' done).1 d n (same.1 d n left))

    -- or failed
    stored_down : (b c : AgentSeen) (may' after : AgentMay) → Commits rules a b may'
        → Fails rules b b c may' after (b.up ≡ true) → IsStored after
    stored_down b c may' after done goes = (
      done.0,
      λ d n left. ⊎_elim ((commits_stored b may' done).1 d n)
          (λ at. subst (λ base. IsAt base d n) (ap (λ s. (after_commit rules s).base) done.1 ∙ committed_again rules a) at.1)
          (goes.images d n left),
    )

    tried_leaves : (b : AgentSeen) (may' : AgentMay) → Fails rules a a b may may' (a.up ≡ true) → Leaves rules batch x may' [] lost
    tried_leaves b may' goes d n left = ⊎_elim (lost_leaves [] d n)
        (λ tried. none_left lost d (left_of_executed rules batch x on.course d n
        (on_up rules batch x on.course a may on.on tried.0).0
        (subst (λ base. IsAt base d n) (committed_base tried.0) tried.1)))
        (goes.images d n left)

    -- what a run wrote and left that ended so
    abbrev Writes : (checkpoint : ℕ) → (all : List PlainStep) → (later : Option (List ℕ)) → AgentMay → (now : ℕ) → Ending → Type 0
    Writes checkpoint all later may' now ending = WritesLines ending rules batch checkpoint x watch.Quiet all
        first later (Marks rules batch x may' ending watch.before now watch.from)

    -- the run was stopped after these lines, and a part of what waits was written
    stopped : (all rest : List PlainStep) (later : Option (List ℕ)) (ending : Ending) (may' : AgentMay)
        (now : ℕ) → all ≡ steps ++ rest → TakesPrefix out later waiting
        → Marks rules batch x may' ending watch.before now watch.from rest lost
        → Stopped rules batch x watch.Quiet all first later (Marks rules batch x may' ending watch.before now watch.from)
    stopped all rest later ending may' now parts took left = record {
      front = steps;
      rest = rest;
      parts = parts;
      history = lost;
      «is» = lost_is;
      whole = λ committed. absurd (false≢true committed);
      text = subst (TakesPrefix first later) (sym (cut_off_text rules batch x on.course))
          (front_part first out later (text_on rules x on.course) waiting on.text took);
      left = left;
    }

    same_faults : StaysOrRose watch.now watch.now
    same_faults = inl refl

    pub course_stopped : (checkpoint : ℕ) (all rest : List PlainStep) (later : Option (List ℕ))
        → all ≡ steps ++ rest → TakesPrefix out later waiting → Writes checkpoint all later may watch.now Write
    course_stopped checkpoint all rest later parts took =
        stopped all rest later Write may watch.now parts took (lost_leaves rest, lost_faults Write watch.now (omega arith) same_faults, lost_cuts Write tt)

    -- memory was wanting, and a part of what should wait does
    pub course_memory : (checkpoint : ℕ) (all rest : List PlainStep) (later : Option (List ℕ))
        (shown more : List ℕ) (ending : Ending) (count rose : ℕ) → all ≡ steps ++ rest
        → waiting ≡ shown ++ more → Ended Memory ending out later count rose shown
        → Writes checkpoint all later may watch.now ending
    course_memory checkpoint all rest later shown more ending count rose parts is ended = ⊎_elim
        (λ ok. subst (Writes checkpoint all later may watch.now) (sym ok.0)
        (stopped all rest later Memory may watch.now parts
        (subst (TakesPrefix out later) (sym is) (prefix_front out later shown more ok.1.0))
        (lost_leaves rest, lost_faults Memory watch.now (omega arith) same_faults, lost_cuts Memory tt)))
        (λ fault. subst (Writes checkpoint all later may watch.now) (sym fault.0)
        (course_stopped checkpoint all rest later parts
        (subst (TakesPrefix out later) (sym is) (prefix_longer out later shown more fault.1.0))))
        ended

    no_rest : steps ≡ steps ++ []
    no_rest = sym (append-nil steps)

    -- the end left this
    module _ (checkpoint : ℕ) (may' : AgentMay) (now : ℕ) (stays : StaysOrRose watch.now now) where
      -- the lines that waited were committed
      answered_marks : (ending : Ending) → IsUsual ending → last_faults ending on.course.downs ≤ epoch_faults on.course.downs
          → IsStored may' → Marks rules batch x may' ending watch.before now watch.from [] answered
      answered_marks ending usual few stored =
          (answered_leaves may' stored, lost_faults ending now few stays, answered_cuts ending usual stored.0)

      -- and a part of the text was written
      answered_stopped : (ending : Ending) (later : Option (List ℕ)) → IsUsual ending
          → last_faults ending on.course.downs ≤ epoch_faults on.course.downs → IsStored may'
          → TakesPrefix out later (waiting ++ text_of a.held)
          → Stopped rules batch x watch.Quiet steps first later (Marks rules batch x may' ending watch.before now watch.from)
      answered_stopped ending later usual few stored took = record {
        front = steps;
        rest = [];
        parts = no_rest;
        history = answered;
        «is» = answered_is stored.0;
        whole = λ committed. refl;
        text =
            subst (TakesPrefix first later) (sym (answered_text stored.0))
            (front_part first out later (text_on rules x on.course ++ text_of a.held)
            (waiting ++ text_of a.held) (front_more first out out (text_on rules x on.course)
            waiting on.text (text_of a.held)) took);
        left = answered_marks ending usual few stored;
      }

      -- or all of it was
      abbrev answered_ran : (ending : Ending) (later : Option (List ℕ)) → IsStored may'
          → Takes out later (waiting ++ text_of a.held) → Marks rules batch x may' ending watch.before now watch.from [] answered
          → Ran rules batch x watch.Quiet steps first later (Marks rules batch x may' ending watch.before now watch.from)
      answered_ran ending later stored took marks = record {
        history = answered;
        «is» = answered_is stored.0;
        text =
            subst (Takes first later) (sym (answered_text stored.0))
            (front_end first out later (text_on rules x on.course ++ text_of a.held)
            (waiting ++ text_of a.held) (front_more first out out (text_on rules x on.course)
            waiting on.text (text_of a.held)) took);
        left = marks;
      }

      -- the agent was up then
      answered_up : IsStored may' → EndsUp answered
      answered_up stored = ((on_up rules batch x on.course a may on.on stored.0).0, refl)

      -- they were, and all that waits was written or a part
      done_ended : (ending : Ending) (waits : List ℕ) (later : Option (List ℕ)) (count rose : ℕ)
          → IsStored may' → waits ≡ waiting ++ text_of a.held → Ended Done ending out later count rose waits
          → Writes checkpoint steps later may' now ending
      done_ended ending waits later count rose stored is ended = ⊎_elim
          (λ ok. subst (Writes checkpoint steps later may' now) (sym ok.0) (
            answered_ran Done later stored (subst (Takes out later) is ok.1.0)
                (answered_marks Done tt (omega arith) stored),
            answered_up stored,
          ))
          (λ fault. subst (Writes checkpoint steps later may' now) (sym fault.0)
          (answered_stopped Write later tt (omega arith) stored (subst (TakesPrefix out later) is fault.1.0)))
          ended

      -- they were, and memory was wanting for their text
      answered_memory : (ending : Ending) (later : Option (List ℕ)) (count rose : ℕ) → IsStored may'
          → Ended Memory ending out later count rose waiting → Writes checkpoint steps later may' now ending
      answered_memory ending later count rose stored ended = ⊎_elim
          (λ ok. subst (Writes checkpoint steps later may' now) (sym ok.0)
          (answered_stopped Memory later tt (omega arith) stored (prefix_front out later waiting (text_of a.held) ok.1.0)))
          (λ fault. subst (Writes checkpoint steps later may' now) (sym fault.0)
          (answered_stopped Write later tt (omega arith) stored (prefix_longer out later waiting (text_of a.held) fault.1.0)))
          ended

      -- they were, all was written, and the checkpoint behind their commit failed
      checkpoint_ended : (later : Option (List ℕ)) → checkpoint ≢ 0 → (watch.Quiet → ⊥) → Rose watch.now now
          → MeetsHere Device answered → IsStored may' → Takes out later (waiting ++ text_of a.held) → Writes checkpoint steps later may' now Device
      checkpoint_ended later some loud rose meets stored took = (
        answered_ran Device later stored took (answered_leaves may' stored, last_device now rose, meets),
        inr (some, answered_up stored),
        loud,
      )

      -- the last commit failed
      device_ended : (b : AgentSeen) (last : Moment) (ending : Ending) (later : Option (List ℕ)) (count rose : ℕ)
          → watch.GoesOn → (a.up ≡ true → Rose watch.now now) → Breaks a.up (length a.pending) watch.to last
          → (watch.Quiet → ⊥)
          → Fails rules a a b may may' (a.up ≡ true) → Ended Device ending out later count rose waiting
          → Writes checkpoint steps later may' now ending
      device_ended b last ending later count rose on_goes fell breaks loud goes ended = ⊎_elim
          (λ ok. subst (Writes checkpoint steps later may' now) (sym ok.0) (
            record {
              history = lost;
              «is» = lost_is;
              text = subst (Takes first later) (sym (cut_off_text rules batch x on.course))
                  (front_end first out later (text_on rules x on.course) waiting on.text ok.1.0);
              left = (
                tried_leaves b may' goes,
                lost_device now on_goes stays fell,
                lost_device_cuts b last on_goes goes.down breaks,
              );
            },
            inl (inr refl),
            loud,
          ))
          (λ fault. subst (Writes checkpoint steps later may' now) (sym fault.0)
          (stopped steps [] later Write may' now no_rest fault.1.0
          (tried_leaves b may' goes, lost_faults Write now (omega arith) stays, lost_cuts Write tt)))
          ended

      -- memory was wanting, and the agent is as it was
      same_memory : (b : AgentSeen) (ending : Ending) (later : Option (List ℕ)) (count rose : ℕ)
          → Same a may b may' → Ended Memory ending out later count rose waiting → Writes checkpoint steps later may' now ending
      same_memory b ending later count rose same ended =
          let leaves : Leaves rules batch x may' [] lost = λ d n left. lost_leaves [] d n (same.1 d n left) in
          ⊎_elim
          (λ ok. subst (Writes checkpoint steps later may' now) (sym ok.0)
          (stopped steps [] later Memory may' now no_rest (prefix_all out later waiting ok.1.0)
          (leaves, lost_faults Memory now (omega arith) stays, lost_cuts Memory tt)))
          (λ fault. subst (Writes checkpoint steps later may' now) (sym fault.0)
          (stopped steps [] later Write may' now no_rest fault.1.0 (leaves, lost_faults Write now (omega arith) stays, lost_cuts Write tt)))
          ended

    -- what a last commit that is done leaves
    last_commits : (b : AgentSeen) (may' : AgentMay) → HoldsNone rules a b may may' → Commits rules a b may'
    last_commits b may' holds = nothing_held rules batch x on.course a b may may' on.on holds

    -- the end of the lines
    pub course_ends : (checkpoint : ℕ) (b : AgentSeen) (may' : AgentMay) (old new : View) (last : Moment)
        (asking ending : Ending) (waits : List ℕ) (later : Option (List ℕ)) (count rose : ℕ)
        → watch.now ≡ old.faults → watch.GoesOn → (watch.Quiet → IsQuiet a old)
        → EndsWith rules a b may may' old new asking waiting waits → StaysOrRose old.faults new.faults
        → Spends asking a watch.to last → Ended asking ending out later count rose waits → Writes checkpoint steps later may' new.faults ending
    course_ends checkpoint b may' old new last Done ending waits later count rose is goes still ends stays spends ended =
        done_ended checkpoint may' new.faults (subst (λ n. StaysOrRose n new.faults) (sym is) stays)
        ending waits later count rose (commits_stored b may' (last_commits b may' ends.0)) ends.1 ended
    course_ends checkpoint b may' old new last Device ending waits later count rose is goes still ends stays spends ended =
        device_ended checkpoint may' new.faults (subst (λ n. StaysOrRose n new.faults) (sym is) stays)
        b last ending later count rose goes (λ up. subst (λ n. Rose n new.faults) (sym is) (ends.3 up)) spends
        (λ q. ends.2 (still q)) ends.0
        (subst (Ended Device ending out later count rose) ends.1 ended)
    course_ends checkpoint b may' old new last Memory ending waits later count rose is goes still ends stays spends ended =
        let left : Ended Memory ending out later count rose waiting =
        subst (Ended Memory ending out later count rose) ends.1 ended in
        let stayed = subst (λ n. StaysOrRose n new.faults) (sym is) stays in
        ⊎_elim (λ done. answered_memory checkpoint may' new.faults stayed ending later count rose
        (commits_stored b may' done) left) (λ same. same_memory checkpoint may' new.faults stayed b ending
        later count rose same left) ends.0
    course_ends checkpoint b may' old new last Write ending waits later count rose is goes still ends stays spends ended = absurd ends
    course_ends checkpoint b may' old new last (Store why) ending waits later count rose is goes still ends stays spends ended = absurd ends

    -- and the checkpoint behind the last commit, once all is written
    module _ (checkpoint : ℕ) (some : checkpoint ≢ 0) (b c : AgentSeen) (may' after : AgentMay)
        (old here new : View) (waits : List ℕ) (later : Option (List ℕ)) (is : watch.now ≡ old.faults)
        (still : watch.Quiet → IsQuiet a old)
        (ends : EndsWith rules a b may may' old here Done waiting waits)
        (stays : StaysOrRose old.faults here.faults) (more : StaysOrRose here.faults new.faults)
        (took : Takes out later waits) (goes : watch.GoesOn) (then last : Moment)
        (pays : Pays (length a.pending) watch.to then) where
      done : Commits rules a b may'
      done = last_commits b may' ends.0

      kept : StaysOrRose watch.now new.faults
      kept = subst (λ n. StaysOrRose n new.faults) (sym is) (stays_more old.faults here.faults new.faults stays more)

      all_taken : Takes out later (waiting ++ text_of a.held)
      all_taken = subst (Takes out later) ends.1 took

      pub course_closes : (ending : Ending) → EndsWith rules b c may' after here new ending [] []
          → Spends ending b then last → Writes checkpoint steps later after new.faults ending
      course_closes Done ends_last spends =
          let stored = ⊎_elim (stored_again b c may' after done) (λ same. stored_still b c may' after done same.2) ends_last.0 in (
            answered_ran checkpoint after new.faults kept Done later stored all_taken
                (answered_marks checkpoint after new.faults kept Done tt (omega arith) stored),
            answered_up checkpoint after new.faults kept stored,
          )
      course_closes Device ends_last spends =
          let up : b.up ≡ true = ap (λ s. s.up) done.1 ∙ up_after_commit rules a in
          let rose : Rose watch.now new.faults = subst (λ n. Rose n new.faults) (sym is)
          (rose_later old.faults here.faults new.faults stays (ends_last.3 up)) in
          checkpoint_ended checkpoint after new.faults kept later some (λ q. ends_last.2 (ends.2 (still q))) rose
          (answered_device_cuts b c then last goes done.0 done.1 ends_last.0.down pays spends)
          (stored_down b c may' after done ends_last.0) all_taken
      course_closes Memory ends_last spends =
          let stored = ⊎_elim (stored_again b c may' after done) (stored_still b c may' after done) ends_last.0 in
          answered_stopped checkpoint after new.faults kept Memory later tt (omega arith) stored
          (prefix_all out later (waiting ++ text_of a.held) all_taken)
      course_closes Write ends_last spends = absurd ends_last
      course_closes (Store why) ends_last spends = absurd ends_last
