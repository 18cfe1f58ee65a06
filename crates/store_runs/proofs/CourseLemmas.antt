-- What each answer of an agent makes of a course.
use Rattle.std.proofs.Common.{◌≡◌, ℕ, ◌+◌, ◌<◌, ◌^◌, true, List, [], ◌∷◌, ◌++◌, Some, length, inl, inr, refl, sym, ap, subst, ⊎_elim, ◌∙◌, append-nil, append_assoc, arith}
use Rattle.std.proofs.lemmas.Bool.{cases_Bool}
use Rattle.std.proofs.lemmas.List.{nil_from_length}
use Rattle.agent_base.specs.Counts.{Rose}
use Rattle.unwinding.specs.Admissible.{Acts, Reopens, Stretch, interrupted_line}
use Rattle.unwinding.specs.Course.{AtBase, Course, IsAt, answer_all, course_steps, down_one, empty_course, reopen, stretch_of, wait}
use Rattle.unwinding.specs.CourseSteps.{GoesDown, base_of, committed, last_opening, reopened, stands}
use Rattle.unwinding.specs.Epochs.{acknowledged_replies}
use Rattle.unwinding.proofs.CourseCounts.{on_count}
use Rattle.unwinding.proofs.CourseLines.{on_down, on_flush, on_flush_down, on_held, on_quiet_down, on_replies, tried_keeps}
use Rattle.unwinding.proofs.CourseRestarts.{on_opened, on_reopened}
use Rattle.unwinding.proofs.CourseScript.{steps_answered, steps_down, steps_reopened, steps_wait}
use Rattle.unwinding.proofs.CourseSums.{base_is, committed_stands, holding_stands, length_held}
use Rattle.unwinding.proofs.Transcripts.{transcript_answered, transcript_down, transcript_reopened, transcript_wait}
use Rattle.suffix_list.specs.Suffix.{Rule}
use Rattle.script_actions.specs.Action.{PlainAction}
use Rattle.reply_lines.specs.Reply.{reply_text}
use Rattle.agent_model.specs.Isolation.{printed, text_of}
use Rattle.agent_model.specs.TheMachine.{machine}
use Rattle.durable_model.specs.Histories.{AgentOpening}
use Rattle.durable_model.specs.Keeping.{AgentDurable, keeping}
use Rattle.agent_core.specs.Means.{AgentMay, Fails, Fits, Same, after_commit, after_line}
use Rattle.agent_core.specs.Seen.{AgentSeen}
use Rattle.store_runs.specs.Calls.{Breaks, FailsAgain, OpensAgain, Pays, StaysOrRose}
use Rattle.store_runs.specs.Closing.{Commits, HoldsNone}
use Rattle.store_runs.specs.Courses.{Adds, On, Steps, Watch, downs_on, text_on}
use Rattle.store_runs.specs.CutCourses.{KeepsCuts, met_on}
use Rattle.store_runs.specs.Faults.{RoseBy}
use Rattle.printed_model.specs.Histories.{closed_downs, down_reply, restart_reply}
use Rattle.store_runs.proofs.CountLemmas.{closed_met, down_again, down_met, failed_met, rose_by_fewer, rose_by_rose, rose_by_stays, shown_met, up_met}
use Rattle.store_runs.proofs.CutLemmas.{keeps_shown}
use Rattle.store_runs.proofs.KeepLemmas.{keeps_down_line, keeps_down_restart, keeps_failed, keeps_held, keeps_reopened, keeps_replied, keeps_tidied}
use Rattle.store_runs.proofs.TextLemmas.{text_append, text_one}

-- the lines that were answered `down` in one closed stretch more
closed_downs_more : (ss : List (Stretch PlainAction)) (s : Stretch PlainAction)
    → closed_downs (ss ++ s ∷ []) ≡ closed_downs ss ++ s.downs
closed_downs_more [] s = append-nil s.downs
closed_downs_more (t ∷ ss) s = ap (λ ds. t.downs ++ ds) (closed_downs_more ss s)
    ∙ sym (append_assoc t.downs (closed_downs ss) s.downs)

pub nothing_printed : (rules : List Rule) (x : AgentOpening) → text_on rules x empty_course ≡ []
unfolding text_on text_of acknowledged_replies
nothing_printed rules x = refl

pub up_after_commit : (rules : List Rule) (a : AgentSeen) → (after_commit rules a).up ≡ true
unfolding committed
up_after_commit rules a = refl

module _ (rules : List Rule) (batch : ℕ) where
  pub on_up : (x : AgentOpening) (r : Course PlainAction) (a : AgentSeen) (may : AgentMay)
      → On rules batch x r a may → a.up ≡ true
      → (r.downs ≡ []) × (a ≡ stands (machine rules) keeping (last_opening (machine rules) keeping x r) r)
  unfolding On
  on_up x r a may on up = on.up up

  pub on_begun : (x : AgentOpening) (a : AgentSeen) (may : AgentMay) → 0 < batch
      → a ≡ reopened (machine rules) keeping x.rest x.state → AtBase a.base may → On rules batch x empty_course a may
  unfolding On
  on_begun x a may some is base = on_opened (machine rules) keeping batch x a may some is base

  -- the line waits
  pub held_line : (l : PlainAction) (watch : Watch) (a b : AgentSeen) (may may' : AgentMay)
      → StaysOrRose watch.before watch.now → Pays 0 watch.from watch.to → b.up ≡ true → a.up ≡ true
      → length a.held + 1 < batch → b ≡ after_line rules a l → AtBase b.base may'
      → Steps rules batch (Acts l ∷ []) watch a may b may' []
  unfolding On text_on downs_on
  held_line l watch a b may may' stays pays still up less is base x r on =
      let met : (first : ℕ) → RoseBy (met_on a r) first watch.before
      → RoseBy (met_on b (wait r l)) first watch.now = λ first was. rose_by_stays _ _ first watch.before
      watch.now (up_met a b r (wait r l) still refl refl) stays was in
      let keeps : (before : ℕ) (cuts : List ℕ) → KeepsCuts rules batch x before cuts a r watch.from
      → KeepsCuts rules batch x before cuts b (wait r l) watch.to = λ before cuts was.
      keeps_held rules batch x r a may on b watch.from watch.to before cuts was l up still pays in (
        wait r l,
        on_held (machine rules) keeping batch x r l a b may may' on up less is base,
        record {
          steps = steps_wait r l (on_up x r a may on up).0;
          prints = ap text_of (transcript_wait (machine rules) keeping x restart_reply down_reply r l) ∙ sym (append-nil _);
          downs = λ q. refl;
          counted = λ first was. rose_by_fewer _ _ first watch.now (shown_met b (wait r l)) (met first was);
          met = λ goes. met;
          shown = λ before cuts was. keeps_shown rules batch x before cuts b (wait r l) watch.to (keeps before cuts was);
          cut = λ goes. keeps;
        },
      )

  -- the line and all that waited are answered
  pub replied_line : (l : PlainAction) (watch : Watch) (a b : AgentSeen) (may may' : AgentMay)
      → StaysOrRose watch.before watch.now → Pays (length (after_line rules a l).pending) watch.from watch.to
      → b.up ≡ true → a.up ≡ true → length a.held + 1 ≡ batch
      → b ≡ after_commit rules (after_line rules a l) → AtBase b.base may'
      → Steps rules batch (Acts l ∷ []) watch a may b may' (text_of (after_line rules a l).held)
  unfolding On text_on downs_on
  replied_line l watch a b may may' stays pays still up full is base x r on =
      let m = machine rules in
      let was = on_up x r a may on up in
      let o = last_opening m keeping x r in
      let met : (first : ℕ) → RoseBy (met_on a r) first watch.before
      → RoseBy (met_on b (answer_all (wait r l)))
      first watch.now = λ first was. rose_by_stays _ _ first watch.before watch.now
      (up_met a b r (answer_all (wait r l)) still refl refl) stays was in
      let keeps : (before : ℕ) (cuts : List ℕ) → KeepsCuts rules batch x before cuts a r watch.from
      → KeepsCuts rules batch x before cuts b (answer_all (wait r l)) watch.to = λ before cuts was.
      keeps_replied rules batch x r a may on b watch.from watch.to before cuts was l up still pays in
      let held : (after_line rules a l).held ≡ (stands m keeping o (wait r l)).held =
      ap (λ s. (after_line rules s l).held) was.1 ∙ ap (λ s. s.held) (holding_stands m keeping o r l) in (
        answer_all (wait r l),
        on_replies m keeping batch x r l a b may may' on up full is base,
        record {
          steps = steps_answered (wait r l) ∙ steps_wait r l was.0;
          prints =
              ap text_of (transcript_answered m keeping x restart_reply down_reply (wait r l) was.0) ∙ text_append _ _
              ∙ ap (λ ts. text_of ts ++ text_of (stands m keeping o (wait r l)).held)
              (transcript_wait m keeping x restart_reply down_reply r l)
              ∙ ap (λ ts. text_on rules x r ++ text_of ts) (sym held);
          downs = λ q. refl;
          counted = λ first was. rose_by_fewer _ _ first watch.now (shown_met b (answer_all (wait r l))) (met first was);
          met = λ goes. met;
          shown = λ before cuts was. keeps_shown rules batch x before cuts b (answer_all (wait r l)) watch.to (keeps before cuts was);
          cut = λ goes. keeps;
        },
      )

  -- the line is answered `down`
  pub down_line : (l : PlainAction) (watch : Watch) (a b : AgentSeen) (may may' : AgentMay)
      → StaysOrRose watch.before watch.now → (a.up ≡ true → Rose watch.before watch.now)
      → Breaks a.up (length (after_line rules a l).pending) watch.from watch.to → (watch.Quiet → ⊥)
      → GoesDown (machine rules) keeping a b may may'
      (λ d n. ((a.up ≡ true) × (length a.held + 1 ≡ batch)) × IsAt (after_commit rules (after_line rules a l)).base d n)
      → Steps rules batch (Acts l ∷ []) watch a may b may' (reply_text (printed (down_reply (Acts l))))
  unfolding On text_on downs_on
  down_line l watch a b may may' stays fell breaks loud goes x r on =
      let keeps : (before : ℕ) (cuts : List ℕ) → KeepsCuts rules batch x before cuts a r watch.from
      → KeepsCuts rules batch x before cuts b (down_one r (Acts l)) watch.to = λ before cuts was.
      keeps_down_line rules batch x r a may on b watch.from watch.to before cuts was l goes.down breaks in
      let met : (first : ℕ) → RoseBy (met_on a r) first watch.before
      → RoseBy (met_on b (down_one r (Acts l))) first watch.now = λ first was. ⊎_elim
      (λ up. rose_by_rose _ _ first watch.before watch.now (down_met a b r (Acts l)) (fell up) was)
      (λ down. rose_by_stays _ _ first watch.before watch.now (down_again a b r l down) stays was)
      (cases_Bool a.up) in (
        down_one r (Acts l),
        on_down (machine rules) keeping batch x r (Acts l) a b may may' _ on goes
            (λ d n other. tried_keeps (machine rules) keeping batch x r l a may d n on other.0.0 other.0.1 other.1),
        record {
          steps = steps_down r (Acts l);
          prints =
              ap text_of (transcript_down (machine rules) keeping x restart_reply down_reply r (Acts l)) ∙ text_append _ _
              ∙ ap (λ t. text_on rules x r ++ t) (text_one (down_reply (Acts l)));
          downs = λ q. absurd (loud q);
          counted = λ first was. rose_by_fewer _ _ first watch.now (shown_met b (down_one r (Acts l))) (met first was);
          met = λ goes. met;
          shown = λ before cuts was. keeps_shown rules batch x before cuts b (down_one r (Acts l)) watch.to (keeps before cuts was);
          cut = λ goes. keeps;
        },
      )

  pub down_restart : (watch : Watch) (a b : AgentSeen) (may may' : AgentMay) → Rose watch.before watch.now
      → FailsAgain watch.from watch.to → (watch.Quiet → ⊥) → GoesDown (machine rules) keeping a b may may' (λ d n. ⊥)
      → Steps rules batch (Reopens ∷ []) watch a may b may' (reply_text (printed (down_reply Reopens)))
  unfolding On text_on downs_on
  down_restart watch a b may may' rose fails loud goes x r on =
      let keeps : (before : ℕ) (cuts : List ℕ) → KeepsCuts rules batch x before cuts a r watch.from
      → KeepsCuts rules batch x before cuts b (down_one r Reopens) watch.to = λ before cuts was.
      keeps_down_restart rules batch x r a may on b watch.from watch.to before cuts was goes.down fails in
      let met : (first : ℕ) → RoseBy (met_on a r) first watch.before
      → RoseBy (met_on b (down_one r Reopens))
      first watch.now = λ first was. rose_by_rose _ _ first watch.before watch.now (down_met a b r Reopens) rose was in (
        down_one r Reopens,
        on_down (machine rules) keeping batch x r Reopens a b may may' _ on goes (λ d n other. absurd other),
        record {
          steps = steps_down r Reopens;
          prints =
              ap text_of (transcript_down (machine rules) keeping x restart_reply down_reply r Reopens) ∙ text_append _ _
              ∙ ap (λ t. text_on rules x r ++ t) (text_one (down_reply Reopens));
          downs = λ q. absurd (loud q);
          counted = λ first was. rose_by_fewer _ _ first watch.now (shown_met b (down_one r Reopens)) (met first was);
          met = λ goes. met;
          shown = λ before cuts was. keeps_shown rules batch x before cuts b (down_one r Reopens) watch.to (keeps before cuts was);
          cut = λ goes. keeps;
        },
      )

  -- the store is opened again
  pub restart_line : (kept : ℕ) (d : AgentDurable) (watch : Watch) (a b : AgentSeen) (may may' : AgentMay)
      → StaysOrRose watch.before watch.now → OpensAgain watch.from watch.to → b.up ≡ true → 0 < batch → may d kept
      → b ≡ reopened (machine rules) keeping a.world.rest d → AtBase b.base may'
      → Steps rules batch (Reopens ∷ []) watch a may b may' (reply_text (printed (restart_reply kept)))
  unfolding On text_on downs_on
  restart_line kept d watch a b may may' stays opens up some left is base x r on =
      let keeps : (before : ℕ) (cuts : List ℕ) → KeepsCuts rules batch x before cuts a r watch.from
      → KeepsCuts rules batch x before cuts b (reopen r kept) watch.to = λ before cuts was.
      keeps_reopened rules batch x r a may on b watch.from watch.to before cuts was kept up opens in
      let met : (first : ℕ) → RoseBy (met_on a r) first watch.before
      → RoseBy (met_on b (reopen r kept)) first watch.now = λ first was. rose_by_stays _ _ first
      watch.before watch.now (closed_met a b r kept up) stays was in (
        reopen r kept,
        on_reopened (machine rules) keeping batch x r kept d a b may may' some on left is base,
        record {
          steps = steps_reopened r kept;
          prints =
              ap text_of (transcript_reopened (machine rules) keeping x restart_reply down_reply r kept) ∙ text_append _ _
              ∙ ap (λ t. text_on rules x r ++ t) (text_one (restart_reply kept));
          downs = λ q. append-nil _ ∙ closed_downs_more r.closed (stretch_of r kept);
          counted = λ first was. rose_by_fewer _ _ first watch.now (shown_met b (reopen r kept)) (met first was);
          met = λ goes. met;
          shown = λ before cuts was. keeps_shown rules batch x before cuts b (reopen r kept) watch.to (keeps before cuts was);
          cut = λ goes. keeps;
        },
      )

  -- no line runs, and the course goes on by nothing
  adds_nothing : (x : AgentOpening) (a b : AgentSeen) (r : Course PlainAction) (watch : Watch)
      → StaysOrRose watch.before watch.now → (watch.GoesOn → (first : ℕ)
      → RoseBy (met_on a r) first watch.before → RoseBy (met_on b r) first watch.now)
      → (watch.GoesOn → (before : ℕ) (cuts : List ℕ) → KeepsCuts rules batch x before cuts a r watch.from
      → KeepsCuts rules batch x before cuts b r watch.to)
      → Adds rules batch x a b r r [] watch []
  adds_nothing x a b r watch stays met keeps = record {
    steps = sym (append-nil _);
    prints = sym (append-nil _);
    downs = λ q. refl;
    counted = λ first was. rose_by_stays _ _ first watch.before watch.now (shown_met a r) stays was;
    met = met;
    shown = λ before cuts was. keeps_shown rules batch x before cuts a r watch.from was;
    cut = keeps;
  }

  -- nothing is held, so that no line waits
  none_waits : (x : AgentOpening) (r : Course PlainAction) (a : AgentSeen) (may : AgentMay)
      → On rules batch x r a may → a.up ≡ true → a.held ≡ [] → r.waiting ≡ []
  none_waits x r a may on up none =
      nil_from_length r.waiting (sym (length_held (machine rules) keeping
      (last_opening (machine rules) keeping x r) r a (on_up x r a may on up).1) ∙ ap length none)

  -- and a commit would commit nothing
  pub nothing_held : (x : AgentOpening) (r : Course PlainAction) (a b : AgentSeen) (may may' : AgentMay)
      → On rules batch x r a may → HoldsNone rules a b may may' → Commits rules a b may'
  unfolding On
  nothing_held x r a b may may' on (inl done) = done
  nothing_held x r a b may may' on (inr (up, none, same)) =
      let m = machine rules in
      let o = last_opening m keeping x r in
      let was = on_up x r a may on up in
      let empty = none_waits x r a may on up none in
      let all : answer_all r ≡ r = λ i. record {
        closed = r.closed;
        answered =
            (ap (λ ls. r.answered ++ ls) empty ∙ append-nil r.answered) i;
        waiting = sym empty i;
        downs = r.downs;
      } in
      let still : after_commit rules a ≡ a = ap (committed m keeping) was.1 ∙ committed_stands m keeping o r
      ∙ ap (stands m keeping o) all ∙ sym was.1 in
      let base : a.base ≡ base_of m keeping o r.answered = ap (λ s. s.base) was.1 ∙ base_is m keeping o r in (
        up,
        same.0 ∙ sym still,
        λ d n left. ⊎_elim
            (λ at. subst (λ s. IsAt s d n) (sym (ap (λ s. s.base) same.0 ∙ base)) at)
            (λ tried. absurd (none_tried tried.0 (sym (ap interrupted_line was.0) ∙ tried.1)))
            (on.images d n (same.1 d n left)),
      )
    where
      none_tried : (l : PlainAction) → interrupted_line {Line = PlainAction} [] ≡ Some l → ⊥
      none_tried l is = cc

  -- a checkpoint was made of an agent that holds nothing, or it is as it was
  pub checkpoint_made : (watch : Watch) (a b : AgentSeen) (may may' : AgentMay)
      → StaysOrRose watch.before watch.now → (watch.GoesOn → Pays (length a.pending) watch.from watch.to)
      → a.held ≡ [] → HoldsNone rules a b may may' → Steps rules batch [] watch a may b may' []
  unfolding On
  checkpoint_made watch a b may may' stays pays none holds x r on =
      let done = nothing_held x r a b may may' on holds in
      let up : b.up ≡ true = ap (λ s. s.up) done.1 ∙ up_after_commit rules a in (
        r,
        on_flush (machine rules) keeping batch x r a b may may' on (none_waits x r a may on done.0 none) done.0 done.1 done.2,
        adds_nothing x a b r watch stays (λ goes first was. rose_by_stays _ _ first watch.before watch.now
            (up_met a b r r up refl refl) stays was)
            (λ goes before cuts was. keeps_tidied rules batch x r a may on b watch.from watch.to before cuts was
            (none_waits x r a may on done.0 none) done.0 up (pays goes)),
      )

  -- or it failed
  pub checkpoint_failed : (watch : Watch) (a b : AgentSeen) (may may' : AgentMay)
      → Rose watch.before watch.now → Breaks a.up (length a.pending) watch.from watch.to → a.up ≡ true → a.held ≡ []
      → Fails rules a a b may may' (a.up ≡ true)
      → Steps rules batch [] watch a may b may' []
  unfolding On
  checkpoint_failed watch a b may may' rose breaks up none goes x r on = (
    r,
    on_flush_down (machine rules) keeping batch x r a b may may' on (none_waits x r a may on up none) goes,
    adds_nothing x a b r watch (inr rose) (λ on first was. rose_by_rose _ _ first watch.before watch.now
        (failed_met a b r) rose was)
        (λ on_goes before cuts was. keeps_failed rules batch x r a may on b watch.from watch.to before cuts was goes.down breaks),
  )

  -- no call was made
  pub nothing_stands : (watch : Watch) (a : AgentSeen) (may : AgentMay) → StaysOrRose watch.before watch.now
      → watch.to ≡ watch.from → Steps rules batch [] watch a may a may []
  nothing_stands watch a may stays same x r on = (
    r,
    on,
    adds_nothing x a a r watch stays
        (λ goes first was. rose_by_stays _ _ first watch.before watch.now (omega arith) stays was)
        (λ goes before cuts was. subst (KeepsCuts rules batch x before cuts a r) (sym same) was),
  )

  -- memory was wanting, and the agent is as it was
  pub same_stands : (watch : Watch) (a b : AgentSeen) (may may' : AgentMay)
      → StaysOrRose watch.before watch.now → (watch.GoesOn → ⊥) → Same a may b may' → Steps rules batch [] watch a may b may' []
  unfolding On
  same_stands watch a b may may' stays stops same x r on = (
    r,
    record {
      admissible = on.admissible;
      batches = on.batches;
      whole = on.whole;
      short = on.short;
      rest = ap (λ s. keeping.rest_again s.world.rest) same.0 ∙ on.rest;
      up = λ up. ((on.up (sym (ap (λ s. s.up) same.0) ∙ up)).0, same.0 ∙ (on.up (sym (ap (λ s. s.up) same.0) ∙ up)).1);
      images = λ d n left. on.images d n (same.1 d n left);
    },
    adds_nothing x a b r watch stays (λ on. absurd (stops on)) (λ on. absurd (stops on)),
  )

  -- memory was wanting at a restart, and the agent is not up
  pub spoilt_stands : (watch : Watch) (a b : AgentSeen) (may may' : AgentMay)
      → StaysOrRose watch.before watch.now → (watch.GoesOn → ⊥) → GoesDown (machine rules) keeping a b may may' (λ d n. ⊥)
      → Steps rules batch [] watch a may b may' []
  unfolding On
  spoilt_stands watch a b may may' stays stops goes x r on = (
    r,
    on_quiet_down (machine rules) keeping batch x r a b may may' on goes,
    adds_nothing x a b r watch stays (λ on. absurd (stops on)) (λ on. absurd (stops on)),
  )

  -- what waits is answered at the end
  pub text_answered : (x : AgentOpening) (r : Course PlainAction) (a : AgentSeen) (may : AgentMay)
      → On rules batch x r a may → a.up ≡ true → text_on rules x (answer_all r) ≡ text_on rules x r ++ text_of a.held
  unfolding text_on
  text_answered x r a may on up =
      let was = on_up x r a may on up in
      ap text_of (transcript_answered (machine rules) keeping x restart_reply down_reply r was.0)
      ∙ text_append _ _ ∙ ap (λ s. text_on rules x r ++ text_of s.held) (sym was.1)

  -- changes are at most as many as lines, so their number stays in range
  pub on_fits : (x : AgentOpening) (r : Course PlainAction) (a : AgentSeen) (may : AgentMay)
      → On rules batch x r a may → length (course_steps r) + 1 < 2 ^ 64 → Fits a
  unfolding On
  on_fits x r a may on less up = omega (arith, on_count (machine rules) keeping batch x r a may on up, less)
