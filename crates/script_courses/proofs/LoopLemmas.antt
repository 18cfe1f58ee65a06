-- What a loop over the lines keeps: it stands on a course, and has collected it. Each lemma has the words of
-- what a call of an agent means.
use Rattle.std.proofs.Common.{◌≡◌, inl, inr, ℕ, ◌+◌, ◌<◌, ◌≤◌, true, List, [], ◌∷◌, ◌++◌, Some, length, refl, sym, ap, ◌∙◌, append_assoc, append-nil, arith}
use Rattle.std.proofs.lemmas.List.{nil_from_length}
use Rattle.unwinding.specs.Admissible.{Acts, History, Reopens, Stretch, interrupted_line}
use Rattle.unwinding.specs.Course.{AtBase, Course, answer_all, empty_course, executed_lines, reopen, stretch_of, wait}
use Rattle.unwinding.specs.CourseSteps.{MayFind, MayKeep, SeenOf, begins, committed, history_of, holding, last_opening, reopened, stands}
use Rattle.unwinding.specs.World.{world_after}
use Rattle.unwinding.proofs.CourseCounts.{on_count}
use Rattle.unwinding.proofs.CourseLines.{on_flush, on_held, on_replies}
use Rattle.unwinding.proofs.CourseRestarts.{ends_answered, on_opened, on_reopened}
use Rattle.unwinding.proofs.CourseScript.{steps_answered, steps_reopened, steps_wait}
use Rattle.unwinding.proofs.CourseSums.{length_held}
use Rattle.unwinding.proofs.Fronts.{world_append}
use Rattle.suffix_list.specs.Suffix.{Rule}
use Rattle.origin_site.specs.Site.{PlainSite}
use Rattle.script_actions.specs.Action.{PlainAction, PlainStep}
use Rattle.agent_model.specs.TheMachine.{machine}
use Rattle.durable_model.specs.Histories.{AgentOpening, history_script}
use Rattle.durable_model.specs.Keeping.{AgentDurable, keeping}
use Rattle.printed_model.specs.Histories.{begins_at, closed_downs}
use Rattle.script_courses.specs.GoodHistories.{IsGood, good_history}
use Rattle.script_courses.specs.Collected.{Collected, closing, nothing_collected, tally_of, with_commit, with_line, with_restart}
use Rattle.script_courses.specs.Courses.{OnScript, collected_on, committed_on, world_on}
use Rattle.script_courses.proofs.CollectedLemmas.{begins_with_nothing, ends_with_script, grows_by_commit, grows_by_line, grows_by_restart, waits_as_held}
use Rattle.script_courses.specs.Twins.{acknowledged_in}
use Rattle.script_courses.proofs.CountLemmas.{few_made, few_told}
use Rattle.script_courses.proofs.GoodLemmas.{gives_the_only, no_rest}

closed_downs_more : (ss : List (Stretch PlainAction)) (s : Stretch PlainAction)
    → closed_downs (ss ++ s ∷ []) ≡ closed_downs ss ++ s.downs
closed_downs_more [] s = append-nil s.downs
closed_downs_more (t ∷ ss) s = ap (λ ds. t.downs ++ ds) (closed_downs_more ss s)
    ∙ sym (append_assoc t.downs (closed_downs ss) s.downs)

no_line : (downs : List PlainStep) (l : PlainAction) → downs ≡ [] → interrupted_line downs ≡ Some l → ⊥
no_line [] l none is = cc
no_line (d ∷ downs) l none is = cc

module _ (rules : List Rule) (batch : ℕ) (site : PlainSite) where
  -- an agent, and which durable states a restart may find
  abbrev Agent : Type 0
  Agent = SeenOf (machine rules) keeping

  abbrev May : Type 1
  May = MayFind (machine rules) keeping

  abbrev On : AgentOpening → Agent → May → List PlainStep → Collected → Type 0
  On x a may steps c = OnScript rules batch site x a may steps c

  -- an agent that was just opened
  pub script_begins : (x : AgentOpening) (a : Agent) (may : May) → 0 < batch
      → a ≡ reopened (machine rules) keeping x.rest x.state → AtBase a.base may → On x a may [] nothing_collected
  script_begins x a may some is base = record {
    course = empty_course;
    on = on_opened (machine rules) keeping batch x a may some is base;
    runs = refl;
    quiet = refl;
    collected = sym (begins_with_nothing rules site x);
  }

  module _ (x : AgentOpening) (a : Agent) (may : May) (steps : List PlainStep) (c : Collected) (on : On x a may steps c) where
    abbrev r : Course PlainAction
    r = on.course

    none : r.downs ≡ []
    none = no_rest (closed_downs r.closed) r.downs on.quiet

    is_world : a.up ≡ true → a.world ≡ world_on rules x r
    unfolding stands
    is_world up = ap (λ s. s.world) (on.on.up up).1 ∙ sym (world_append (machine rules) _ r.answered r.waiting)

    is_moment : a.world.rest.now ≡ (world_on rules x r).rest.now
    unfolding keeping
    is_moment = ap (λ rest. rest.now) on.on.rest

    with_one : (l : PlainAction) → a.up ≡ true → with_line rules site a.world l c ≡ collected_on rules site x (wait r l)
    with_one l up = (λ i. with_line rules site (is_world up i) l (on.collected i)) ∙ sym (grows_by_line rules site x r l)

    -- a line that waits for its batch
    pub script_held : (l : PlainAction) (b : Agent) (may' : May) → a.up ≡ true → length a.held + 1 < batch
        → b ≡ holding (machine rules) keeping a l → AtBase b.base may'
        → On x b may' (steps ++ Acts l ∷ []) (with_line rules site a.world l c)
    script_held l b may' up less is base = record {
      course = wait r l;
      on = on_held (machine rules) keeping batch x r l a b may may' on.on up less is base;
      runs = steps_wait r l none ∙ ap (λ ss. ss ++ Acts l ∷ []) on.runs;
      quiet = on.quiet;
      collected = with_one l up;
    }

    -- a line that ends its batch
    pub script_replied : (l : PlainAction) (b : Agent) (may' : May) → a.up ≡ true → length a.held + 1 ≡ batch
        → b ≡ committed (machine rules) keeping (holding (machine rules) keeping a l) → AtBase b.base may'
        → On x b may' (steps ++ Acts l ∷ []) (with_commit (with_line rules site a.world l c))
    script_replied l b may' up full is base = record {
      course = answer_all (wait r l);
      on = on_replies (machine rules) keeping batch x r l a b may may' on.on up full is base;
      runs = steps_answered (wait r l) ∙ steps_wait r l none ∙ ap (λ ss. ss ++ Acts l ∷ []) on.runs;
      quiet = on.quiet;
      collected = ap with_commit (with_one l up) ∙ sym (grows_by_commit rules site x (wait r l));
    }

    -- a commit of nothing, as that before a checkpoint
    pub script_flushed : (b : Agent) (may' : May) → a.up ≡ true → a.held ≡ []
        → b ≡ committed (machine rules) keeping a → AtBase b.base may' → On x b may' steps c
    script_flushed b may' up holds is base =
        let waits : r.waiting ≡ [] = nil_from_length r.waiting
        (sym (length_held (machine rules) keeping (last_opening (machine rules) keeping x r) r a
        (on.on.up up).1) ∙ ap length holds) in
        record {
          course = r;
          on = on_flush (machine rules) keeping batch x r a b may may' on.on waits up is base;
          runs = on.runs;
          quiet = on.quiet;
          collected = on.collected;
        }

    -- want of memory leaves all as it was
    pub script_same : (b : Agent) (may' : May) → b ≡ a → ((d : AgentDurable) (n : ℕ) → may' d n → may d n) → On x b may' steps c
    script_same b may' is fewer = record {
      course = r;
      on = record {
        admissible = on.on.admissible;
        batches = on.on.batches;
        whole = on.on.whole;
        short = on.on.short;
        rest = ap (λ s. (keeping).rest_again s.world.rest) is ∙ on.on.rest;
        up = λ up. (none, is ∙ (on.on.up (sym (ap (λ s. s.up) is) ∙ up)).1);
        images = λ d n left. on.on.images d n (fewer d n left);
      };
      runs = on.runs;
      quiet = on.quiet;
      collected = on.collected;
    }

    kept_is : (d : AgentDurable) (kept : ℕ) → MayKeep (machine rules) keeping batch
        (last_opening (machine rules) keeping x r) r d kept → kept ≡ committed_on rules x r
    kept_is d kept (inl at) = at.1
    kept_is d kept (inr tried) = absurd (no_line r.downs tried.0 none tried.1)

    -- a restart
    pub script_reopened : (kept : ℕ) (d : AgentDurable) (b : Agent) (may' : May) → 0 < batch → may d kept
        → b ≡ reopened (machine rules) keeping a.world.rest d → AtBase b.base may'
        → On x b may' (steps ++ Reopens ∷ []) (with_restart a.world.rest.now c)
    script_reopened kept d b may' some left is base = record {
      course = reopen r kept;
      on = on_reopened (machine rules) keeping batch x r kept d a b may may' some on.on left is base;
      runs = steps_reopened r kept ∙ ap (λ ss. ss ++ Reopens ∷ []) on.runs;
      quiet = append-nil _ ∙ closed_downs_more r.closed (stretch_of r kept) ∙ on.quiet;
      collected = (λ i. with_restart (is_moment i) (on.collected i))
          ∙ sym (grows_by_restart rules site x r kept none (kept_is d kept (on.on.images d kept left)));
    }

    -- changes stay in range, and so do the counts of the site
    pub script_count : a.up ≡ true → a.base.count + length a.pending ≤ length steps
    script_count up = omega (arith, on_count (machine rules) keeping batch x r a may on.on up, ap length on.runs)

    pub script_told : acknowledged_in c.items + (c.answered.replies + c.waiting.replies) ≤ length steps
    script_told = omega (
      arith,
      few_told rules site x r,
      ap (λ found. acknowledged_in found.items + (found.answered.replies + found.waiting.replies))
          on.collected,
      ap length on.runs,
    )

    pub script_made : c.answered.changes + c.waiting.changes ≤ length steps
    script_made = omega (
      arith,
      few_made rules site x r,
      ap (λ found. found.answered.changes + found.waiting.changes) on.collected,
      ap length on.runs,
    )

    -- what waits is the site's of what the agent holds
    pub script_waits : a.up ≡ true → c.waiting ≡ tally_of rules site a.held a.pending
    script_waits up = ap (λ found. found.waiting) on.collected ∙ waits_as_held rules site x r
        ∙ ap (λ s. tally_of rules site s.held s.pending) (sym (on.on.up up).1)

  -- the end: what waits is committed, and the last epoch is closed
  pub script_ends : (start : ℕ) (a : Agent) (may : May) (steps : List PlainStep) (c : Collected)
      → On (begins_at start) a may steps c → a.up ≡ true
      → (history_script rules site (begins_at start) (good_history rules batch start steps)).script.items
      ≡ c.items ++ closing a.world.rest.now (with_commit c) ∷ []
  script_ends start a may steps c on up =
      let x = begins_at start in
      let r = on.course in
      let quiet = none x a may steps c on in
      let history : History PlainAction = history_of (machine rules) keeping x true (answer_all r) in
      let good : IsGood rules batch start steps history = record {
        runs = record {
          admissible = ends_answered (machine rules) keeping batch x r a may quiet on.on;
          lines = steps_answered r ∙ on.runs;
          quiet = λ no_cuts. on.quiet;
        };
        ends = (quiet, refl);
      } in
      let moment : (world_on rules x (answer_all r)).rest.now ≡ a.world.rest.now =
      ap (λ ls. (world_after (machine rules) (begins (machine rules) keeping
      (last_opening (machine rules) keeping x r)) ls).rest.now) (append-nil (executed_lines r))
      ∙ sym (is_moment x a may steps c on) in
      ap (λ h. (history_script rules site x h).script.items) (sym (gives_the_only rules batch start steps history good))
      ∙ ends_with_script rules site x (answer_all r) true quiet
      ∙ (λ i. (with_restart (moment i) ((grows_by_commit rules site x r ∙ ap with_commit (sym on.collected)) i)).items)
