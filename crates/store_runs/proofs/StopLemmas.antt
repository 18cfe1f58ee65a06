-- What a run writes and leaves, where it ends or stops over an agent on a disk.
use Rattle.std.proofs.Common.{◌≡◌, ◌≢◌, ◌⊎◌, inl, inr, ⊎_elim, ℕ, ◌+◌, ◌<◌, ◌^◌, true, List, [], ◌∷◌, ◌++◌, Option, take, drop, length, get_or, append-nil, append_assoc, refl, sym, ap, subst, ◌∙◌, arith}
use Rattle.agent_base.proofs.Pieces.{takes_none}
use Rattle.unwinding.specs.Admissible.{History}
use Rattle.disk_model.specs.Disk.{View}
use Rattle.journal.specs.Region.{StandsForState}
use Rattle.suffix_list.specs.ListText.{RuleList}
use Rattle.suffix_list.specs.Suffix.{Rule}
use Rattle.script_actions.specs.Action.{PlainAction, PlainStep}
use Rattle.script_actions.specs.Plain.{step_of}
use Rattle.script_actions.specs.declared.step.Line.{Line}
use Rattle.durable_model.specs.Histories.{AgentOpening}
use Rattle.durable_model.specs.Keeping.{durable_of}
use Rattle.durable_model.specs.Migrate.{IsUnder}
use Rattle.durable_model.specs.Saved.{nothing_saved}
use Rattle.row_store.specs.Bodies as bodies
use Rattle.agent_core.specs.AgentView.{AgentView, list_of, may_find, may_of, since_opening}
use Rattle.agent_core.specs.Calls.{checkpoint_calls}
use Rattle.agent_core.specs.Means.{AgentMay}
use Rattle.agent_core.specs.Seen.{AgentSeen, IsSeen}
use Rattle.printed_model.specs.Histories.{IsHistoryOf}
use Rattle.agent_base.specs.Streams.{TakesPrefix}
use Rattle.store_runs.specs.Calls.{Called, IsQuiet, Settled, Stepped, Stops, ToldAt, Unsettled, over_call, over_run}
use Rattle.store_runs.specs.Closing.{Closes, Ends, EndsWith, Spends}
use Rattle.store_runs.specs.Courses.{Leaves, Marks, OnCourse, Steps, Watch}
use Rattle.store_runs.specs.CutBounds.{MeetsToldCuts, fault_places}
use Rattle.store_runs.specs.CutCourses.{moment_of}
use Rattle.store_runs.specs.Disks.{LeavesDisk}
use Rattle.store_runs.specs.Faults.{RoseBy, faults_of}
use Rattle.store_runs.specs.Fronts.{LeavesCount}
use Rattle.store_runs.specs.Openings.{GoesOn, IsJustOpened, calls_before}
use Rattle.store_runs.specs.Runs.{HasNoCuts, LeavesHistory, Ran, Stopped, WritesLines}
use Rattle.store_runs.specs.Steps.{steps_of}
use Rattle.store_runs.specs.Waiting.{Ended}
use Rattle.waiting_lines.specs.Waiting.{TakesFront}
use Rattle.store_runs.specs.declared.ending.Ending.{Ending}
use Rattle.store_runs.specs.declared.ending.Ending.TheVariants.{Done, Device, Store, Write, Memory}
use Rattle.store_runs.proofs.LoopLemmas.{course_closes, course_ends, course_fits, course_memory, course_more, course_stopped, course_written, steps_fit, steps_more, steps_parts}
use Rattle.store_runs.proofs.AgentLemmas.{owes_some}
use Rattle.store_runs.proofs.EndLemmas.{ended_done}

-- ---- the same run by other words for a disk without cuts, and for what is left

module _ (rules : List Rule) (batch checkpoint : ℕ) (x : AgentOpening) (P Q : Type 0)
    (L M : List PlainStep → History PlainAction → Type 0) (how : P → Q)
    (left : (rest : List PlainStep) (h : History PlainAction) → L rest h → M rest h)
    (before after : Option (List ℕ)) where
  quieter : (steps : List PlainStep) (history : History PlainAction)
      → IsHistoryOf rules batch x Q steps history → IsHistoryOf rules batch x P steps history
  quieter steps history is = record { admissible = is.admissible; lines = is.lines; quiet = λ p. is.quiet (how p) }

  abbrev other_ran : (steps : List PlainStep) → Ran rules batch x Q steps before after L
      → Ran rules batch x P steps before after M
  other_ran steps ran = record {
    history = ran.history;
    «is» = quieter steps ran.history ran.«is»;
    text =
        ran.text;
    left = left [] ran.history ran.left;
  }

  other_stopped : (steps : List PlainStep) → Stopped rules batch x Q steps before after L
      → Stopped rules batch x P steps before after M
  other_stopped steps ran = record {
    front = ran.front;
    rest = ran.rest;
    parts = ran.parts;
    history = ran.history;
    «is» = quieter ran.front ran.history ran.«is»;
    whole = ran.whole;
    text = ran.text;
    left = left ran.rest ran.history ran.left;
  }

  pub writes_other : (ending : Ending) (steps : List PlainStep)
      → WritesLines ending rules batch checkpoint x Q steps before after L
      → WritesLines ending rules batch checkpoint x P steps before after M
  writes_other Done steps written = (other_ran steps written.0, written.1)
  writes_other Device steps written = (other_ran steps written.0, written.1, λ none. written.2 (how none))
  writes_other (Store why) steps written = written
  writes_other Write steps written = other_stopped steps written
  writes_other Memory steps written = other_stopped steps written

-- ---- the files that are left

-- what a cut leaves of the disk is a store for a state that the history leaves
left_files : {D : Type 0} (v : AgentView D) (view : View) (b : AgentSeen) (list : RuleList) (batch : ℕ)
    (x : AgentOpening) (rest : List PlainStep) (history : History PlainAction) → view.tells ≡ true → IsSeen v view b
    → v.memory.rules ≡ list.rules → v.journal.digest ≡ list.digest
    → Leaves list.rules batch x (may_of v view) rest history → LeavesHistory list batch x view.may_leave rest history
unfolding may_find
left_files v view b list batch x rest history told seen is_rules is_digest leaves file image =
    let store = (seen.stores told file image).1 in (
      store.0,
      store.1,
      subst (λ digest. StandsForState bodies.Takes nothing_saved digest file store.0 store.1) is_digest store.2,
      subst (λ rules. IsUnder rules store.0) is_rules store.3,
      leaves (durable_of store.0) (since_opening store.1 v.opened) (file, image, store.0, store.1, store.2, refl, refl),
    )

-- what a run leaves of its disk, whose images are known where it tells its contents
abbrev pub LeavesIfTold : Ending → RuleList → (batch : ℕ) → AgentOpening → (before : ℕ)
    → (old new : View) → (rest : List PlainStep) → History PlainAction → Type 0
LeavesIfTold ending list batch x before old new rest history =
    (new.tells ≡ true → LeavesHistory list batch x new.may_leave rest history)
    × RoseBy (faults_of ending history) old.faults new.faults
    × MeetsToldCuts before old.cuts old.off (fault_places list.rules batch ending x history)

-- so a run leaves what it leaves to a restart, and the count of its disk
pub writes_files : {D : Type 0} (v : AgentView D) (old view : View) (b : AgentSeen) (list : RuleList)
    (batch checkpoint : ℕ) (x : AgentOpening) (calls due : ℕ) (Quiet : Type 0) (steps : List PlainStep)
    (before after : Option (List ℕ)) (ending : Ending)
    → IsSeen v view b → v.memory.rules ≡ list.rules → v.journal.digest ≡ list.digest
    → WritesLines ending list.rules batch checkpoint x Quiet steps before after
    (Marks list.rules batch x (may_of v view) ending old.faults view.faults
    (record { cuts = old.cuts; calls = calls; off = old.off; due = due }))
    → WritesLines ending list.rules batch checkpoint x Quiet steps before after
    (LeavesIfTold ending list batch x (calls + due) old view)
writes_files v old view b list batch checkpoint x calls due Quiet steps before after ending seen is_rules is_digest written =
    writes_other list.rules batch checkpoint x Quiet Quiet
    (Marks list.rules batch x (may_of v view) ending old.faults view.faults
    (record { cuts = old.cuts; calls = calls; off = old.off; due = due }))
    (LeavesIfTold ending list batch x (calls + due) old view) (λ q. q)
    (λ rest history marks. (
      (λ told. left_files v view b list batch x rest history told seen is_rules is_digest marks.0),
      marks.1,
      marks.2,
    )) before after ending steps written

-- ---- where a run stands

-- what lines do under these rules and in batches of so many, by equal ones
steps_under : (rules mine : List Rule) (batch size : ℕ) (ran : List PlainStep) (watch : Watch) (a : AgentSeen)
    (may : AgentMay) (b : AgentSeen) (may' : AgentMay) (text : List ℕ) → mine ≡ rules → size ≡ batch
    → Steps mine size ran watch a may b may' text → Steps rules batch ran watch a may b may' text
steps_under rules mine batch size ran watch a may b may' text is_rules is_batch steps =
    subst (λ n. Steps rules n ran watch a may b may' text) is_batch
    (subst (λ rs. Steps rs size ran watch a may b may' text) is_rules steps)

-- the lines that ran and the rest, where a run stopped at a line
stop_parts : (all before left ran : List PlainStep) (step : PlainStep) → all ≡ (before ++ step ∷ []) ++ left
    → (ran ≡ []) ⊎ (ran ≡ step ∷ []) → (rest : List PlainStep) × (all ≡ (before ++ ran) ++ rest)
stop_parts all before left ran step parts (inl none) = (
  step ∷ left,
  parts ∙ append_assoc before (step ∷ []) left
      ∙ ap (λ ss. ss ++ step ∷ left) (sym (append-nil before) ∙ ap (λ rs. before ++ rs) (sym none)),
)
stop_parts all before left ran step parts (inr one) = (left, parts ∙ ap (λ rs. (before ++ rs) ++ left) (sym one))

-- a line and those in front of it
pub steps_with : (lines : List Line) (i : ℕ) (item : Line) → i < length lines → item ≡ get_or lines i item
    → steps_of (take (i + 1) lines) ≡ steps_of (take i lines) ++ step_of item.step ∷ []
steps_with lines i item within is_item = steps_more lines i item within
    ∙ ap (λ (l : Line). steps_of (take i lines) ++ step_of l.step ∷ []) (sym is_item)

-- what a run changes neither in one part of it nor in the next
pub goes_then : {D : Type 0} (tell : D → View) (first old new : AgentView D) → GoesOn tell first old
    → GoesOn tell old new → GoesOn tell first new
goes_then tell first old new was goes = record {
  rules = goes.rules ∙ was.rules;
  digest = goes.digest ∙ was.digest;
  batch = goes.batch ∙ was.batch;
  checkpoint = goes.checkpoint ∙ was.checkpoint;
  tells = goes.tells ∙ was.tells;
}

-- a run of an agent that was just opened
module _ {D : Type 0} (tell : D → View) (agent : AgentView D) (x : AgentOpening) (first : Option (List ℕ)) where
  -- what is known of faults so far
  abbrev watched : AgentView D → Type 0 → Watch
  watched v GoesOn = over_run tell agent v GoesOn

  -- the agent, as it is now, stands on a course of these lines
  abbrev pub StandsOn : AgentView D → List PlainStep → Option (List ℕ) → List ℕ → Type 0
  StandsOn v ran out waiting =
      (b : AgentSeen) × IsSeen v (tell v.disk) b × (HasNoCuts (tell agent.disk) → IsQuiet b (tell v.disk))
      × OnCourse agent.memory.rules agent.batch x b (may_of v (tell v.disk)) ran (watched v (Unit {0})) first out waiting

  -- what a run of these lines wrote and left that ended so
  abbrev pub Wrote : List PlainStep → Ending → Option (List ℕ) → AgentView D → Type 0
  Wrote all ending later v =
      WritesLines ending agent.memory.rules agent.batch agent.checkpoint x (HasNoCuts (tell agent.disk))
      all first later (LeavesIfTold ending (list_of agent) agent.batch x (calls_before agent (tell agent.disk))
      (tell agent.disk) (tell v.disk))

  -- where the disk tells its contents
  pub told_wrote : (all : List PlainStep) (ending : Ending) (later : Option (List ℕ)) (v : AgentView D)
      → (tell v.disk).tells ≡ true → Wrote all ending later v
      → WritesLines ending agent.memory.rules agent.batch agent.checkpoint x (HasNoCuts (tell agent.disk))
      all first later (LeavesDisk ending (list_of agent) agent.batch x (calls_before agent (tell agent.disk))
      (tell agent.disk) (tell v.disk))
  told_wrote all ending later v told wrote =
      writes_other agent.memory.rules agent.batch agent.checkpoint x (HasNoCuts (tell agent.disk)) (HasNoCuts (tell agent.disk))
      (LeavesIfTold ending (list_of agent) agent.batch x (calls_before agent (tell agent.disk)) (tell agent.disk) (tell v.disk))
      (LeavesDisk ending (list_of agent) agent.batch x (calls_before agent (tell agent.disk)) (tell agent.disk) (tell v.disk))
      (λ q. q) (λ rest history left. (left.0 told, left.1, left.2)) first later ending all wrote

  -- and where it may tell nothing
  pub count_wrote : (all : List PlainStep) (ending : Ending) (later : Option (List ℕ)) (v : AgentView D)
      → Wrote all ending later v
      → WritesLines ending agent.memory.rules agent.batch agent.checkpoint x (HasNoCuts (tell agent.disk))
      all first later (LeavesCount ending (tell agent.disk) (tell v.disk))
  count_wrote all ending later v wrote =
      writes_other agent.memory.rules agent.batch agent.checkpoint x (HasNoCuts (tell agent.disk)) (HasNoCuts (tell agent.disk))
      (LeavesIfTold ending (list_of agent) agent.batch x (calls_before agent (tell agent.disk)) (tell agent.disk) (tell v.disk))
      (LeavesCount ending (tell agent.disk) (tell v.disk)) (λ q. q) (λ rest history left. left.1) first later ending all wrote

  module _ (opened : IsJustOpened agent (tell agent.disk) x) where
    -- by what it leaves to a restart
    pub files_written : (v : AgentView D) → GoesOn tell agent v → (b : AgentSeen) → IsSeen v (tell v.disk) b
        → (all : List PlainStep) (ending : Ending) (later : Option (List ℕ))
        → WritesLines ending agent.memory.rules agent.batch agent.checkpoint x (HasNoCuts (tell agent.disk))
        all first later (Marks agent.memory.rules agent.batch x (may_of v (tell v.disk)) ending
        (tell agent.disk).faults (tell v.disk).faults (moment_of tell agent)) → Wrote all ending later v
    files_written v goes b seen all ending later written =
        writes_files v (tell agent.disk) (tell v.disk) b (list_of agent) agent.batch agent.checkpoint x
        (tell agent.disk).changing (checkpoint_calls agent)
        (HasNoCuts (tell agent.disk)) all first later ending seen goes.rules goes.digest written

    module _ (old : AgentView D) (was : GoesOn tell agent old) (ran : List PlainStep)
        (few : length ran + 1 < 2 ^ 64) (out : Option (List ℕ)) (waiting : List ℕ) (stands : StandsOn old ran out waiting) where
      some_lines : 0 < old.batch
      some_lines = subst (λ n. 0 < n) (sym was.batch) opened.batch

      -- it goes on by a call
      called_on : (new : AgentView D) (Told GoesOn : Type 0) (more : List PlainStep) (text : List ℕ)
          → Told → Called tell old new Told GoesOn more text
          → (b : AgentSeen) × IsSeen new (tell new.disk) b × (GoesOn → HasNoCuts (tell agent.disk) → IsQuiet b (tell new.disk))
          × OnCourse agent.memory.rules agent.batch x b (may_of new (tell new.disk)) (ran ++ more)
          (watched new GoesOn) first out (waiting ++ text)
      called_on new Told GoesOn more text told called =
          let a = stands.0 in
          let may = may_of old (tell old.disk) in
          let fits = course_fits agent.memory.rules agent.batch x (watched old (Unit {0}))
          a may ran first out waiting stands.3 few in
          let all = called told some_lines a stands.1 fits in
          let line = steps_under agent.memory.rules old.memory.rules agent.batch old.batch more
          (over_call tell a old new GoesOn) a may all.0 (may_of new (tell new.disk))
          text was.rules was.batch all.2 in (
            all.0,
            all.1,
            (λ goes none. all.3 goes (stands.2 none)),
            course_more agent.memory.rules agent.batch x (watched old (Unit {0})) more
                (IsQuiet a (tell old.disk)) GoesOn (tell new.disk).faults (moment_of tell new) a all.0 may
                (may_of new (tell new.disk)) ran first out waiting (waiting ++ text) text stands.2 tt stands.3 line refl,
          )

      -- some of what waits was written
      written_on : (later : Option (List ℕ)) (rest : List ℕ) → TakesFront out later waiting rest → StandsOn old ran later rest
      written_on later rest took = (
        stands.0,
        stands.1,
        stands.2,
        course_written agent.memory.rules agent.batch x (watched old (Unit {0})) stands.0
            (may_of old (tell old.disk)) ran first out waiting stands.3 later rest took,
      )

      -- writing what waits failed
      write_failed : (all rest : List PlainStep) (later : Option (List ℕ)) → all ≡ ran ++ rest
          → TakesPrefix out later waiting → Wrote all Write later old
      write_failed all rest later parts took =
          files_written old was stands.0 stands.1 all Write later
          (course_stopped agent.memory.rules agent.batch x (watched old (Unit {0})) stands.0
          (may_of old (tell old.disk)) ran first out waiting stands.3 agent.checkpoint all rest later parts took)

      -- the run stopped for want of memory
      memory_stopped : (new : AgentView D) → GoesOn tell old new → (Told : Type 0) (more : List PlainStep) (text : List ℕ)
          → Told → Called tell old new Told ⊥ more text → (all rest : List PlainStep) (later : Option (List ℕ))
          (answered : Ending) (count rose : ℕ) → all ≡ (ran ++ more) ++ rest
          → Ended Memory answered out later count rose waiting → Wrote all answered later new
      memory_stopped new goes Told more text told called all rest later answered count rose parts ended =
          let on = called_on new Told ⊥ more text told called in
          files_written new (goes_then tell agent old new was goes) on.0 on.1 all answered later
          (course_memory agent.memory.rules agent.batch x (watched new ⊥) on.0 (may_of new (tell new.disk))
          (ran ++ more) first out (waiting ++ text)
          on.3 agent.checkpoint all rest later waiting text answered count rose parts refl ended)

    -- ---- a line

    module _ (old new : AgentView D) (was : GoesOn tell agent old) (goes : GoesOn tell old new)
        (lines : List Line) (fits : length lines + 2 < 2 ^ 64) (i : ℕ) (item : Line)
        (within : i < length lines) (is_item : item ≡ get_or lines i item)
        (told : ToldAt (step_of item.step) (tell old.disk)) (out : Option (List ℕ)) (waiting : List ℕ) (stands : StandsOn old (steps_of (take i lines)) out waiting) where
      -- it ran
      pub stepped_on : (now : List ℕ) → Stepped tell old new (step_of item.step) waiting now
          → StandsOn new (steps_of (take (i + 1) lines)) out now
      stepped_on now (text, waits, called) =
          let on = called_on old was (steps_of (take i lines))
          (steps_fit lines i (omega (arith, within)) fits) out waiting stands new
          (ToldAt (step_of item.step) (tell old.disk)) (Unit {0}) (step_of item.step ∷ []) text told called in
          let steps : steps_of (take i lines) ++ step_of item.step ∷ [] ≡ steps_of (take (i + 1) lines) =
          sym (steps_with lines i item within is_item) in (
            on.0,
            on.1,
            on.2 tt,
            subst (λ ss. OnCourse agent.memory.rules agent.batch x on.0 (may_of new (tell new.disk)) ss
                (watched new (Unit {0})) first out now) steps
                (subst (OnCourse agent.memory.rules agent.batch x on.0 (may_of new (tell new.disk))
                (steps_of (take i lines) ++ step_of item.step ∷ []) (watched new (Unit {0})) first out) (sym waits) on.3),
          )

      -- the run stops at it, of lines with more behind it or without
      pub stops_writes : (all left : List PlainStep) → all ≡ (steps_of (take i lines) ++ step_of item.step ∷ []) ++ left
          → (asked answered : Ending) (later : Option (List ℕ)) (count rose : ℕ)
          → Stops tell old new (step_of item.step) asked → Ended asked answered out later count rose waiting
          → Wrote all answered later new
      stops_writes all left parts Memory answered later count rose (ran, one, (text, called)) ended =
          let ran_parts = stop_parts all (steps_of (take i lines)) left ran (step_of item.step) parts one in
          memory_stopped old was (steps_of (take i lines)) (steps_fit lines i (omega (arith, within)) fits)
          out waiting stands new goes (ToldAt (step_of item.step) (tell old.disk)) ran text told called
          all ran_parts.0 later answered count rose ran_parts.1 ended
      stops_writes all left parts (Store why) answered later count rose stops ended =
          absurd (stops.1 told stands.0 stands.1)
      stops_writes all left parts Done answered later count rose stops ended = absurd stops
      stops_writes all left parts Device answered later count rose stops ended = absurd stops
      stops_writes all left parts Write answered later count rose stops ended = absurd stops

    -- ---- between two lines

    module _ (old new : AgentView D) (was : GoesOn tell agent old) (goes : GoesOn tell old new)
        (ran : List PlainStep) (few : length ran + 1 < 2 ^ 64) (out later : Option (List ℕ)) (count rose : ℕ)
        (waiting : List ℕ) (stands : StandsOn old ran out waiting) where
      -- the run goes on
      pub settled_on : (rest : List ℕ) → Settled tell old new out later count rose waiting rest → StandsOn new ran later rest
      settled_on rest (took, same, called) =
          let on = called_on old was ran few later rest
          (written_on old was ran few out waiting stands later rest took) new (Unit {0}) (Unit {0}) [] [] tt called in (
            on.0,
            on.1,
            on.2 tt,
            subst (λ ss. OnCourse agent.memory.rules agent.batch x on.0 (may_of new (tell new.disk)) ss
                (watched new (Unit {0})) first later rest) (append-nil ran)
                (subst (OnCourse agent.memory.rules agent.batch x on.0 (may_of new (tell new.disk))
                (ran ++ []) (watched new (Unit {0})) first later) (append-nil rest) on.3),
          )

      -- or it stops
      pub unsettled_writes : (all rest : List PlainStep) → all ≡ ran ++ rest → (ending : Ending)
          → Unsettled tell old new out later count rose waiting ending → Wrote all ending later new
      unsettled_writes all rest parts Write (took, fault, same) =
          subst (Wrote all Write later) (sym same) (write_failed old was ran few out waiting stands all rest later parts took)
      unsettled_writes all rest parts Memory (took, same, called) =
          let front : TakesFront out later waiting [] = (waiting, (took, sym (append-nil waiting))) in
          memory_stopped old was ran few later [] (written_on old was ran few out waiting stands later []
          front) new goes (Unit {0}) [] [] tt called all rest later Memory count rose
          (parts ∙ ap (λ ss. ss ++ rest) (sym (append-nil ran))) (inl (refl, (takes_none later, same)))
      unsettled_writes all rest parts Done stops = absurd stops
      unsettled_writes all rest parts Device stops = absurd stops
      unsettled_writes all rest parts (Store why) stops = absurd stops

    -- ---- behind the last line

    module _ (old here new : AgentView D) (was : GoesOn tell agent old) (goes : GoesOn tell old here)
        (then : GoesOn tell here new) (ran : List PlainStep) (out later : Option (List ℕ)) (count rose : ℕ)
        (waiting waits : List ℕ) (stands : StandsOn old ran out waiting) where
      pub closes_writes : (asking asked answered : Ending) → Ends tell old here asking waiting waits
          → Ended asking asked out later count rose waits → Closes tell here new asked answered → Wrote ran answered later new
      closes_writes asking asked answered ends ended closes =
          let a = stands.0 in
          let all = ends a stands.1 in
          let with_rules = subst (λ rs. EndsWith rs a all.0 (may_of old (tell old.disk))
          (may_of here (tell here.disk)) (tell old.disk) (tell here.disk) asking waiting waits) was.rules all.2 in
          let gone = goes_then tell agent old here was goes in
          let first_end : Wrote ran asked later here =
          files_written here gone all.0 all.1 ran asked later
          (course_ends agent.memory.rules agent.batch x (watched old (Unit {0})) a
          (may_of old (tell old.disk)) ran first out waiting stands.3 agent.checkpoint all.0
          (may_of here (tell here.disk)) (tell old.disk) (tell here.disk) (moment_of tell here) asking asked waits later
          count rose refl tt stands.2 with_rules all.3 all.4 ended) in
          ⊎_elim
          (λ same. subst (λ e. Wrote ran e later new) (sym same.0) (subst (Wrote ran asked later) (sym same.1) first_end))
          (λ last.
          let done = ended_done asking asked out later count rose waits ended last.0 in
          let some : agent.checkpoint ≢ 0 = subst (λ n. n ≢ 0) gone.checkpoint (owes_some here last.1) in
          let more = last.3 all.0 all.1 in
          let checkpoint_rules = subst (λ rs. EndsWith rs all.0 more.0 (may_of here (tell here.disk))
          (may_of new (tell new.disk)) (tell here.disk) (tell new.disk) answered [] []) gone.rules more.2 in
          files_written new (goes_then tell agent here new gone then) more.0 more.1 ran answered later
          (course_closes agent.memory.rules agent.batch x (watched old (Unit {0})) a
          (may_of old (tell old.disk)) ran first out waiting stands.3 agent.checkpoint some all.0 more.0
          (may_of here (tell here.disk)) (may_of new (tell new.disk)) (tell old.disk) (tell here.disk)
          (tell new.disk) waits later refl stands.2
          (subst (λ e. EndsWith agent.memory.rules a all.0 (may_of old (tell old.disk))
          (may_of here (tell here.disk)) (tell old.disk) (tell here.disk) e waiting waits)
          done.0 with_rules) all.3 more.3 done.1 tt (moment_of tell here) (moment_of tell new)
          (subst (λ e. Spends e a (moment_of tell old) (moment_of tell here)) done.0 all.4) answered checkpoint_rules more.4))
          closes
