-- What each answer of an agent makes of the text that waits and of every course.
use Rattle.std.proofs.Common.{◌≡◌, ◌≢◌, ◌⊎◌, inl, inr, ⊎_elim, ℕ, zero, suc, ◌+◌, ◌<◌, ◌≤◌, Bool, true, false, List, [], ◌∷◌, ◌++◌, Some, map, length, refl, sym, ap, subst, ◌∙◌, append-nil, arith, Vec, Global}
use Rattle.std.proofs.lemmas.Bool.{and_parts, and_right, cases_Bool, eqb-true, false≢true, true≢false}
use Rattle.std.proofs.lemmas.List.{nil_from_length}
use Rattle.std.specs.Prelude.{Result, Ok, Err, IfErr, IsErrAnd, ◌==◌, ◌&&◌, if◌then◌else◌}
use Rattle.unwinding.specs.Admissible.{Acts, Reopens}
use Rattle.unwinding.specs.CourseSteps.{holding, reopened}
use Rattle.disk_model.specs.Disk.{HasFailed, IsNextCut, Makes, View, WasOff}
use Rattle.journal.specs.Opening.{HasNoFault}
use Rattle.journal.specs.declared.open_fault.OpenFault.{OpenFault}
use Rattle.journal.specs.declared.open_fault.OpenFault.TheVariants as fault
use Rattle.suffix_list.specs.Suffix.{Rule}
use Rattle.script_actions.specs.Action.{PlainAction, PlainStep}
use Rattle.reply_lines.specs.Plain.{reply_of}
use Rattle.reply_lines.specs.Reply.{PlainReply, reply_text}
use Rattle.reply_lines.specs.declared.reply.Reply.{Reply}
use Rattle.agent_model.specs.Isolation.{printed, text_of}
use Rattle.agent_model.specs.TheMachine.{machine}
use Rattle.durable_model.specs.Histories.{AgentReply}
use Rattle.durable_model.specs.Keeping.{AgentDurable, keeping}
use Rattle.agent_core.specs.AgentView.{AgentView, is_due, is_up, may_of, owes}
use Rattle.agent_core.specs.Calls.{IsIdle, IsTidy, OutcomeDevice, RestartDevice, calls_by, checkpoint_calls, flush_calls}
use Rattle.agent_core.specs.Means.{AgentMay, Fits, FlushMeans, LineMeans, RestartMeans, after_commit, after_line}
use Rattle.agent_core.specs.Seen.{AgentSeen, IsSeen}
use Rattle.agent_core.specs.declared.agent.Power.{Power}
use Rattle.agent_core.specs.declared.agent.Power.TheVariants.{Up, Down as PowerDown, Spoilt}
use Rattle.agent_core.specs.declared.outcome.Outcome.{Outcome}
use Rattle.agent_core.specs.declared.outcome.Outcome.TheVariants.{Replies, Held, Down, NoMemory}
use Rattle.store_runs.specs.Courses.{Steps}
use Rattle.store_runs.specs.CutCourses.{moment_of}
use Rattle.store_runs.specs.Calls.{BreaksOff, Called, FailsAgain, IsQuiet, OpensAgain, Pays, StaysOrRose, Stops, ToldAt, over_call, spent}
use Rattle.store_runs.specs.Moments.{StopsBefore}
use Rattle.store_runs.specs.Closing.{Ends}
use Rattle.printed_model.specs.Histories.{down_reply, restart_reply}
use Rattle.store_runs.specs.Waiting.{replies_text}
use Rattle.store_runs.specs.Endings.{ending_of}
use Rattle.store_runs.specs.declared.ending.Ending.{Ending}
use Rattle.store_runs.specs.declared.ending.Ending.TheVariants.{Done, Device, Memory, Store, Write}
use Rattle.store_runs.proofs.CourseLemmas.{checkpoint_failed, checkpoint_made, down_line, down_restart, held_line, nothing_stands, replied_line, restart_line, same_stands, spoilt_stands, up_after_commit}
use Rattle.store_runs.proofs.TextLemmas.{text_nothing, text_printed}

-- ---- a disk that cannot fail

pub off_or_cut : (old new : View) → old.off ≡ false → old.cuts ≡ Some [] → HasFailed old new → ⊥
off_or_cut old new on none (inl was) = true≢false (sym was.before ∙ on)
off_or_cut old new on none (inr failed) = no_cut old new none failed.cut
  where
    no_cut : (old new : View) → old.cuts ≡ Some [] → IsNextCut old.cuts new.cuts new.changing → ⊥
    no_cut old new none cut = subst (λ c. IsNextCut c new.cuts new.changing) none cut

never_fails : (a : AgentSeen) (old new : View) → IsQuiet a old → HasFailed old new → ⊥
never_fails a old new quiet failed = off_or_cut old new quiet.1 quiet.2 failed

never_reopens : (a : AgentSeen) (old new : View) → IsQuiet a old → WasOff old new ⊎ IsNextCut old.cuts new.cuts new.changing → ⊥
never_reopens a old new quiet (inl was) = true≢false (sym was.before ∙ quiet.1)
never_reopens a old new quiet (inr cut) = subst (λ c. IsNextCut c new.cuts new.changing) quiet.2 cut

stays_quiet : (a b : AgentSeen) (old new : View) → b.up ≡ true → HasNoFault old new → IsQuiet a old → IsQuiet b new
stays_quiet a b old new up none quiet = (up, none.off ∙ quiet.1, none.cuts ∙ quiet.2)

up_after_line : (rules : List Rule) (a : AgentSeen) (l : PlainAction) → (after_line rules a l).up ≡ true
unfolding holding
up_after_line rules a l = refl

-- an outcome that is not `Down`
abbrev is_down : Outcome → Type 0
is_down (Replies given) = ⊥
is_down Held = ⊥
is_down Down = Unit {0}
is_down NoMemory = ⊥

-- replies are none
pub replies_down : (given : Vec Reply Global) → Replies given ≡ Down → ⊥
replies_down given e = cc

pub not_down : (o : Outcome) → (is_down o → ⊥) → o ≡ Down → ⊥
not_down o other same = other (subst is_down (sym same) tt)

-- ---- what an answer says of lines and of their text

-- a call after which the run goes on
abbrev pub goes_on : Outcome → Type 0
goes_on (Replies given) = Unit {0}
goes_on Held = Unit {0}
goes_on Down = Unit {0}
goes_on NoMemory = ⊥

-- the lines that ran, and their text
abbrev pub line_ran : PlainAction → Outcome → List PlainStep
line_ran l (Replies given) = Acts l ∷ []
line_ran l Held = Acts l ∷ []
line_ran l Down = Acts l ∷ []
line_ran l NoMemory = []

abbrev pub line_text : PlainAction → Outcome → List ℕ
line_text l (Replies given) = replies_text (map reply_of given.items)
line_text l Held = []
line_text l Down = reply_text (printed (down_reply (Acts l)))
line_text l NoMemory = []

abbrev pub restart_goes_on : Result ℕ OpenFault → Type 0
restart_goes_on (Ok kept) = Unit {0}
restart_goes_on (Err fault.DeviceFault) = Unit {0}
restart_goes_on (Err other) = ⊥

abbrev pub restart_ran : Result ℕ OpenFault → List PlainStep
restart_ran (Ok kept) = Reopens ∷ []
restart_ran (Err fault.DeviceFault) = Reopens ∷ []
restart_ran (Err other) = []

abbrev pub restart_text : Result ℕ OpenFault → List ℕ
restart_text (Ok kept) = reply_text (printed (restart_reply kept))
restart_text (Err fault.DeviceFault) = reply_text (printed (down_reply Reopens))
restart_text (Err other) = []

-- a restart that found the store met no fault
restart_cuts : (kept : ℕ) (old new : View) → RestartDevice (Ok kept) old new → new.cuts ≡ old.cuts
restart_cuts kept old new device = ⊎_elim (λ wrong. absurd (opened wrong)) (λ none. none.2) device.others
  where
    opened : ◌≡◌ {A = Result ℕ OpenFault} (Ok kept) (Err fault.DeviceFault) → ⊥
    opened e = cc

up_reopened : (rules : List Rule) (a : AgentSeen) (d : AgentDurable) → (reopened (machine rules) keeping a.world.rest d).up ≡ true
unfolding reopened
up_reopened rules a d = refl

-- a disk whose agent stays as it is where it is not up goes on telling
pub tells_still : {D : Type 0} (tell : D → View) (old new : AgentView D) (power : Power) → old.power ≡ power
    → (old.power ≡ Up → (tell new.disk).tells ≡ (tell old.disk).tells) → ((old.power ≡ Up → ⊥) → new ≡ old)
    → (tell new.disk).tells ≡ (tell old.disk).tells
tells_still tell old new Up is up off = up is
tells_still tell old new PowerDown is up off = ap (λ v. (tell v.disk).tells) (off (λ e. down_up (sym is ∙ e)))
  where
    down_up : PowerDown ≡ Up → ⊥
    down_up e = cc
tells_still tell old new Spoilt is up off = ap (λ v. (tell v.disk).tells) (off (λ e. spoilt_up (sym is ∙ e)))
  where
    spoilt_up : Spoilt ≡ Up → ⊥
    spoilt_up e = cc

-- a `?` that hands want of memory on stops the run
pub wanting_stops : {T : Type 0} (r : Result T Ending) (P : Ending → Type 0) → IsErrAnd r (λ e. e ≡ Memory) → P Memory → IfErr r P
wanting_stops (Ok x) P err stops = absurd err
wanting_stops (Err e) P err stops = subst P (sym err) stops

-- ---- counts of faults

device_counts : {most : ℕ} (outcome : Outcome) (old new : View) → OutcomeDevice most outcome old new
    → StaysOrRose old.faults new.faults
device_counts (Replies given) old new device = inl (device.others (not_down (Replies given) (λ wrong. wrong))).faults
device_counts Held old new device = inl (device.others (not_down Held (λ wrong. wrong))).faults
device_counts Down old new device = inr (device.down refl).0
device_counts NoMemory old new device = inl (device.others (not_down NoMemory (λ wrong. wrong))).faults

restart_counts : (result : Result ℕ OpenFault) (old new : View) → RestartDevice result old new → StaysOrRose old.faults new.faults
restart_counts result old new device = ⊎_elim (λ is. inr (device.counted is)) (λ none. inl none.0) device.others

-- ---- calls that were made, and are due

next_cut : (old new : View) → old.off ≡ false → HasFailed old new → IsNextCut old.cuts new.cuts new.changing
next_cut old new on (inl was) = absurd (true≢false (sym was.before ∙ on))
next_cut old new on (inr failed) = failed.cut

pub due_few : {D : Type 0} (v : AgentView D) → checkpoint_calls v ≤ 7
due_few v = by (is_due v.checkpoint v.journal)
  where
    by : (due : Bool) → (if due then 7 else 0) ≤ 7
    by true = omega arith
    by false = omega arith

due_none : {D : Type 0} (v : AgentView D) → is_due v.checkpoint v.journal ≡ false → checkpoint_calls v ≡ 0
due_none v none = ap (λ due. if due then 7 else 0) none

none_or_some : (n : ℕ) → (n ≡ 0) ⊎ (0 < n)
none_or_some zero = inl refl
none_or_some (suc n) = inr (omega arith)

module _ {D : Type 0} (tell : D → View) (old new : AgentView D) where
  idle_due : IsIdle old (tell old.disk) new (tell new.disk) → checkpoint_calls new ≡ checkpoint_calls old
  idle_due idle = ap (λ due. if due then 7 else 0) idle.due

  -- nothing was called
  still_moment : new ≡ old → moment_of tell new ≡ moment_of tell old
  still_moment same = ap (moment_of tell) same

  module _ {most : ℕ} (outcome : Outcome) (device : OutcomeDevice most outcome (tell old.disk) (tell new.disk))
      (changes : ℕ) where
    -- no call failed, and the calls follow from these changes
    pays : (outcome ≡ Down → ⊥) → checkpoint_calls new + (tell new.disk).changing
        ≤ (tell old.disk).changing + checkpoint_calls old + spent changes → Pays changes (moment_of tell old) (moment_of tell new)
    pays none few =
        let fine = device.others none in
        record { cuts = fine.cuts; off = fine.off; later = device.later; most = omega (arith, few) }

    -- a commit's
    pays_commit : most ≤ 4 → (outcome ≡ Down → ⊥) → (changes ≡ 0 → IsIdle old (tell old.disk) new (tell new.disk))
        → Pays changes (moment_of tell old) (moment_of tell new)
    pays_commit four none idle = pays none (⊎_elim
        (λ nothing. omega (arith, (idle nothing).calls, idle_due (idle nothing)))
        (λ some. omega (arith, four, device.calls, due_few new, some))
        (none_or_some changes))

    -- a call was cut
    breaks : outcome ≡ Down → (tell new.disk).changing ≤ (tell old.disk).changing + checkpoint_calls old + spent changes
        → BreaksOff changes (moment_of tell old) (moment_of tell new)
    breaks is few = record {
      cut = λ on. next_cut (tell old.disk) (tell new.disk) on (device.down is).1;
      later = device.later;
      most = omega (arith, few);
    }

    breaks_commit : most ≤ 4 → outcome ≡ Down → (changes ≡ 0 → IsIdle old (tell old.disk) new (tell new.disk))
        → BreaksOff changes (moment_of tell old) (moment_of tell new)
    breaks_commit four is idle = breaks is (⊎_elim
        (λ nothing. omega (arith, (idle nothing).calls))
        (λ some. omega (arith, four, device.calls, some))
        (none_or_some changes))

  -- the calls of a flush: with nothing held a checkpoint's, and else a commit's
  module _ (outcome : Outcome) (device : OutcomeDevice (flush_calls old) outcome (tell old.disk) (tell new.disk))
      (changes : ℕ) (idle : changes ≡ 0 → (old.held ≡ [] → ⊥) → IsIdle old (tell old.disk) new (tell new.disk)) where
    checkpoint_few : old.held ≡ [] → (tell new.disk).changing ≤ (tell old.disk).changing + checkpoint_calls old
    checkpoint_few none = omega (arith, device.calls, ap (λ held. calls_by held (checkpoint_calls old)) none)

    commit_few : (one : PlainReply) (held : List PlainReply) → old.held ≡ one ∷ held → flush_calls old ≤ 4
    commit_few one held some = omega (arith, ap (λ h. calls_by h (checkpoint_calls old)) some)

    not_none : (one : PlainReply) (held : List PlainReply) → old.held ≡ one ∷ held → old.held ≡ [] → ⊥
    not_none one held some none = cons_nil (sym some ∙ none)
      where
        cons_nil : ◌≡◌ {A = List PlainReply} (one ∷ held) [] → ⊥
        cons_nil e = cc

    pays_flush : (given : Vec Reply Global) → outcome ≡ Replies given → (old.held ≡ [] → IsTidy outcome new)
        → Pays changes (moment_of tell old) (moment_of tell new)
    pays_flush given is tidy = by old.held refl
      where
        down : outcome ≡ Down → ⊥
        down wrong = replies_down given (sym is ∙ wrong)

        by : (held : List PlainReply) → old.held ≡ held → Pays changes (moment_of tell old) (moment_of tell new)
        by [] none =
            let nothing_due : is_due new.checkpoint new.journal ≡ false = subst (λ o. IsTidy o new) is (tidy none) in
            pays outcome device changes down (omega (arith, checkpoint_few none, due_none new nothing_due))
        by (one ∷ held) some =
            pays_commit outcome device changes (commit_few one held some) down (λ nothing. idle nothing (not_none one held some))

    breaks_flush : outcome ≡ Down → BreaksOff changes (moment_of tell old) (moment_of tell new)
    breaks_flush is = by old.held refl
      where
        by : (held : List PlainReply) → old.held ≡ held → BreaksOff changes (moment_of tell old) (moment_of tell new)
        by [] none = breaks outcome device changes is (omega (arith, checkpoint_few none))
        by (one ∷ held) some =
            breaks_commit outcome device changes (commit_few one held some) is (λ nothing. idle nothing (not_none one held some))

  -- those of a restart
  opens_again : (kept : ℕ) → RestartDevice (Ok kept) (tell old.disk) (tell new.disk)
      → Makes {E = OpenFault} 1 (Ok kept) (tell old.disk) (tell new.disk) → OpensAgain (moment_of tell old) (moment_of tell new)
  opens_again kept device makes = record {
    cuts = restart_cuts kept (tell old.disk) (tell new.disk) device;
    off = device.on;
    later = makes.later;
    most = omega (arith, makes.most, due_few new);
  }

  fails_again : RestartDevice (Err fault.DeviceFault) (tell old.disk) (tell new.disk)
      → Makes {T = ℕ} 1 (Err fault.DeviceFault) (tell old.disk) (tell new.disk) → FailsAgain (moment_of tell old) (moment_of tell new)
  fails_again device makes = record {
    cut = λ cuts told. device.cut cuts told refl;
    later = makes.later;
    most = makes.most;
  }

-- ---- checkpoints that are owed

power_up : (power : Power) → is_up power ≡ true → power ≡ Up
power_up Up is = refl
power_up PowerDown is = absurd (false≢true is)
power_up Spoilt is = absurd (false≢true is)

module _ {D : Type 0} (v : AgentView D) where
  -- an agent that owes a checkpoint is up and holds no line, and a checkpoint is due
  owing : owes v ≡ true → (v.power ≡ Up) × (v.held ≡ []) × (is_due v.checkpoint v.journal ≡ true)
  owing owed =
      let all = and_parts (is_up v.power && length v.held == 0) (is_due v.checkpoint v.journal) owed in
      let both = and_parts (is_up v.power) (length v.held == 0) all.0 in
      (power_up v.power both.0, nil_from_length v.held (eqb-true (length v.held) 0 both.1), all.1)

  -- so that checkpoints are made at all
  pub owes_some : owes v ≡ true → v.checkpoint ≢ 0
  owes_some owed none = true≢false (sym (owing owed).2 ∙ ap (λ n. is_due n v.journal) none)

  -- where none is due, none is owed
  pub owes_none : is_due v.checkpoint v.journal ≡ false → owes v ≡ false
  owes_none none = and_right (is_up v.power && length v.held == 0) (is_due v.checkpoint v.journal) none

  -- and where an agent that is up and holds no line owes none, none is due
  pub none_due : v.power ≡ Up → v.held ≡ [] → owes v ≡ false → is_due v.checkpoint v.journal ≡ false
  none_due up none owed = sym (ap (λ power. is_up power && length v.held == 0
      && is_due v.checkpoint v.journal) up ∙ ap (λ held. is_up Up && length held == 0
      && is_due v.checkpoint v.journal) none) ∙ owed

  module _ (view : View) (a : AgentSeen) where
    no_replies : (told : List AgentReply) → map printed told ≡ [] → told ≡ []
    no_replies [] none = refl
    no_replies (one ∷ told) none = cc

    -- what it stands for is up, and holds no reply
    pub owing_seen : owes v ≡ true → IsSeen v view a → (a.up ≡ true) × (a.held ≡ [])
    owing_seen owed seen =
        let is = owing owed in
        let up = seen.up.1 is.0 in
        (up, no_replies a.held ((seen.standing up).held ∙ is.1))

    -- an agent that holds no reply holds no line
    pub holds_none : IsSeen v view a → a.up ≡ true → a.held ≡ [] → v.held ≡ []
    holds_none seen up none = sym (seen.standing up).held ∙ ap (map printed) none

-- some lines ran, and the run stops
stops_after : {D : Type 0} (tell : D → View) (rules : List Rule) (batch : ℕ) (ran : List PlainStep) (a b : AgentSeen)
    (may may' : AgentMay) (old new : AgentView D) (text : List ℕ)
    → Steps rules batch ran (over_call tell a old new (Unit {0})) a may b may' text
    → Steps rules batch ran (over_call tell a old new ⊥) a may b may' text
stops_after tell rules batch ran a b may may' old new text steps x r on =
    let next = steps x r on in (
      next.0,
      next.1,
      record {
        steps = next.2.steps;
        prints = next.2.prints;
        downs = next.2.downs;
        counted =
            next.2.counted;
        met = λ never. absurd never;
        shown = next.2.shown;
        cut = λ never. absurd never;
      },
    )

module _ {D : Type 0} (tell : D → View) (old new : AgentView D) where
  -- the count of a call that leaves an agent that is not up as it is
  call_counts : {most : ℕ} (outcome : Outcome) (a : AgentSeen) → IsSeen old (tell old.disk) a
      → (old.power ≡ Up → OutcomeDevice most outcome (tell old.disk) (tell new.disk)) → ((old.power ≡ Up → ⊥) → new ≡ old)
      → StaysOrRose (tell old.disk).faults (tell new.disk).faults
  call_counts outcome a seen device off = ⊎_elim
      (λ up. device_counts outcome (tell old.disk) (tell new.disk) (device (seen.up.0 up)))
      (λ down. inl (ap (λ v. (tell v.disk).faults) (off (λ power. true≢false (sym (seen.up.1 power) ∙ down)))))
      (cases_Bool a.up)

  -- an agent that is not up stays as it is
  still_off : (a : AgentSeen) → IsSeen old (tell old.disk) a → ((old.power ≡ Up → ⊥) → new ≡ old) → a.up ≡ false → new ≡ old
  still_off a seen off down = off (λ power. true≢false (sym (seen.up.1 power) ∙ down))

  pub line_called : (l : PlainAction) (outcome : Outcome)
      → ((a : AgentSeen) → IsSeen old (tell old.disk) a → Fits a
      → (b : AgentSeen) × IsSeen new (tell new.disk) b
      × LineMeans old.memory.rules old.batch l a (may_of old (tell old.disk)) b (may_of new (tell new.disk)) outcome)
      → (old.power ≡ Up → OutcomeDevice 4 outcome (tell old.disk) (tell new.disk))
      → ((a : AgentSeen) → IsSeen old (tell old.disk) a → (after_line old.memory.rules a l).pending ≡ []
      → IsIdle old (tell old.disk) new (tell new.disk))
      → (outcome ≡ Held → IsIdle old (tell old.disk) new (tell new.disk))
      → ((old.power ≡ Up → ⊥) → new ≡ old)
      → Called tell old new (Unit {0}) (goes_on outcome) (line_ran l outcome) (line_text l outcome)
  line_called l (Replies given) means device idle waits off told some a seen fits =
      let all = means a seen fits in
      let b = all.0 in
      let m = all.2 in
      let ran = after_line old.memory.rules a l in
      let up : b.up ≡ true = ap (λ s. s.up) m.2.1 ∙ up_after_commit old.memory.rules ran in
      let text : text_of ran.held ≡ replies_text (map reply_of given.items) =
      text_printed ran.held ∙ ap replies_text (sym m.2.0) in (
        b,
        all.1,
        subst (λ t. Steps old.memory.rules old.batch (Acts l ∷ [])
            (over_call tell a old new (Unit {0})) a (may_of old (tell old.disk)) b
            (may_of new (tell new.disk)) t) text
            (replied_line old.memory.rules old.batch l
            (over_call tell a old new (Unit {0})) a b (may_of old (tell old.disk))
            (may_of new (tell new.disk)) (call_counts (Replies given) a seen device off)
            (pays_commit tell old new (Replies given) (device (seen.up.0 m.0)) (length ran.pending) (omega arith)
            (replies_down given) (λ none. idle a seen (nil_from_length ran.pending none))) up m.0 m.1 m.2.1 m.2.2),
        (λ on q. stays_quiet a b (tell old.disk) (tell new.disk) up
            ((device (seen.up.0 q.0)).others (not_down (Replies given) (λ wrong. wrong))) q),
      )
  line_called l Held means device idle waits off told some a seen fits =
      let all = means a seen fits in
      let b = all.0 in
      let m = all.2 in
      let up : b.up ≡ true = ap (λ s. s.up) m.2 ∙ up_after_line old.memory.rules a l in (
        b,
        all.1,
        held_line old.memory.rules old.batch l (over_call tell a old new (Unit {0})) a b
            (may_of old (tell old.disk)) (may_of new (tell new.disk)) (call_counts Held a seen device off)
            (pays_commit tell old new Held (device (seen.up.0 m.0)) 0 (omega arith) (not_down Held (λ wrong. wrong)) (λ none. waits refl))
            up m.0 m.1 m.2 m.3,
        (λ on q. stays_quiet a b (tell old.disk) (tell new.disk) up
            ((device (seen.up.0 q.0)).others (not_down Held (λ wrong. wrong))) q),
      )
  line_called l Down means device idle waits off told some a seen fits =
      let all = means a seen fits in
      let b = all.0 in
      let loud : IsQuiet a (tell old.disk) → ⊥ = λ q. never_fails a (tell old.disk) (tell new.disk) q
      ((device (seen.up.0 q.0)).down refl).1 in (
        b,
        all.1,
        down_line old.memory.rules old.batch l (over_call tell a old new (Unit {0})) a b
            (may_of old (tell old.disk)) (may_of new (tell new.disk)) (call_counts Down a seen device off)
            (λ up. ((device (seen.up.0 up)).down refl).0) (
              (λ up. breaks_commit tell old new Down (device (seen.up.0 up)) (length (after_line old.memory.rules a l).pending)
                  (omega arith) refl (λ none. idle a seen (nil_from_length (after_line old.memory.rules a l).pending none))),
              (λ down. still_moment tell old new (still_off a seen off down)),
            )
            loud all.2,
        (λ on q. absurd (loud q)),
      )
  line_called l NoMemory means device idle waits off told some a seen fits =
      let all = means a seen fits in (
        all.0,
        all.1,
        same_stands old.memory.rules old.batch (over_call tell a old new ⊥) a all.0
            (may_of old (tell old.disk)) (may_of new (tell new.disk)) (call_counts NoMemory a seen device off) (λ on. on) all.2,
        (λ on. absurd on),
      )

  pub restart_called : (result : Result ℕ OpenFault)
      → ((tell old.disk).tells ≡ true → (a : AgentSeen) → IsSeen old (tell old.disk) a
      → (b : AgentSeen) × IsSeen new (tell new.disk) b
      × RestartMeans old.memory.rules a (may_of old (tell old.disk)) b (may_of new (tell new.disk)) result)
      → RestartDevice result (tell old.disk) (tell new.disk)
      → ((tell old.disk).tells ≡ true → (a : AgentSeen) → IsSeen old (tell old.disk) a
      → Makes 1 result (tell old.disk) (tell new.disk))
      → Called tell old new ((tell old.disk).tells ≡ true) (restart_goes_on result) (restart_ran result) (restart_text result)
  restart_called (Ok kept) means device makes told some a seen fits =
      let all = means told a seen in
      let b = all.0 in
      let m = all.2 in
      let up : b.up ≡ true = ap (λ s. s.up) m.2 ∙ up_reopened old.memory.rules a m.0 in (
        b,
        all.1,
        restart_line old.memory.rules old.batch kept m.0
            (over_call tell a old new (Unit {0})) a b (may_of old (tell old.disk))
            (may_of new (tell new.disk)) (restart_counts (Ok kept) (tell old.disk) (tell new.disk) device)
            (opens_again tell old new kept device (makes told a seen)) up some m.1 m.2 m.3,
        (λ on q. (up, device.on, restart_cuts kept (tell old.disk) (tell new.disk) device ∙ q.2)),
      )
  restart_called (Err fault.DeviceFault) means device makes told some a seen fits =
      let all = means told a seen in
      let b = all.0 in
      let loud : IsQuiet a (tell old.disk) → ⊥ = λ q. never_reopens a (tell old.disk) (tell new.disk) q (device.failed refl) in (
        b,
        all.1,
        down_restart old.memory.rules old.batch (over_call tell a old new (Unit {0})) a b
            (may_of old (tell old.disk)) (may_of new (tell new.disk)) (device.counted refl)
            (fails_again tell old new device (makes told a seen)) loud all.2,
        (λ on q. absurd (loud q)),
      )
  restart_called (Err fault.NoMemory) means device makes told some a seen fits =
      let all = means told a seen in (
        all.0,
        all.1,
        spoilt_stands old.memory.rules old.batch (over_call tell a old new ⊥) a all.0
            (may_of old (tell old.disk)) (may_of new (tell new.disk))
            (restart_counts (Err fault.NoMemory) (tell old.disk) (tell new.disk) device) (λ on. on) all.2,
        (λ on. absurd on),
      )
  restart_called (Err (fault.NotAStore offset)) means device makes told some a seen fits = absurd (means told a seen).2
  restart_called (Err (fault.TooLarge len)) means device makes told some a seen fits = absurd (means told a seen).2

  -- a restart that was refused did not run
  pub restart_stops : (why : OpenFault) → (why ≡ fault.DeviceFault → ⊥)
      → ((tell old.disk).tells ≡ true → (a : AgentSeen) → IsSeen old (tell old.disk) a
      → (b : AgentSeen) × IsSeen new (tell new.disk) b
      × RestartMeans old.memory.rules a (may_of old (tell old.disk)) b (may_of new (tell new.disk)) (Err why))
      → RestartDevice (Err why) (tell old.disk) (tell new.disk)
      → ((tell old.disk).tells ≡ true → (a : AgentSeen) → IsSeen old (tell old.disk) a
      → Makes {T = ℕ} 1 (Err why) (tell old.disk) (tell new.disk)) → StopsBefore tell old new Reopens (ending_of why)
  restart_stops fault.DeviceFault other means device makes = absurd (other refl)
  restart_stops fault.NoMemory other means device makes = restart_called (Err fault.NoMemory) means device makes
  restart_stops (fault.NotAStore offset) other means device makes = (tt, refl, λ told a seen. (means told a seen).2)
  restart_stops (fault.TooLarge len) other means device makes = (tt, refl, λ told a seen. (means told a seen).2)

  -- a line that did not run stops the run
  pub stops_within : (step : PlainStep) (ending : Ending) → StopsBefore tell old new step ending → Stops tell old new step ending
  stops_within step Memory called = ([], inl refl, ([], called))
  stops_within step (Store why) stops = (stops.0, λ told a seen. stops.2 (subst (λ s. ToldAt s (tell old.disk)) stops.1 told) a seen)
  stops_within step Done stops = absurd stops
  stops_within step Device stops = absurd stops
  stops_within step Write stops = absurd stops

  -- a line ran, and its text has no room to wait
  stops_ran : (step : PlainStep) (text : List ℕ)
      → Called tell old new (ToldAt step (tell old.disk)) (Unit {0}) (step ∷ []) text → Stops tell old new step Memory
  stops_ran step text called = (
    step ∷ [],
    inr refl,
    (
      text,
      λ told some a seen fits. let all = called told some a seen
          fits in (
            all.0,
            all.1,
            stops_after tell old.memory.rules old.batch (step ∷ []) a all.0
                (may_of old (tell old.disk)) (may_of new (tell new.disk)) old new text all.2,
            λ on. absurd on,
          ),
    ),
  )

  -- one whose text has no room to wait
  pub wanting_ran : {T : Type 0} (step : PlainStep) (text : List ℕ)
      → Called tell old new (ToldAt step (tell old.disk)) (Unit {0}) (step ∷ []) text
      → (r : Result T Ending) → IsErrAnd r (λ e. e ≡ Memory) → IfErr r (Stops tell old new step)
  wanting_ran step text called r err = wanting_stops r (Stops tell old new step) err (stops_ran step text called)

  -- a call that ran a line, of the step that is asked for and with the text that is shown
  pub called_as : (asked step : PlainStep) (text shown : List ℕ) → asked ≡ step → shown ≡ text
      → Called tell old new (ToldAt step (tell old.disk)) (Unit {0}) (step ∷ []) text
      → Called tell old new (ToldAt asked (tell old.disk)) (Unit {0}) (asked ∷ []) shown
  called_as asked step text shown same is called =
      subst (λ s. Called tell old new (ToldAt s (tell old.disk)) (Unit {0}) (s ∷ []) shown) (sym same)
      (subst (λ t. Called tell old new (ToldAt step (tell old.disk)) (Unit {0}) (step ∷ []) t) (sym is) called)

  -- the last commit, by what it is answered
  module _ (outcome : Outcome)
      (means : (a : AgentSeen) → IsSeen old (tell old.disk) a
      → (b : AgentSeen) × IsSeen new (tell new.disk) b
      × FlushMeans old.memory.rules a (may_of old (tell old.disk)) b (may_of new (tell new.disk)) outcome)
      (device : old.power ≡ Up → OutcomeDevice (flush_calls old) outcome (tell old.disk) (tell new.disk))
      (idle : (a : AgentSeen) → IsSeen old (tell old.disk) a → a.pending ≡ [] → (old.held ≡ [] → ⊥)
      → IsIdle old (tell old.disk) new (tell new.disk))
      (tidy : old.held ≡ [] → IsTidy outcome new) (off : (old.power ≡ Up → ⊥) → new ≡ old)
      (before now : List ℕ) where
    -- what it means, by the answer that it is
    meant : (told : Outcome) → outcome ≡ told → (a : AgentSeen) (seen : IsSeen old (tell old.disk) a)
        → FlushMeans old.memory.rules a (may_of old (tell old.disk)) (means a seen).0 (may_of new (tell new.disk)) told
    meant told is a seen =
        subst (λ o. FlushMeans old.memory.rules a (may_of old (tell old.disk)) (means a seen).0
        (may_of new (tell new.disk)) o) is (means a seen).2

    -- no call failed where replies are given out
    gives_quiet : (given : Vec Reply Global) → outcome ≡ Replies given → (a b : AgentSeen)
        → IsSeen old (tell old.disk) a → a.up ≡ true → b ≡ after_commit old.memory.rules a
        → IsQuiet a (tell old.disk) → IsQuiet b (tell new.disk)
    gives_quiet given is a b seen up next q =
        stays_quiet a b (tell old.disk) (tell new.disk)
        (ap (λ s. s.up) next ∙ up_after_commit old.memory.rules a)
        ((device (seen.up.0 up)).others (λ down. replies_down given (sym is ∙ down))) q

    -- and they pay for what was pending
    gives_pays : (given : Vec Reply Global) → outcome ≡ Replies given → (a : AgentSeen)
        → IsSeen old (tell old.disk) a → a.up ≡ true → Pays (length a.pending) (moment_of tell old) (moment_of tell new)
    gives_pays given is a seen up =
        pays_flush tell old new outcome (device (seen.up.0 up)) (length a.pending)
        (λ none. idle a seen (nil_from_length a.pending none)) given is tidy

    pub replies_end : (given : Vec Reply Global) → outcome ≡ Replies given
        → now ≡ before ++ replies_text (map reply_of given.items) → Ends tell old new Done before now
    replies_end given is shows a seen =
        let all = means a seen in
        let m = meant (Replies given) is a seen in (
          all.0,
          all.1,
          (
            inl (m.0, m.1.1, m.1.2),
            shows ∙ ap (λ t. before ++ t)
                (ap replies_text m.1.0 ∙ sym (text_printed a.held)),
            gives_quiet given is a all.0 seen m.0 m.1.1,
          ),
          call_counts outcome a seen device off,
          gives_pays given is a seen m.0,
        )

    -- a checkpoint of an agent that holds nothing
    pub checkpoint_ends : (given : Vec Reply Global) → outcome ≡ Replies given → owes old ≡ true → Ends tell old new Done [] []
    checkpoint_ends given is owed a seen =
        let all = means a seen in
        let m = meant (Replies given) is a seen in (
          all.0,
          all.1,
          (
            inl (m.0, m.1.1, m.1.2),
            sym (text_nothing a.held (owing_seen old (tell old.disk) a owed seen).1),
            gives_quiet given is a all.0 seen m.0 m.1.1,
          ),
          call_counts outcome a seen device off,
          gives_pays given is a seen m.0,
        )

    pub replies_lost : (given : Vec Reply Global) → outcome ≡ Replies given → now ≡ before → Ends tell old new Memory before now
    replies_lost given is shows a seen =
        let all = means a seen in
        let m = meant (Replies given) is a seen in (
          all.0,
          all.1,
          (inl (m.0, m.1.1, m.1.2), shows),
          call_counts outcome a seen device off,
          tt,
        )

    pub down_ends : outcome ≡ Down → now ≡ before → Ends tell old new Device before now
    down_ends is shows a seen =
        let all = means a seen in
        let m = meant Down is a seen in (
          all.0,
          all.1,
          (
            m,
            shows,
            (λ q. never_fails a (tell old.disk) (tell new.disk) q ((device (seen.up.0 q.0)).down is).1),
            (λ up. ((device (seen.up.0 up)).down is).0),
          ),
          call_counts outcome a seen device off,
          (
            (λ up. breaks_flush tell old new outcome (device (seen.up.0 up)) (length a.pending)
                (λ none. idle a seen (nil_from_length a.pending none)) is),
            (λ down. still_moment tell old new (still_off a seen off down)),
          ),
        )

    pub held_ends : outcome ≡ Held → Ends tell old new Memory before now
    held_ends is a seen = absurd (meant Held is a seen)

    pub memory_ends : outcome ≡ NoMemory → now ≡ before → Ends tell old new Memory before now
    memory_ends is shows a seen =
        let all = means a seen in
        let m = meant NoMemory is a seen in (
          all.0,
          all.1,
          (inr m, shows),
          call_counts outcome a seen device off,
          tt,
        )

-- an agent that owes a checkpoint holds no line that a last commit could commit
pub owed_ends : {D : Type 0} (tell : D → View) (v : AgentView D) (before : List ℕ) → owes v ≡ true
    → Ends tell v v Done before before
owed_ends tell v before owed a seen =
    let is = owing_seen v (tell v.disk) a owed seen in (
      a,
      seen,
      (
        inr (is.0, is.1, (refl, λ d n left. left)),
        sym (append-nil before)
            ∙ ap (λ t. before ++ t) (sym (text_nothing a.held is.1)),
        (λ q. q),
      ),
      inl refl,
      record { cuts = refl; off = refl; later = omega arith; most = omega arith },
    )

-- ---- between two lines

-- where no call is made
pub nothing_called : {D : Type 0} (tell : D → View) (v : AgentView D) → Called tell v v (Unit {0}) (Unit {0}) [] []
nothing_called tell v told some a seen fits = (
  a,
  seen,
  nothing_stands v.memory.rules v.batch
      (over_call tell a v v (Unit {0})) a (may_of v (tell v.disk)) (inl refl) refl,
  (λ on q. q),
)

module _ {D : Type 0} (tell : D → View) (old new : AgentView D) (owed : owes old ≡ true) where
  -- a checkpoint was made or failed
  pub checkpoint_called : (ending : Ending) → Ends tell old new ending [] [] → (ending ≡ Memory → ⊥)
      → Called tell old new (Unit {0}) (Unit {0}) [] []
  checkpoint_called Done ends other told some a seen fits =
      let all = ends a seen in
      let is = owing_seen old (tell old.disk) a owed seen in (
        all.0,
        all.1,
        checkpoint_made old.memory.rules old.batch (over_call tell a old new (Unit {0}))
            a all.0 (may_of old (tell old.disk)) (may_of new (tell new.disk)) all.3 (λ goes. all.4) is.1 all.2.0,
        (λ on q. all.2.2 q),
      )
  checkpoint_called Device ends other told some a seen fits =
      let all = ends a seen in
      let is = owing_seen old (tell old.disk) a owed seen in (
        all.0,
        all.1,
        checkpoint_failed old.memory.rules old.batch (over_call tell a old new (Unit {0}))
            a all.0 (may_of old (tell old.disk)) (may_of new (tell new.disk)) (all.2.3 is.0) all.4 is.0 is.1 all.2.0,
        (λ on q. absurd (all.2.2 q)),
      )
  checkpoint_called Memory ends other told some a seen fits = absurd (other refl)
  checkpoint_called Write ends other told some a seen fits = absurd (ends a seen).2
  checkpoint_called (Store why) ends other told some a seen fits = absurd (ends a seen).2

  -- or memory was wanting
  pub checkpoint_wants : Ends tell old new Memory [] [] → Called tell old new (Unit {0}) ⊥ [] []
  checkpoint_wants ends told some a seen fits =
      let all = ends a seen in
      let is = owing_seen old (tell old.disk) a owed seen in
      let watch = over_call tell a old new ⊥ in (
        all.0,
        all.1,
        ⊎_elim
            (λ done. checkpoint_made old.memory.rules old.batch watch a all.0 (may_of old (tell old.disk))
            (may_of new (tell new.disk)) all.3 (λ never. absurd never) is.1 (inl done))
            (λ same. same_stands old.memory.rules old.batch watch a all.0 (may_of old (tell old.disk))
            (may_of new (tell new.disk)) all.3 (λ on. on) same)
            all.2.0,
        (λ on. absurd on),
      )
