-- A line, or a flush, from what its parts do to what it means.
use Rattle.std.proofs.Common.{◌≡◌, inl, inr, ⊎_elim, ℕ, zero, suc, ◌+◌, ◌<◌, ◌≤◌, Bool, true, false, List, [], length, refl, sym, ap, subst, ◌∙◌, arith}
use Rattle.std.specs.Prelude.{◌⊎◌, ◌↔◌, IsTrue}
use Rattle.std.proofs.lemmas.List.{length-append, length-map}
use Rattle.unwinding.specs.CourseSteps.{GoesDown, holding}
use Rattle.disk_model.specs.Disk.{LeavesOnly, Stays, View}
use Rattle.disk_model.specs.DiskLaws.{IsLawful}
use Rattle.journal.specs.Journal.{JournalView}
use Rattle.journal.proofs.Moments.{and_then}
use Rattle.open_store.specs.Commits.{HasRoomFor}
use Rattle.open_store.specs.Standing.{IsReady, IsRoomier}
use Rattle.suffix_list.specs.ListText.{RuleList}
use Rattle.suffix_list.specs.Suffix.{Rule}
use Rattle.script_actions.specs.Action.{PlainAction}
use Rattle.reply_lines.specs.Reply.{PlainReply}
use Rattle.agent_model.specs.Isolation.{printed}
use Rattle.agent_model.specs.TheMachine.{machine}
use Rattle.durable_model.specs.Keeping.{AgentDurable, keeping}
use Rattle.durable_model.specs.Laws.{LinesAreValid, LinesKeep}
use Rattle.spelled_model.specs.Addresses.{IsReadAction}
use Rattle.spelled_model.specs.Laws.{LinesAreSpelled, LinesStayRead}
use Rattle.agent_memory.specs.AgentState.{AgentState}
use Rattle.agent_memory.specs.Written.{body_of}
use Rattle.agent_core.specs.AgentView.{AgentView, may_find, may_of}
use Rattle.agent_core.specs.Batch.{HasNotRun, HasRun, PlainBatch}
use Rattle.agent_core.specs.Means.{AgentMay, Fits, FlushMeans, IsBeforeOrAfter, LineMeans, Same, after_line}
use Rattle.agent_core.specs.Calls.{IsIdle}
use Rattle.agent_core.specs.Running.{RunsLine}
use Rattle.agent_core.specs.Seen.{AgentSeen, IsSeen, IsUp}
use Rattle.agent_core.specs.Standing.{Finishes, IsHeld, IsStanding}
use Rattle.agent_core.specs.declared.agent.Power.{Power}
use Rattle.agent_core.specs.declared.agent.Power.TheVariants.{Down, Spoilt, Up}
use Rattle.agent_core.specs.declared.outcome.Outcome.{Outcome}
use Rattle.agent_core.specs.declared.outcome.Outcome.TheVariants as outcome
use Rattle.agent_core.proofs.OutcomeLemmas.{device_none, down_up, flush_finished, idle_roomier, kept_up, line_finished, line_waits, not_run, not_run_may, roomier_may, seen_down}
use Rattle.agent_core.proofs.RoomLemmas.{roomier_same}
use Rattle.agent_core.proofs.SeenLemmas.{from_parts, ran_bytes, ran_holds, ran_up}
use Rattle.agent_core.proofs.StoreLemmas.{images_stand, nothing_left}

-- ---- what an answer gets from the value

pub power_is : {D : Type 0} (x y : AgentView D) → x ≡ y → y.power ≡ Up → x.power ≡ Up
power_is x y same is = ap (λ v. v.power) same ∙ is

pub room_is : {D : Type 0} (view : D → View) (x y : AgentView D) → x ≡ y
    → HasRoomFor y.journal (view y.disk) (length y.body)
    → HasRoomFor x.journal (view x.disk) (length x.body)
room_is view x y same room =
    subst (λ v. HasRoomFor v.journal (view v.disk) (length v.body)) (sym same) room

-- ---- what each agent keeps

pub ready_still : (j k : JournalView) (v w : View) → IsRoomier j k v w → IsReady j v → IsReady k w
ready_still j k v w roomier ready = record {
  usable = ap (λ (i : JournalView). i.shut) roomier.journal ∙ ready.usable;
  rests = roomier.rests ready.rests;
}

pub still_standing : (list : RuleList) (m m' : AgentState) (b b' : PlainBatch)
    (power : Power) (j j' : JournalView) (v w : View) → m'.rules ≡ m.rules → b'.size ≡ b.size
    → IsRoomier j j' v w → IsStanding list m b power j v → IsStanding list m' b' power j' w
still_standing list m m' b b' power j j' v w rules size roomier standing = record {
  rules = rules ∙ standing.rules;
  digest = ap (λ (i : JournalView). i.digest) roomier.journal ∙ standing.digest;
  least = omega (arith, size, standing.least);
  most = omega (arith, size, standing.most);
  ready = λ up. ready_still j j' v w roomier (standing.ready up);
}

down_not_up : Down ≡ Up → ⊥
down_not_up e = cc

pub after_fault_standing : (list : RuleList) (m : AgentState) (b : PlainBatch) (power : Power)
    (j j' : JournalView) (v w : View) → j'.digest ≡ j.digest
    → IsStanding list m b power j v → IsStanding list m b Down j' w
after_fault_standing list m b power j j' v w digest standing = record {
  rules = standing.rules;
  digest = digest ∙ standing.digest;
  least = standing.least;
  most = standing.most;
  ready = λ up. absurd (down_not_up up);
}

pub after_commit_standing : (list : RuleList) (m : AgentState) (b b' : PlainBatch)
    (power : Power) (j j' : JournalView) (v w : View)
    → j'.digest ≡ j.digest → b'.size ≡ b.size → IsReady j' w
    → IsStanding list m b power j v → IsStanding list m b' power j' w
after_commit_standing list m b b' power j j' v w digest size ready standing = record {
  rules = standing.rules;
  digest = digest ∙ standing.digest;
  least = omega (arith, size, standing.least);
  most = omega (arith, size, standing.most);
  ready = λ _. ready;
}

-- ---- the agent is not up

pub stays_down : {D : Type 0} (x : AgentView D) (v : View) (rules : List Rule) (a : AgentSeen)
    (may other : AgentMay) → x.power ≡ Down → IsSeen x v a
    → GoesDown (machine rules) keeping a a may may other
stays_down x v rules a may other is seen = record {
  down = seen_down x v a seen (λ up. down_up x.power is up);
  rest = refl;
  images = λ d n left. inl left;
}

spoilt_up : (power : Power) → power ≡ Spoilt → power ≡ Up → ⊥
spoilt_up power is up = not_both (sym is ∙ up)
  where
    not_both : Spoilt ≡ Up → ⊥
    not_both e = cc

-- one that is not up is not
pub never_up : {D : Type 0} (x : AgentView D) (v : View) (a : AgentSeen) → IsSeen x v a
    → (x.power ≡ Down) ⊎ (x.power ≡ Spoilt) → a.up ≡ true → ⊥
never_up x v a seen is up =
    ⊎_elim (λ (e : x.power ≡ Down). down_up x.power e (seen.up.0 up))
    (λ (e : x.power ≡ Spoilt). spoilt_up x.power e (seen.up.0 up)) is

pub not_power : (power : Power) → (power ≡ Down) ⊎ (power ≡ Spoilt) → power ≡ Up → ⊥
not_power power is up =
    ⊎_elim (λ (e : power ≡ Down). down_up power e up)
    (λ (e : power ≡ Spoilt). spoilt_up power e up) is

pub memory_down : outcome.NoMemory ≡ outcome.Down → ⊥
memory_down e = cc

pub held_down : outcome.Held ≡ outcome.Down → ⊥
held_down e = cc

-- ---- moments

-- no call was made
pub up_moments : {D : Type 0} (x : AgentView D) (v w : View) (a ran : AgentSeen) → IsLawful v
    → Stays v w → IsUp x v a
    → LeavesOnly v w (IsBeforeOrAfter x.memory.rules x.journal.digest a ran)
up_moments x v w a ran laws stays up =
    nothing_left v w (IsBeforeOrAfter x.memory.rules x.journal.digest a ran) laws stays
    (λ c left. (
      up.base,
      x.journal.changes,
      images_stand x.journal v up.base up.store c left,
      up.under,
      inl (sym up.state),
    ))

-- the state of the store when the batch began is the same before a line and after it
line_moments : (rules : List Rule) (digest : List ℕ) (v w : View) (a : AgentSeen)
    (line : PlainAction)
    → LeavesOnly v w
    (IsBeforeOrAfter rules digest (after_line rules a line) (after_line rules a line))
    → LeavesOnly v w (IsBeforeOrAfter rules digest a (after_line rules a line))
unfolding holding
line_moments rules digest v w a line leaves = leaves

-- ---- a line that ran

module _ {D : Type 0} (m m' : AgentState) (b b' : PlainBatch) (j j' : JournalView)
    (now opened checkpoint : ℕ) (power : Power) (disk disk' : D) (v w : View) (line : PlainAction)
    (run : HasRun line m m' b b') (roomier : IsRoomier j j' v w) (a : AgentSeen)
    (seen : IsSeen (from_parts m now b j opened checkpoint power disk) v a) where
  old : AgentView D
  old = from_parts m now b j opened checkpoint power disk

  mid : AgentView D
  mid = from_parts m' now b' j' opened checkpoint power disk'

  held_one : length b'.held ≡ length b.held + 1
  held_one = omega (arith, ap length run.held, length-append {A = PlainReply})

  held_same : IsUp (from_parts m now b j opened checkpoint power disk) v a → length a.held ≡ length b.held
  held_same up = sym (length-map a.held printed) ∙ ap length up.held

  back : (d : AgentDurable) (n : ℕ) → may_find j'.digest opened w d n
      → may_find j.digest opened v d n
  back = roomier_may j j' v w roomier opened

  module _ (keep : LinesKeep) (valid : LinesAreValid) (spelled : LinesAreSpelled)
      (read : IsReadAction line) where
    pub line_leaves : (x : View) → IsLawful v
        → ((ran : AgentSeen) → IsHeld (from_parts m' now b' j' opened checkpoint power disk') w ran
        → w.tells ≡ true → LeavesOnly w x (IsBeforeOrAfter m'.rules j'.digest ran ran))
        → a.up ≡ true → v.tells ≡ true
        → LeavesOnly v x (IsBeforeOrAfter m.rules j.digest a (after_line m.rules a line))
    line_leaves x laws finish is_up tells =
        let up = seen.standing is_up in
        let ran = after_line m.rules a line in
        let there = from_parts m now b j opened checkpoint power disk in
        let held =
        ran_holds m m' b b' j j' now opened checkpoint power disk disk' v w line a run roomier up keep valid
        spelled read in
        and_then v w x (IsBeforeOrAfter m.rules j.digest a ran)
        (up_moments there v w a ran laws roomier.stays up)
        (line_moments m.rules j.digest w x a line
        (subst (λ (r : List Rule). LeavesOnly w x (IsBeforeOrAfter r j.digest ran ran)) run.rules
        (subst (λ (i : JournalView). LeavesOnly w x (IsBeforeOrAfter m'.rules i.digest ran ran))
        roomier.journal (finish ran held (roomier.stays.tells ∙ tells)))))

    module _ (stays : LinesStayRead) (is_now : power ≡ Up) (fits : Fits a) where
      is_up : a.up ≡ true
      is_up = seen.up.1 is_now

      here : IsUp (from_parts m' now b' j' opened checkpoint power disk') w (after_line m.rules a line)
      here =
          ran_up m m' b b' j j' now opened checkpoint power disk disk' v w line a run roomier
          (seen.standing (seen.up.1 is_now)) keep valid spelled stays read fits
          (seen.up.1 is_now)

      -- the batch is full
      pub line_ends : b'.size ≤ length b'.held → (new : AgentView D) (x : View) (may' : AgentMay)
          (result : Outcome)
          → ((ran : AgentSeen) → IsUp (from_parts m' now b' j' opened checkpoint power disk') w ran
          → Finishes m'.rules now ran (may_of (from_parts m' now b' j' opened checkpoint power disk') w)
          new x may' result)
          → (s : AgentSeen) × IsSeen new x s
          × LineMeans m.rules b.size line a (may_of (from_parts m now b j opened checkpoint power disk) v)
          s may' result
      line_ends full new x may' result finish =
          let up = seen.standing is_up in
          let short = seen.short is_up in
          line_finished new x m.rules b.size line a
          (may_of (from_parts m now b j opened checkpoint power disk) v)
          (may_of (from_parts m' now b' j' opened checkpoint power disk') w) may' now result is_up
          (omega (arith, full, run.size, held_one, held_same up, short)) seen.clock back
          (subst (λ (r : List Rule). Finishes r now (after_line m.rules a line)
          (may_of (from_parts m' now b' j' opened checkpoint power disk') w) new x may' result) run.rules
          (finish (after_line m.rules a line) here))

      -- it is not
      pub line_held : length b'.held < b'.size
          → (s : AgentSeen) × IsSeen (from_parts m' m'.now b' j' opened checkpoint power disk') w s
          × LineMeans m.rules b.size line a (may_of (from_parts m now b j opened checkpoint power disk) v)
          s (may_of (from_parts m' m'.now b' j' opened checkpoint power disk') w) outcome.Held
      line_held short =
          line_waits m' b b' j' opened checkpoint power disk' w m.rules line a
          (may_of (from_parts m now b j opened checkpoint power disk) v) now run.rules is_now is_up run.size
          short held_one (held_same (seen.standing is_up)) here

-- ---- want of memory

pub wanting : {D : Type 0} (m m' : AgentState) (b b' : PlainBatch) (j j' : JournalView)
    (now opened checkpoint : ℕ) (power : Power) (disk disk' : D) (v w : View) (a : AgentSeen)
    → HasNotRun m m' b b' → IsRoomier j j' v w
    → IsSeen (from_parts m now b j opened checkpoint power disk) v a
    → (s : AgentSeen) × IsSeen (from_parts m' now b' j' opened checkpoint power disk') w s
    × Same a (may_of (from_parts m now b j opened checkpoint power disk) v) s
    (may_of (from_parts m' now b' j' opened checkpoint power disk') w)
wanting m m' b b' j j' now opened checkpoint power disk disk' v w a kept roomier seen = (
  a,
  not_run m m' b b' j j' now opened checkpoint power disk disk' v w a kept roomier seen,
  (refl, not_run_may m m' b b' j j' opened v w kept roomier),
)

-- a line for which no call was made
pub line_stays : {D : Type 0} (m m' : AgentState) (b b' : PlainBatch) (j j' : JournalView)
    (now later opened checkpoint : ℕ) (power : Power) (disk disk' : D) (v w : View)
    (line : PlainAction) (result : Outcome) → IsLawful v → IsRoomier j j' v w
    → m'.rules ≡ m.rules → b'.size ≡ b.size → (result ≡ outcome.Down → ⊥)
    → ((a : AgentSeen) → IsSeen (from_parts m now b j opened checkpoint power disk) v a → Fits a
    → (s : AgentSeen) × IsSeen (from_parts m' later b' j' opened checkpoint power disk') w s
    × LineMeans m.rules b.size line a (may_of (from_parts m now b j opened checkpoint power disk) v)
    s (may_of (from_parts m' later b' j' opened checkpoint power disk') w) result)
    → RunsLine line (from_parts m now b j opened checkpoint power disk) v
    (from_parts m' later b' j' opened checkpoint power disk') w result
line_stays m m' b b' j j' now later opened checkpoint power disk disk' v w line result laws roomier rules size other means =
    record {
      means = means;
      any_moment = λ a seen is_up tells.
          up_moments (from_parts m now b j opened checkpoint power disk) v w a
          (after_line m.rules a line) laws roomier.stays (seen.standing is_up);
      rules = (rules, ap (λ (i : JournalView). i.digest) roomier.journal, size, refl);
      device = device_none j j' v w w roomier 4 result other;
      idle = λ a seen none. stays;
      waits = λ is. stays;
      spares = λ is. stays;
      tried = λ is. absurd (other is);
    }
  where
    stays : IsIdle (from_parts m now b j opened checkpoint power disk) v
        (from_parts m' later b' j' opened checkpoint power disk') w
    stays =
        idle_roomier (from_parts m now b j opened checkpoint power disk)
        (from_parts m' later b' j' opened checkpoint power disk') v w refl roomier

-- a line that fills its batch is the last of it
pub last_of_batch : (line : PlainAction) (m m' : AgentState) (b b' : PlainBatch) → HasRun line m m' b b'
    → b'.size ≤ length b'.held → b.size ≤ length b.held + 1
last_of_batch line m m' b b' run full =
    omega (arith, full, run.size, ap length run.held, length-append {A = PlainReply})

-- ---- a flush

pub same_run : (m : AgentState) (b : PlainBatch) → HasNotRun m m b b
same_run m b = record {
  world = refl;
  rules = refl;
  held = refl;
  body = refl;
  changes = refl;
  size = refl;
}

finishes_back : {D : Type 0} (rules : List Rule) (now : ℕ) (ran : AgentSeen)
    (mid may may' : AgentMay) (new : AgentView D) (x : View) (result : Outcome)
    → ((d : AgentDurable) (n : ℕ) → mid d n → may d n)
    → Finishes rules now ran mid new x may' result → Finishes rules now ran may new x may' result
finishes_back rules now ran between may may' new x (outcome.Replies given) back done = done
finishes_back rules now ran between may may' new x outcome.Down back done = (
  done.0,
  done.1,
  done.2,
  λ d n left. ⊎_elim (λ (was : between d n). inl (back d n was)) (λ at. inr at) (done.3 d n left),
)
finishes_back rules now ran between may may' new x outcome.Held back done = done
finishes_back rules now ran between may may' new x outcome.NoMemory back done = done

module _ {D : Type 0} (m : AgentState) (b : PlainBatch) (j j' : JournalView)
    (now opened checkpoint : ℕ) (power : Power) (disk disk' : D) (v w : View) (roomier : IsRoomier j j' v w)
    (a : AgentSeen) (seen : IsSeen (from_parts m now b j opened checkpoint power disk) v a) where
  still : a.up ≡ true → IsUp (from_parts m now b j' opened checkpoint power disk') w a
  still is_up =
      kept_up m m b b j j' now opened checkpoint power disk disk' v w a (same_run m b) roomier
      (seen.standing is_up)

  pub flush_ends : power ≡ Up → (new : AgentView D) (x : View) (may' : AgentMay)
      (result : Outcome)
      → (IsUp (from_parts m now b j' opened checkpoint power disk') w a
      → Finishes m.rules now a (may_of (from_parts m now b j' opened checkpoint power disk') w)
      new x may' result)
      → (s : AgentSeen) × IsSeen new x s
      × FlushMeans m.rules a (may_of (from_parts m now b j opened checkpoint power disk) v) s may' result
  flush_ends is_now new x may' result finish =
      let is_up = seen.up.1 is_now in
      flush_finished new x m.rules a (may_of (from_parts m now b j opened checkpoint power disk) v) may' now
      result is_up seen.clock
      (finishes_back m.rules now a (may_of (from_parts m now b j' opened checkpoint power disk') w)
      (may_of (from_parts m now b j opened checkpoint power disk) v) may' new x result
      (roomier_may j j' v w roomier opened) (finish (still is_up)))

  pub flush_leaves : (x : View) → IsLawful v
      → (IsUp (from_parts m now b j' opened checkpoint power disk') w a
      → w.tells ≡ true → LeavesOnly w x (IsBeforeOrAfter m.rules j'.digest a a))
      → a.up ≡ true → v.tells ≡ true
      → LeavesOnly v x (IsBeforeOrAfter m.rules j.digest a a)
  flush_leaves x laws finish is_up tells =
      let up = seen.standing is_up in
      and_then v w x (IsBeforeOrAfter m.rules j.digest a a)
      (up_moments (from_parts m now b j opened checkpoint power disk) v w a a laws roomier.stays up)
      (subst (λ (i : JournalView). LeavesOnly w x (IsBeforeOrAfter m.rules i.digest a a))
      roomier.journal
      (finish (still is_up) (roomier.stays.tells ∙ tells)))

true_false : true ≡ false → ⊥
true_false e = cc

-- an open batch without a durable change has no body
pub no_body : {D : Type 0} (x : AgentView D) (v : View) (a : AgentSeen) → x.power ≡ Up
    → IsSeen x v a → a.pending ≡ [] → x.body ≡ []
no_body x v a is_now seen none =
    (seen.standing (seen.up.1 is_now)).batch.bytes ∙ ap body_of none

-- nor one after a line that has none
pub no_body_ran : {D : Type 0} (m m' : AgentState) (b b' : PlainBatch) (j : JournalView)
    (now opened checkpoint : ℕ) (power : Power) (disk : D) (v : View) (line : PlainAction)
    (a : AgentSeen) → HasRun line m m' b b' → power ≡ Up
    → IsSeen (from_parts m now b j opened checkpoint power disk) v a
    → (after_line m.rules a line).pending ≡ [] → b'.body ≡ []
no_body_ran m m' b b' j now opened checkpoint power disk v line a run is_now seen none =
    let up = seen.standing (seen.up.1 is_now) in
    ran_bytes m m' b b' j j now opened checkpoint power disk disk v v line a run
    (roomier_same j v) up ∙ ap body_of none

-- a line is held
pub some_held : (none : Bool) (held : List PlainReply) → (IsTrue none ↔ (held ≡ []))
    → none ≡ false → held ≡ [] → ⊥
some_held none held is never empty = true_false (sym (is.1 empty) ∙ never)

-- ---- a batch that is not full

split : (n size : ℕ) → (n < size) ⊎ (size ≤ n)
split n zero = inr (omega arith)
split zero (suc size) = inl (omega arith)
split (suc n) (suc size) =
    ⊎_elim (λ (less : n < size). inl (omega (arith, less)))
    (λ (no_less : size ≤ n). inr (omega (arith, no_less))) (split n size)

pub not_full : (full : Bool) (size n : ℕ) → (IsTrue full ↔ (size ≤ n)) → full ≡ false → n < size
not_full full size n is never =
    ⊎_elim (λ (less : n < size). less)
    (λ (no_less : size ≤ n). absurd (true_false (sym (is.1 no_less) ∙ never))) (split n size)
