-- From what the parts of an agent do to what its calls mean.
use Rattle.std.proofs.Common.{◌≡◌, inl, inr, ⊎_elim, ℕ, ◌+◌, ◌<◌, ◌≤◌, Bool, true, false, List, [], ◌∷◌, length, Option, Vec, Global, refl, sym, ap, subst, ◌∙◌, arith}
use Rattle.std.specs.Prelude.{Result, if◌then◌else◌}
use Rattle.unwinding.specs.CourseSteps.{holding}
use Rattle.agent_base.specs.Counts.{Rose}
use Rattle.disk_model.specs.Disk.{FailedPowered, HasFailed, IsNextCut, View, WasOff}
use Rattle.journal.specs.Journal.{JournalView}
use Rattle.journal.specs.Opening.{HasNoFault}
use Rattle.journal.specs.Region.{StandsForState}
use Rattle.journal.specs.Frame.{IsSecond}
use Rattle.suffix_list.specs.Suffix.{Rule}
use Rattle.script_actions.specs.Action.{PlainAction}
use Rattle.reply_lines.specs.Reply.{PlainReply}
use Rattle.reply_lines.specs.declared.reply.Reply.{Reply}
use Rattle.agent_model.specs.Lines.{AgentWorld}
use Rattle.durable_model.specs.Keeping.{AgentDurable}
use Rattle.durable_model.specs.Migrate.{IsUnder}
use Rattle.durable_model.specs.Saved.{Saved, nothing_saved}
use Rattle.spelled_model.specs.Worlds.{IsReadWorld}
use Rattle.row_store.specs.Bodies.{Takes}
use Rattle.row_store.specs.Laws.{IsSpelledStateUnder}
use Rattle.row_opening.specs.Opened.{LeavesUnder}
use Rattle.one_store.specs.WholeWorld.{whole_world}
use Rattle.agent_memory.specs.AgentState.{AgentState, world_of}
use Rattle.agent_core.specs.AgentView.{AgentView, is_due, list_of, may_find, may_of, since_opening}
use Rattle.agent_core.specs.Batch.{HasNotRun, PlainBatch}
use Rattle.open_store.specs.Commits.{CommitDevice}
use Rattle.open_store.specs.Standing.{IsRoomier}
use Rattle.agent_core.specs.Calls.{IsIdle, OutcomeDevice, calls_by, checkpoint_calls}
use Rattle.agent_core.specs.Means.{AgentMay, FlushMeans, LineMeans, after_commit, after_line}
use Rattle.agent_core.specs.Seen.{AgentSeen, IsBatch, IsSeen, IsUp}
use Rattle.agent_core.specs.Standing.{Finishes}
use Rattle.agent_core.specs.declared.agent.Power.{Power}
use Rattle.agent_core.specs.declared.agent.Power.TheVariants.{Down, Up}
use Rattle.agent_core.specs.declared.outcome.Outcome.{Outcome}
use Rattle.agent_core.specs.declared.outcome.Outcome.TheVariants as outcome
use Rattle.agent_core.proofs.SeenLemmas.{from_parts, up_at_base, up_stores}
use Rattle.agent_core.proofs.StoreLemmas.{roomier_base}

pub down_up : (power : Power) → power ≡ Down → power ≡ Up → ⊥
down_up power is up = not_both (sym is ∙ up)
  where
    not_both : Down ≡ Up → ⊥
    not_both e = cc

false_true : ◌≡◌ {A = Bool} false true → ⊥
false_true e = cc

-- the same, but down
abbrev pub down_of : AgentSeen → AgentSeen
down_of a =
    record { world = a.world; base = a.base; pending = a.pending; held = a.held; up = false }

pub down_seen : {D : Type 0} (new : AgentView D) (w : View) (a : AgentSeen) (now : ℕ)
    → a.world.rest.now ≡ now → new.power ≡ Down → new.now ≡ now
    → LeavesUnder (list_of new) w → IsSeen new w (down_of a)
down_seen new w a now clock down same stores = record {
  up = (λ up. absurd (false_true up), λ up. absurd (down_up new.power down up));
  clock = clock ∙ sym same;
  stores = stores;
  standing = λ up. absurd (false_true up);
  short = λ up. absurd (false_true up);
}

-- ---- the batch is full

pub line_finished : {D : Type 0} (new : AgentView D) (w : View) (rules : List Rule) (batch : ℕ)
    (line : PlainAction) (a : AgentSeen) (may mid may' : AgentMay) (now : ℕ) (result : Outcome)
    → a.up ≡ true → length a.held + 1 ≡ batch → a.world.rest.now ≡ now
    → ((d : AgentDurable) (n : ℕ) → mid d n → may d n)
    → Finishes rules now (after_line rules a line) mid new w may' result
    → (b : AgentSeen) × IsSeen new w b × LineMeans rules batch line a may b may' result
line_finished new w rules batch line a may mid may' now (outcome.Replies given) up full clock back done =
    (after_commit rules (after_line rules a line), done.1, (up, full, (done.0, refl, done.2)))
line_finished new w rules batch line a may mid may' now outcome.Down up full clock back done = (
  down_of a,
  down_seen new w a now clock done.0 done.1 done.2,
  record {
    down = refl;
    rest = refl;
    images = λ d n left.
        ⊎_elim (λ (was : mid d n). inl (back d n was)) (λ at. inr ((up, full), at))
        (done.3 d n left);
  },
)
line_finished new w rules batch line a may mid may' now outcome.Held up full clock back done =
    absurd done
line_finished new w rules batch line a may mid may' now outcome.NoMemory up full clock back done =
    absurd done

pub flush_finished : {D : Type 0} (new : AgentView D) (w : View) (rules : List Rule)
    (a : AgentSeen) (may may' : AgentMay) (now : ℕ) (result : Outcome)
    → a.up ≡ true → a.world.rest.now ≡ now → Finishes rules now a may new w may' result
    → (b : AgentSeen) × IsSeen new w b × FlushMeans rules a may b may' result
flush_finished new w rules a may may' now (outcome.Replies given) up clock done =
    (after_commit rules a, done.1, (up, (done.0, refl, done.2)))
flush_finished new w rules a may may' now outcome.Down up clock done = (
  down_of a,
  down_seen new w a now clock done.0 done.1 done.2,
  record {
    down = refl;
    rest = refl;
    images = λ d n left.
        ⊎_elim (λ (was : may d n). inl was) (λ at. inr (up, at)) (done.3 d n left);
  },
)
flush_finished new w rules a may may' now outcome.Held up clock done = absurd done
flush_finished new w rules a may may' now outcome.NoMemory up clock done = absurd done

-- ---- the agent is not up

not_up : (up : Bool) → (up ≡ true → ⊥) → up ≡ false
not_up true never = absurd (never refl)
not_up false never = refl

pub seen_down : {D : Type 0} (x : AgentView D) (v : View) (a : AgentSeen) → IsSeen x v a
    → (x.power ≡ Up → ⊥) → a.up ≡ false
seen_down x v a seen off = not_up a.up (λ up. off (seen.up.0 up))

-- ---- want of memory

module _ {D : Type 0} (m m' : AgentState) (b b' : PlainBatch) (j j' : JournalView)
    (now opened checkpoint : ℕ) (power : Power) (disk disk' : D) (v w : View) (a : AgentSeen)
    (kept : HasNotRun m m' b b') (roomier : IsRoomier j j' v w) where
  pub kept_up : IsUp (from_parts m now b j opened checkpoint power disk) v a
      → IsUp (from_parts m' now b' j' opened checkpoint power disk') w a
  kept_up up = record {
    world = up.world ∙ sym kept.world;
    sound = up.sound;
    read = subst (λ (r : List Rule). IsReadWorld r a.world) (sym kept.rules) up.read;
    held = up.held ∙ sym kept.held;
    changes = kept.changes ∙ up.changes;
    count = up.count
        ∙ ap (λ (i : JournalView). since_opening i.changes opened) (sym roomier.journal);
    fits = up.fits;
    base = up.base;
    valid = up.valid;
    storable = up.storable;
    under = subst (λ (r : List Rule). IsUnder r up.base) (sym kept.rules) up.under;
    spelled = subst (λ (r : List Rule). IsSpelledStateUnder r up.base) (sym kept.rules) up.spelled;
    state = up.state;
    batch =
        subst (λ (r : List Rule). IsBatch r up.base a.pending b'.body a.world) (sym kept.rules)
        (record {
          bytes = kept.body ∙ up.batch.bytes;
          writable = up.batch.writable;
          under = up.batch.under;
          valid = up.batch.valid;
          saved = up.batch.saved;
        });
    store = roomier_base j j' v w up.base roomier up.store;
  }

-- ---- room was made

module _ (j j' : JournalView) (v w : View) (roomier : IsRoomier j j' v w) where
  pub roomier_may : (opened : ℕ) (d : AgentDurable) (n : ℕ)
      → may_find j'.digest opened w d n → may_find j.digest opened v d n
  unfolding may_find
  roomier_may opened d n left = (
    left.0,
    roomier.stays.no_more left.0 left.1,
    left.2,
    left.3,
    subst
        (λ (i : JournalView). StandsForState Takes nothing_saved i.digest left.0 left.2 left.3)
        roomier.journal left.4,
    left.5,
    left.6,
  )

  pub roomier_stores : (rules : List Rule)
      → LeavesUnder (record { rules = rules; digest = j.digest }) v
      → LeavesUnder (record { rules = rules; digest = j'.digest }) w
  roomier_stores rules stores tells file left =
      subst
      (λ (i : JournalView). IsSecond file × ((base : Saved) × (last : ℕ)
      × StandsForState Takes nothing_saved i.digest file base last × IsUnder rules base))
      (sym roomier.journal)
      (stores (sym roomier.stays.tells ∙ tells) file (roomier.stays.no_more file left))

pub not_run : {D : Type 0} (m m' : AgentState) (b b' : PlainBatch) (j j' : JournalView)
    (now opened checkpoint : ℕ) (power : Power) (disk disk' : D) (v w : View) (a : AgentSeen)
    → HasNotRun m m' b b' → IsRoomier j j' v w
    → IsSeen (from_parts m now b j opened checkpoint power disk) v a
    → IsSeen (from_parts m' now b' j' opened checkpoint power disk') w a
not_run m m' b b' j j' now opened checkpoint power disk disk' v w a kept roomier seen = record {
  up = seen.up;
  clock = seen.clock;
  stores =
      subst (λ (r : List Rule). LeavesUnder (record { rules = r; digest = j'.digest }) w)
      (sym kept.rules)
      (roomier_stores j j' v w roomier m.rules seen.stores);
  standing = λ up.
      kept_up m m' b b' j j' now opened checkpoint power disk disk' v w a kept roomier (seen.standing up);
  short = λ up. omega (arith, seen.short up, ap length kept.held, kept.size);
}

pub not_run_may : (m m' : AgentState) (b b' : PlainBatch) (j j' : JournalView) (opened : ℕ)
    (v w : View) → HasNotRun m m' b b' → IsRoomier j j' v w → (d : AgentDurable) (n : ℕ)
    → may_find j'.digest opened w d n → may_find j.digest opened v d n
not_run_may m m' b b' j j' opened v w kept roomier d n left =
    roomier_may j j' v w roomier opened d n left

-- ---- a line waits

pub line_waits : {D : Type 0} (m' : AgentState) (b b' : PlainBatch) (j' : JournalView)
    (opened checkpoint : ℕ) (power : Power) (disk' : D) (w : View) (rules : List Rule) (line : PlainAction)
    (a : AgentSeen) (may : AgentMay) (now : ℕ)
    → m'.rules ≡ rules → power ≡ Up → a.up ≡ true
    → b'.size ≡ b.size → length b'.held < b'.size → length b'.held ≡ length b.held + 1
    → length a.held ≡ length b.held
    → IsUp (from_parts m' now b' j' opened checkpoint power disk') w (after_line rules a line)
    → (s : AgentSeen) × IsSeen (from_parts m' m'.now b' j' opened checkpoint power disk') w s
    × LineMeans rules b.size line a may s
    (may_of (from_parts m' m'.now b' j' opened checkpoint power disk') w) outcome.Held
unfolding holding world_of whole_world
line_waits m' b b' j' opened checkpoint power disk' w rules line a may now same is_up up size short longer held here =
    let x = from_parts m' m'.now b' j' opened checkpoint power disk' in
    let after = after_line rules a line in
    let there : IsUp x w after = record {
      world = here.world;
      sound = here.sound;
      read = here.read;
      held = here.held;
      changes = here.changes;
      count = here.count;
      fits = here.fits;
      base = here.base;
      valid = here.valid;
      storable = here.storable;
      under = here.under;
      spelled = here.spelled;
      state = here.state;
      batch = here.batch;
      store = here.store;
    } in (
      after,
      record {
        up = (λ _. is_up, λ _. refl);
        clock = ap (λ (y : AgentWorld). y.rest.now) here.world;
        stores = up_stores x w after there;
        standing = λ _. there;
        short = λ _. short;
      },
      (up, omega (arith, size, short, longer, held), refl, up_at_base x w after there),
    )

-- ---- the device

module _ (j j' : JournalView) (v mid w : View) (roomier : IsRoomier j j' v mid) where
  off_before : WasOff mid w → WasOff v w
  off_before was = record {
    before = sym roomier.fine.off ∙ was.before;
    after = was.after;
    failures = was.failures ∙ roomier.fine.failures;
    cuts = was.cuts ∙ roomier.fine.cuts;
  }

  powered_before : FailedPowered mid w → FailedPowered v w
  powered_before failed = record {
    before = sym roomier.fine.off ∙ failed.before;
    counted =
        subst (λ (n : ℕ). Rose n w.failures) roomier.fine.failures failed.counted;
    one = subst (λ (n : ℕ). w.failures ≤ n + 1) roomier.fine.failures failed.one;
    cut =
        subst (λ (c : Option (List ℕ)). IsNextCut c w.cuts w.changing) roomier.fine.cuts
        failed.cut;
  }

  pub device_before : (most : ℕ) (result : Outcome) → OutcomeDevice most result mid w
      → OutcomeDevice most result v w
  device_before most result device = record {
    tells = device.tells ∙ roomier.stays.tells;
    later = omega (arith, device.later, roomier.stays.changing);
    calls = omega (arith, device.calls, roomier.stays.changing);
    spared = λ is. device.spared is ∙ roomier.stays.changing;
    down = λ is.
        let was = device.down is in (
          subst (λ (n : ℕ). Rose n w.faults) roomier.fine.faults was.0,
          ⊎_elim (λ (f : WasOff mid w). inl (off_before f))
              (λ (f : FailedPowered mid w). inr (powered_before f)) was.1,
        );
    others = λ is.
        let was = device.others is in
        record {
          faults = was.faults ∙ roomier.fine.faults;
          off = was.off ∙ roomier.fine.off;
          failures = was.failures ∙ roomier.fine.failures;
          cuts = was.cuts ∙ roomier.fine.cuts;
        };
  }

  -- no call was made
  pub device_none : (most : ℕ) (result : Outcome) → (result ≡ outcome.Down → ⊥)
      → OutcomeDevice most result v mid
  device_none most result other = record {
    tells = roomier.stays.tells;
    later = omega (arith, roomier.stays.changing);
    calls = omega (arith, roomier.stays.changing);
    spared = λ _. roomier.stays.changing;
    down = λ is. absurd (other is);
    others = λ _. roomier.fine;
  }

pub not_down : (given : Vec Reply Global) → outcome.Replies given ≡ outcome.Down → ⊥
not_down given e = cc

pub not_wanting : (given : Vec Reply Global) → outcome.Replies given ≡ outcome.NoMemory → ⊥
not_wanting given e = cc

down_not_wanting : outcome.Down ≡ outcome.NoMemory → ⊥
down_not_wanting e = cc

pub device_gave : {T E : Type 0} (most : ℕ) (result : Result T E) (v w : View)
    (given : Vec Reply Global) → HasNoFault v w → CommitDevice most result v w
    → OutcomeDevice most (outcome.Replies given) v w
device_gave most result v w given fine device = record {
  tells = device.tells;
  later = device.later;
  calls = device.calls;
  spared = λ is. absurd (not_wanting given is);
  down = λ is. absurd (not_down given is);
  others = λ _. fine;
}

pub device_failed : {T E : Type 0} (most : ℕ) (result : Result T E) (v w : View)
    → Rose v.faults w.faults × HasFailed v w → CommitDevice most result v w
    → OutcomeDevice most outcome.Down v w
device_failed most result v w failed device = record {
  tells = device.tells;
  later = device.later;
  calls = device.calls;
  spared = λ is. absurd (down_not_wanting is);
  down = λ _. failed;
  others = λ never. absurd (never refl);
}

-- ---- no call is made, and what is due stays

pub idle_roomier : {D : Type 0} (x y : AgentView D) (v w : View) → y.checkpoint ≡ x.checkpoint
    → IsRoomier x.journal y.journal v w → IsIdle x v y w
idle_roomier x y v w same roomier = record {
  calls = roomier.stays.changing;
  due = ap (λ n. is_due n y.journal) same
      ∙ ap (λ (i : JournalView). is_due x.checkpoint i) roomier.journal;
}

pub idle_then : {D : Type 0} (x y z : AgentView D) (u v w : View) → IsIdle x u y v → IsIdle y v z w
    → IsIdle x u z w
idle_then x y z u v w first second = record {
  calls = second.calls ∙ first.calls;
  due = second.due ∙ first.due;
}

-- ---- how many calls a flush makes

-- of a checkpoint that is due
pub calls_due : {D : Type 0} (x : AgentView D) (result : Outcome) (v w : View)
    → is_due x.checkpoint x.journal ≡ true → OutcomeDevice 7 result v w
    → OutcomeDevice (checkpoint_calls x) result v w
calls_due x result v w due device =
    subst (λ (d : Bool). OutcomeDevice (if d then 7 else 0) result v w) (sym due) device

-- with nothing held, those of a checkpoint
pub calls_none : (held : List PlainReply) (n : ℕ) (result : Outcome) (v w : View) → held ≡ []
    → OutcomeDevice n result v w → OutcomeDevice (calls_by held n) result v w
calls_none held n result v w none device =
    subst (λ (h : List PlainReply). OutcomeDevice (calls_by h n) result v w) (sym none) device

-- with a line held, those of a commit
pub calls_held : (held : List PlainReply) (n : ℕ) (result : Outcome) (v w : View)
    → (held ≡ [] → ⊥) → OutcomeDevice 4 result v w → OutcomeDevice (calls_by held n) result v w
calls_held [] n result v w some device = absurd (some refl)
calls_held (reply ∷ held) n result v w some device = device
